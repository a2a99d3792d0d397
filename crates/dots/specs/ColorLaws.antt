-- The colour rule of a grid keeps the laws of a surface's rule.
use Rattle.std.specs.Prelude.{◌≡◌, suc, ◌*◌, ◌^◌, ◌<◌, Bool, true, false, cond, ltb, pos, negsuc, Some, None, nat_lt, refl, Float}
use Rattle.std.proofs.Common.{sym, ap, ◌∙◌, arith, pow_pos}
use Rattle.std.specs.Float.Ieee as Ieee
use Rattle.std.specs.Float.{nan, inf, fin}
use Rattle.std.proofs.lemmas.Bool.{true≢false, false≢true, eqb-true, ltb-false, lt-ltb, le-ltb, ne_eqb, and_parts, and_left, and_right, or_left, or_from}
use Rattle.plotters_backend.specs.Color.{zero, one, solid}
use Rattle.plotters_backend.specs.declared.style.BackendColor.{BackendColor}
use Rattle.dots.specs.Grid.{half, luma, inked}

-- 0.5 is at most 1.0
half_one : Ieee.le half one ≡ true
unfolding Ieee.le Ieee.lt Ieee.eq Ieee.of_bits Ieee.of_fields
half_one = refl

-- and at most any alpha that equals 1.0
half_opaque : (a : Float) → Ieee.eq a one ≡ true → Ieee.le half a ≡ true
unfolding Ieee.le Ieee.lt Ieee.eq Ieee.of_bits Ieee.of_fields
half_opaque nan e = absurd (false≢true e)
half_opaque (inf s) e = absurd (false≢true e)
half_opaque (fin true m (pos k)) e =
    let p = and_parts _ _ e in
    let a = eqb-true (m * 2 ^ k * 1) 1 p.0 in
    let z = eqb-true (m * 2 ^ k * 1) 0 p.1 in
    absurd (omega arith)
half_opaque (fin true m (negsuc k)) e =
    let p = and_parts _ _ e in
    let a = eqb-true (m * 1 * 1) (1 * 2 ^ suc k) p.0 in
    let z = eqb-true (m * 1 * 1) 0 p.1 in
    let q : 0 < 2 ^ suc k = pow_pos (suc k) in
    absurd (omega arith)
half_opaque (fin false m (pos k)) e =
    let a = eqb-true (m * 2 ^ k * 1) 1 (and_parts _ _ e).0 in
    or_left _ _ (lt-ltb 1 (m * 2 ^ k * 2) (omega arith))
half_opaque (fin false m (negsuc k)) e =
    let a = eqb-true (m * 1 * 1) (1 * 2 ^ suc k) (and_parts _ _ e).0 in
    let q : 0 < 2 ^ suc k = pow_pos (suc k) in
    or_left _ _ (lt-ltb (1 * 2 ^ suc k) (m * 1 * 2) (omega arith))

-- but at most no alpha that is not above 0.0
half_clear : (a : Float) → Ieee.lt zero a ≡ false → Ieee.le half a ≡ false
unfolding Ieee.le Ieee.lt Ieee.eq Ieee.of_bits Ieee.of_fields
half_clear nan e = refl
half_clear (inf true) e = refl
half_clear (inf false) e = absurd (true≢false e)
half_clear (fin true m (pos k)) e = and_right _ false refl
half_clear (fin true m (negsuc k)) e =
    let q : 0 < 2 ^ suc k = pow_pos (suc k) in
    and_right _ _ (ne_eqb (1 * 2 ^ suc k) 0 (omega arith))
half_clear (fin false m (pos k)) e =
    let a = ltb-false 0 (m * 2 ^ k * 1) e in
    or_from _ _ (le-ltb 1 (m * 2 ^ k * 2) (omega arith)) (and_left _ _ (ne_eqb 1 (m * 2 ^ k * 2) (omega arith)))
half_clear (fin false m (negsuc k)) e =
    let a = ltb-false (0 * 2 ^ suc k) (m * 1 * 1) e in
    let q : 0 < 2 ^ suc k = pow_pos (suc k) in
    or_from _ _ (le-ltb (1 * 2 ^ suc k) (m * 1 * 2) (omega arith)) (and_left _ _ (ne_eqb (1 * 2 ^ suc k) (m * 1 * 2) (omega arith)))

-- what a colour makes of a dot, by whether its alpha is at least 0.5
abbrev ink : Bool → Bool → BackendColor → Bool
ink t d c = elim (cond t (Some (nat_lt (luma c) 127500)) None) [ None ↦ d | Some b ↦ b ]

-- over its own cell it makes that cell, whatever its alpha
ink_own : (t : Bool) (c : BackendColor) → ink t (nat_lt (luma c) 127500) c ≡ nat_lt (luma c) 127500
ink_own true c = refl
ink_own false c = refl

-- a colour whose alpha is at least 0.5 makes the same of every dot
pub inked_strong : (c : BackendColor) (d : Bool) → Ieee.le half c.alpha ≡ true → inked d c ≡ nat_lt (luma c) 127500
inked_strong c d e = ap (λ (t : Bool). ink t d c) e

-- and any other leaves each
pub inked_weak : (c : BackendColor) (d : Bool) → Ieee.le half c.alpha ≡ false → inked d c ≡ d
inked_weak c d e = ap (λ (t : Bool). ink t d c) e

-- an opaque colour gives the same dot over every dot
pub inked_opaque : (c : BackendColor) → Ieee.eq c.alpha one ≡ true → (a b : Bool) → inked a c ≡ inked b c
inked_opaque c e a b =
    let t = half_opaque c.alpha e in
    inked_strong c a t ∙ sym (inked_strong c b t)

-- a colour at any alpha leaves the dot of its opaque self
pub inked_own : (c : BackendColor) (a : Bool) → inked (inked a (solid c)) c ≡ inked a (solid c)
inked_own c a =
    let s : inked a (solid c) ≡ ltb (luma c) 127500 = inked_strong (solid c) a half_one in
    ap (λ (d : Bool). inked d c) s ∙ ink_own (Ieee.le half c.alpha) c ∙ sym s

-- an alpha that is zero, negative or not a number leaves every dot
pub inked_clear : (c : BackendColor) → Ieee.lt zero c.alpha ≡ false → (a : Bool) → inked a c ≡ a
inked_clear c e a = inked_weak c a (half_clear c.alpha e)
