-- An alpha that equals 1 does not equal 0.
use Rattle.std.proofs.Common.{◌≡◌, ◌*◌, true, false, ◌||◌, eqb, pos, sym, refl, ap, ◌∙◌, arith}
use mathlib.Core.Bool.{beq}
use lib.Ieee as Ieee
use lib.Ieee.{Float, nan, inf, fin, up, down}
use lib.Ieee.Fits.{down_pos}
use Rattle.std.proofs.lemmas.Bool.{and_parts, and_left, eqb-true, ne_eqb}
use Rattle.plotters_backend.specs.Color.{one, zero}

-- one as a number
one_is : one ≡ fin false 1 (pos 0)
unfolding Ieee.of_bits
one_is = refl

-- zero as a number
zero_is : zero ≡ fin false 0 (pos 0)
unfolding Ieee.of_bits
zero_is = refl

-- what equals the one does not equal the other
shows : (x : Float) → Ieee.eq x (fin false 1 (pos 0)) ≡ true → Ieee.eq x (fin false 0 (pos 0)) ≡ false
unfolding Ieee.eq
shows nan h = refl
shows (inf s) h = refl
shows (fin s m e) h =
    let r = eqb-true (m * up e * 1) (1 * 1 * down e) (and_parts (eqb (m * up e * 1) (1 * 1 * down e)) (beq s false || eqb (m * up e * 1) 0) h).0 in
    let d = down_pos e in
    and_left (eqb (m * up e * 1) (0 * 1 * down e)) (beq s false || eqb (m * up e * 1) 0) (ne_eqb (m * up e * 1) (0 * 1 * down e) (λ z. omega arith))

-- an opaque alpha is not 0
pub opaque_shows : (x : Float) → Ieee.eq x one ≡ true → Ieee.eq x zero ≡ false
opaque_shows x h = ap (Ieee.eq x) zero_is ∙ shows x (sym (ap (Ieee.eq x) one_is) ∙ h)
