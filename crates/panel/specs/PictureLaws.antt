-- The picture keeps the laws of a surface.
use Rattle.std.specs.Prelude.{◌≡◌, ℕ, ◌+◌, ◌*◌, ◌/◌, ◌%◌, ◌<◌, ◌≤◌, Bool, true, false, cond, ◌≢◌, List, length, ℤ, pos, negsuc, slice_index, slice_set, unsigned_abs, refl}
use Rattle.std.proofs.Common.{sym, ap, subst, ◌∙◌, arith, lit≤, length-set}
use Rattle.std.proofs.lemmas.Nat.{mul-add-lt, div-mul-add, mod-mul-add}
use Rattle.std.proofs.lemmas.List.{get_or-set_same, get_or-set_other}
use Rattle.std.proofs.lemmas.Bool.{false≢true, ltb-true, leb-true, and_parts}
use Rattle.plotters_backend.specs.Surface.{Lawful, within}
use Rattle.plotters_backend.specs.declared.style.BackendColor.{BackendColor}
use Rattle.panel.specs.Blend.{blend}
use Rattle.panel.specs.ColorLaws.{same_cell, blend_opaque, blend_own, blend_clear}
use Rattle.panel.specs.Picture.{Picture, proper, shown, sides, start, three, put, cell, blended, picture}

-- ---- places

-- a place of a size lies left of its width and above its height
pub within_parts : (s : ℕ × ℕ) (x y : ℕ) → within s (pos x, pos y) ≡ true → (x < s.0) × (y < s.1)
within_parts (w, h) x y e = let p = and_parts _ _ e in (ltb-true x w p.0, ltb-true y h p.1)

-- a point of a size has no negative coordinate
pub within_place : (s : ℕ × ℕ) (p : ℤ × ℤ) → within s p ≡ true → p ≡ (pos (unsigned_abs p.0), pos (unsigned_abs p.1))
within_place (w, h) (pos x, pos y) e = refl
within_place (w, h) (pos x, negsuc y) e = absurd (false≢true e)
within_place (w, h) (negsuc x, pos y) e = absurd (false≢true e)
within_place (w, h) (negsuc x, negsuc y) e = absurd (false≢true e)

-- what holds of a size that n bytes show
pub record Proper (s : ℕ × ℕ) (n : ℕ) : Type 0 where
  pub wide : s.0 ≤ 16384
  pub high : s.1 ≤ 16384
  pub room : 3 * (s.0 * s.1) ≤ n

pub proper_parts : (s : ℕ × ℕ) (n : ℕ) → proper s n ≡ true → Proper s n
proper_parts s n e =
    let p = and_parts _ _ e in
    let q = and_parts _ _ p.0 in
    record { wide = leb-true _ _ (and_parts _ _ q.0).1; high = leb-true _ _ (and_parts _ _ q.1).1; room = leb-true _ _ p.1 }

-- what holds at a place that a picture shows: it has three bytes
pub record Shown (g : Picture) (x y : ℕ) : Type 0 where
  pub left : x < g.size.0
  pub above : y < g.size.1
  pub there : start g x y + 3 ≤ length g.bytes

place_by : (t : Bool) (g : Picture) (x y : ℕ) → proper g.size (length g.bytes) ≡ t → within (cond t g.size (0, 0)) (pos x, pos y) ≡ true → Shown g x y
place_by true g x y w e =
    let k = within_parts g.size x y e in
    let n = proper_parts g.size (length g.bytes) w in
    record { left = k.0; above = k.1; there = omega (arith, n.room, mul-add-lt y g.size.0 x g.size.1 k.1 k.0) }
place_by false g x y w e = let k = within_parts (0, 0) x y e in absurd (omega (arith, k.0))

pub at_place : (g : Picture) (x y : ℕ) → within (sides g) (pos x, pos y) ≡ true → Shown g x y
at_place g x y e = place_by (proper g.size (length g.bytes)) g x y refl e

-- the same of any point
pub at_point : (g : Picture) (p : ℤ × ℤ) → within (sides g) p ≡ true → Shown g (unsigned_abs p.0) (unsigned_abs p.1)
at_point g p e = at_place g (unsigned_abs p.0) (unsigned_abs p.1) (subst (λ (z : ℤ × ℤ). within (sides g) z ≡ true) (within_place (sides g) p e) e)

-- two points that a picture shows, and whose bytes begin at one place, are one
one_place : (g : Picture) (p : ℤ × ℤ) (x y : ℕ) → within (sides g) (pos x, pos y) ≡ true → within (sides g) p ≡ true → start g x y ≡ start g (unsigned_abs p.0) (unsigned_abs p.1) → p ≡ (pos x, pos y)
one_place g p x y i j e =
    let w = g.size.0 in
    let a = unsigned_abs p.0 in
    let b = unsigned_abs p.1 in
    let f : y * w + x ≡ b * w + a = omega arith in
    let s = at_place g x y i in
    let t = at_point g p j in
    let column : a ≡ x = sym (mod-mul-add b w a t.left) ∙ ap (λ (n : ℕ). n % w) (sym f) ∙ mod-mul-add y w x s.left in
    let row : b ≡ y = sym (div-mul-add b w a t.left) ∙ ap (λ (n : ℕ). n / w) (sym f) ∙ div-mul-add y w x s.left in
    within_place (sides g) p j ∙ ap (λ (n : ℕ). (pos n, pos b)) column ∙ ap (λ (n : ℕ). (pos x, pos n)) row

-- ---- three bytes set

pub put_length : (bs : List ℕ) (k : ℕ) (t : ℕ × ℕ × ℕ) → length (put bs k t) ≡ length bs
put_length bs k t = simp length-set

-- a byte that is none of the three stays
pub put_get_d : (bs : List ℕ) (k : ℕ) (t : ℕ × ℕ × ℕ) (j : ℕ) → j ≢ k → j ≢ k + 1 → j ≢ k + 2 → slice_index (put bs k t) j ≡ slice_index bs j
put_get_d bs k t j a b c = get_or-set_other _ (k + 2) j _ 0 c ∙ get_or-set_other _ (k + 1) j _ 0 b ∙ get_or-set_other bs k j _ 0 a

-- the three are what was set
put_three : (bs : List ℕ) (k : ℕ) (t : ℕ × ℕ × ℕ) → k + 3 ≤ length bs → three (put bs k t) k ≡ t
put_three bs k t h =
    let s1 = slice_set bs k t.0 in
    let s2 = slice_set s1 (k + 1) t.1 in
    let l1 : length s1 ≡ length bs = length-set bs k t.0 in
    let l2 : length s2 ≡ length s1 = length-set s1 (k + 1) t.1 in
    same_cell _ _ _ _ _ _
    (get_or-set_other s2 (k + 2) k t.2 0 (omega arith) ∙ get_or-set_other s1 (k + 1) k t.1 0 (omega arith) ∙ get_or-set_same bs k t.0 0 (omega arith))
    (get_or-set_other s2 (k + 2) (k + 1) t.2 0 (omega arith) ∙ get_or-set_same s1 (k + 1) t.1 0 (omega arith))
    (get_or-set_same s2 (k + 2) t.2 0 (omega arith))

-- another cell's three bytes stay
put_other : (bs : List ℕ) (m n : ℕ) (t : ℕ × ℕ × ℕ) → m ≢ n → three (put bs (3 * n) t) (3 * m) ≡ three bs (3 * m)
put_other bs m n t a =
    same_cell _ _ _ _ _ _
    (put_get_d bs (3 * n) t (3 * m) (omega arith) (omega arith) (omega arith))
    (put_get_d bs (3 * n) t (3 * m + 1) (omega arith) (omega arith) (omega arith))
    (put_get_d bs (3 * n) t (3 * m + 2) (omega arith) (omega arith) (omega arith))

-- ---- the laws

-- a picture with a pixel laid where the test says so
abbrev lays : Bool → Picture → ℤ × ℤ → BackendColor → Picture
lays t g p c = cond t (record { size = g.size; bytes = blended g.bytes (start g (unsigned_abs p.0) (unsigned_abs p.1)) c }) g

lays_sides : (t : Bool) (g : Picture) (p : ℤ × ℤ) (c : BackendColor) → sides (lays t g p c) ≡ sides g
lays_sides true g p c = ap (λ (n : ℕ). shown g.size n) (put_length g.bytes _ _)
lays_sides false g p c = refl

lays_other : (t : Bool) (g : Picture) (p : ℤ × ℤ) (c : BackendColor) (x y : ℕ) → (t ≡ true → start g x y ≢ start g (unsigned_abs p.0) (unsigned_abs p.1)) → cell (lays t g p c) x y ≡ cell g x y
lays_other true g p c x y n = put_other g.bytes (y * g.size.0 + x) (unsigned_abs p.1 * g.size.0 + unsigned_abs p.0) _ (λ e. n refl (ap (λ (k : ℕ). 3 * k) e))
lays_other false g p c x y n = refl

small_by : (t : Bool) (s : ℕ × ℕ) (n : ℕ) → proper s n ≡ t → ((cond {A = ℕ × ℕ} t s (0, 0)).0 ≤ 16384) × ((cond {A = ℕ × ℕ} t s (0, 0)).1 ≤ 16384)
small_by true s n e = let p = proper_parts s n e in (p.wide, p.high)
small_by false s n e = (lit≤ tt, lit≤ tt)

pub picture_lawful : Lawful picture
picture_lawful = record {
  small = λ g. small_by (proper g.size (length g.bytes)) g.size (length g.bytes) refl;
  keeps = λ g p c. lays_sides (within (sides g) p) g p c;
  outside = λ g p c e. (refl, ap (λ (t : Bool). lays t g p c) e);
  here = λ g x y c i r. ap (λ (t : Bool). cell (lays t g (pos x, pos y) c) x y) i ∙ put_three g.bytes (start g x y) (blend (cell g x y) c) (at_place g x y i).there;
  others = λ g p c x y i n. lays_other (within (sides g) p) g p c x y (λ t e. n (one_place g p x y i t e));
  refused = λ g p c f r x y i. let z : ◌≡◌ {A = ℕ} 0 1 = cc in absurd (omega arith);
  opaque = blend_opaque;
  own = blend_own;
  clear = blend_clear;
}
