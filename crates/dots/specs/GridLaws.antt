-- The grid keeps the laws of a surface.
use Rattle.std.specs.Prelude.{◌≡◌, ℕ, ◌*◌, ◌/◌, ◌%◌, ◌<◌, ◌≤◌, Bool, true, false, cond, not, ◌&&◌, ◌≢◌, length, ℤ, pos, negsuc, Some, None, ◌==◌, nat_le, unsigned_abs, refl}
use Rattle.std.proofs.Common.{sym, ap, subst, ◌∙◌, arith, lit≤, length-set}
use Rattle.std.proofs.lemmas.Nat.{mul-add-lt, div-mul-add, mod-mul-add}
use Rattle.std.proofs.lemmas.List.{get_or-set_same, get_or-set_other}
use Rattle.std.proofs.lemmas.Bool.{false≢true, ltb-true, leb-true, eqb-true, and_parts, and_left}
use Rattle.plotters_backend.specs.Surface.{Lawful, within}
use Rattle.plotters_backend.specs.declared.style.BackendColor.{BackendColor}
use Rattle.dots.specs.declared.fault.SheetFault.{SheetFault}
use Rattle.dots.specs.declared.fault.SheetFault.TheVariants.{Full}
use Rattle.dots.specs.ColorLaws.{inked_opaque, inked_own, inked_clear}
use Rattle.dots.specs.Grid.{Grid, crowded, dot, dotted, grid, offset, sides, whole}

-- ---- places

-- a place of a size lies left of its width and above its height
pub within_parts : (s : ℕ × ℕ) (x y : ℕ) → within s (pos x, pos y) ≡ true → (x < s.0) × (y < s.1)
within_parts (w, h) x y e = let p = and_parts _ _ e in (ltb-true x w p.0, ltb-true y h p.1)

-- a point of a size has no negative coordinate
pub within_place : (s : ℕ × ℕ) (p : ℤ × ℤ) → within s p ≡ true → p ≡ (pos (unsigned_abs p.0), pos (unsigned_abs p.1))
within_place (w, h) (pos x, pos y) e = refl
within_place (w, h) (pos x, negsuc y) e = absurd (false≢true e)
within_place (w, h) (negsuc x, pos y) e = absurd (false≢true e)
within_place (w, h) (negsuc x, negsuc y) e = absurd (false≢true e)

-- what holds at a place that a grid shows: it has a dot
pub record Shown (g : Grid) (x y : ℕ) : Type 0 where
  pub left : x < g.size.0
  pub above : y < g.size.1
  pub there : offset g x y < length g.dots

-- the same, by whether the grid is whole
shown_by : (t : Bool) (g : Grid) (x y : ℕ) → whole g ≡ t → within (cond t g.size (0, 0)) (pos x, pos y) ≡ true → Shown g x y
shown_by true g x y w e =
    let k = within_parts g.size x y e in
    let n : length g.dots ≡ g.size.0 * g.size.1 = eqb-true (length g.dots) (g.size.0 * g.size.1) (and_parts (nat_le g.size.0 16384 && nat_le g.size.1 16384) _ w).1 in
    record { left = k.0; above = k.1; there = omega (arith, mul-add-lt y g.size.0 x g.size.1 k.1 k.0) }
shown_by false g x y w e = let k = within_parts (0, 0) x y e in absurd (omega (arith, k.0))

-- a place within the size of a grid is one
pub shown : (g : Grid) (x y : ℕ) → within (sides g) (pos x, pos y) ≡ true → Shown g x y
shown g x y e = shown_by (whole g) g x y refl e

-- two points that a grid shows, and that have one offset, are one
one_place : (g : Grid) (p : ℤ × ℤ) (x y : ℕ) → within (sides g) (pos x, pos y) ≡ true → within (sides g) p ≡ true → offset g x y ≡ offset g (unsigned_abs p.0) (unsigned_abs p.1) → p ≡ (pos x, pos y)
one_place g p x y i j e =
    let w = g.size.0 in
    let a = unsigned_abs p.0 in
    let b = unsigned_abs p.1 in
    let q = within_place (sides g) p j in
    let s = shown g x y i in
    let t = shown g a b (subst (λ (z : ℤ × ℤ). within (sides g) z ≡ true) q j) in
    let column : a ≡ x = sym (mod-mul-add b w a t.left) ∙ ap (λ (n : ℕ). n % w) (sym e) ∙ mod-mul-add y w x s.left in
    let row : b ≡ y = sym (div-mul-add b w a t.left) ∙ ap (λ (n : ℕ). n / w) (sym e) ∙ div-mul-add y w x s.left in
    q ∙ ap (λ (n : ℕ). (pos n, pos b)) column ∙ ap (λ (n : ℕ). (pos x, pos n)) row

-- ---- a pixel laid

-- a grid with a pixel laid where the test says so
abbrev put : Bool → Grid → ℤ × ℤ → BackendColor → Grid
put t g p c = cond t (record { size = g.size; dots = dotted g p c }) g

-- its size stays
put_sides : (t : Bool) (g : Grid) (p : ℤ × ℤ) (c : BackendColor) → sides (put t g p c) ≡ sides g
put_sides true g p c = ap (λ (n : ℕ). cond {A = ℕ × ℕ} ((nat_le g.size.0 16384 && nat_le g.size.1 16384) && n == g.size.0 * g.size.1) g.size (0, 0)) (length-set g.dots _ _)
put_sides false g p c = refl

-- and so does a dot at another offset
put_other : (t : Bool) (g : Grid) (p : ℤ × ℤ) (c : BackendColor) (x y : ℕ) → (t ≡ true → offset g x y ≢ offset g (unsigned_abs p.0) (unsigned_abs p.1)) → dot (put t g p c) x y ≡ dot g x y
put_other true g p c x y n = get_or-set_other g.dots (offset g (unsigned_abs p.0) (unsigned_abs p.1)) (offset g x y) _ false (n refl)
put_other false g p c x y n = refl

-- a pixel of the grid that is not refused is laid
laid_there : (w e : Bool) → w ≡ true → cond (w && e) (Some Full) None ≡ None → w && not e ≡ true
laid_there true true i r = absurd cc
laid_there true false i r = refl
laid_there false e i r = absurd (false≢true i)

-- and one that is refused is not
refused_not_laid : (w e : Bool) (f : SheetFault) → cond (w && e) (Some Full) None ≡ Some f → w && not e ≡ false
refused_not_laid true true f r = refl
refused_not_laid true false f r = absurd cc
refused_not_laid false e f r = refl

-- ---- the laws

-- no side of a grid is above 16,384, by whether it is whole
small_by : (t : Bool) (g : Grid) → whole g ≡ t → ((cond {A = ℕ × ℕ} t g.size (0, 0)).0 ≤ 16384) × ((cond {A = ℕ × ℕ} t g.size (0, 0)).1 ≤ 16384)
small_by true g w = let p = and_parts _ _ (and_parts _ _ w).0 in (leb-true _ _ p.0, leb-true _ _ p.1)
small_by false g w = (lit≤ tt, lit≤ tt)

-- all the laws
pub grid_lawful : Lawful grid
grid_lawful = record {
  small = λ g. small_by (whole g) g refl;
  keeps = λ g p c. put_sides (within (sides g) p && not (crowded (dotted g p c))) g p c;
  outside = λ g p c e. (ap (λ (t : Bool). cond t (Some Full) None) (and_left _ (crowded (dotted g p c)) e), ap (λ (t : Bool). put t g p c) (and_left _ (not (crowded (dotted g p c))) e));
  here = λ g x y c i r. ap (λ (t : Bool). dot (put t g (pos x, pos y) c) x y) (laid_there (within (sides g) (pos x, pos y)) (crowded (dotted g (pos x, pos y) c)) i r) ∙ get_or-set_same g.dots (offset g x y) _ false (shown g x y i).there;
  others = λ g p c x y i n. put_other (within (sides g) p && not (crowded (dotted g p c))) g p c x y (λ t e. n (one_place g p x y i (and_parts _ _ t).0 e));
  refused = λ g p c f r x y i. ap (λ (t : Bool). dot (put t g p c) x y) (refused_not_laid (within (sides g) p) (crowded (dotted g p c)) f r);
  opaque = inked_opaque;
  own = inked_own;
  clear = inked_clear;
}
