-- A line of width 1 between two cells of a sweep line lays the cells from the one to the other.
use Rattle.std.proofs.Common.{◌≡◌, ℕ, zero, suc, ◌+◌, ◌≤◌, Bool, true, false, cond, ◌&&◌, List, [], ◌∷◌, map, ℤ, pos, ◌+ℤ◌, ◌-ℤ◌, nat_abs, ◌≤ℤ◌, sym, refl, ap, ◌∙◌, arith}
use lib.Ieee as Ieee
use Rattle.std.specs.List.{range_with_len, flat_map}
use Rattle.std.specs.Int.{int_min, int_max}
use Rattle.std.proofs.lemmas.Bool.{and_from, le-leb}
use Rattle.std.proofs.lemmas.Int.{clamps, ints}
use Rattle.plotters_backend.specs.Color.{zero as nothing}
use Rattle.plotters_backend.specs.Run.{Pixel, all, refused}
use Rattle.plotters_backend.specs.declared.error.Refusal.TheVariants.{Far}
use Rattle.plotters_backend.specs.declared.style.BackendColor.{BackendColor}
use Rattle.rasterizer.specs.Judge.{near}
use Rattle.rasterizer.specs.Line.{cells, equal, inner_line, slanting, straight, thin}
use Rattle.outline.specs.Filling.{cells_in}
use Rattle.outline.specs.Lists.{rising, natural, from_to}
use Rattle.plotters_backend.specs.Axis.{turned}
use Rattle.plotters_backend.specs.declared.axis.Axis.{Axis}
use Rattle.plotters_backend.specs.declared.axis.Axis.TheVariants.{Columns, Rows}
use Rattle.polygon.specs.Walking.{inked}
use Rattle.outline.proofs.Rising.{natural_is, one_from}

-- what f gives at n numbers counted from the first, from the one at j on
counted : (f : ℤ → Pixel) (n j : ℕ) (first z : ℤ) → z ≡ first +ℤ pos j → flat_map (λ k. f (first +ℤ pos k) ∷ []) (range_with_len j n) ≡ map f (rising z n)
counted f zero j first z e = refl
counted f (suc n) j first z e = ap (λ (y : ℤ). f y ∷ flat_map (λ k. f (first +ℤ pos k) ∷ []) (range_with_len (j + 1) n)) (sym e) ∙ ap (λ (ps : List Pixel). f z ∷ ps) (counted f n (j + 1) first (z +ℤ pos 1) (omega (arith, ints)))

-- a straight line between two ends that rise lays the cells from the one to the other
straight_cells : (axis : Axis) (row x y : ℤ) (c : BackendColor) → x ≤ℤ y → straight axis row (x, y) c ≡ map (λ s. (turned axis (s, row), c)) (from_to x y)
straight_cells axis row x y c h =
    let low : int_min x y ≡ x = omega (arith, ints, clamps) in
    let high : int_max x y ≡ y = omega (arith, ints, clamps) in
    let d = natural_is ((y +ℤ pos 1) -ℤ x) (omega (arith, ints)) in
    let n : nat_abs (y -ℤ x) + 1 ≡ natural ((y +ℤ pos 1) -ℤ x) = omega (arith, ints) in
    ap (λ (z : ℤ). cells axis row z (int_max x y) c) low
    ∙ ap (λ (z : ℤ). cells axis row x z c) high
    ∙ counted (λ s. (turned axis (s, row), c)) (nat_abs (y -ℤ x) + 1) 0 x x (omega (arith, ints))
    ∙ ap (λ (k : ℕ). map (λ s. (turned axis (s, row), c)) (rising x k)) n

-- a number is the same as itself
equal_self : (a : ℤ) → equal a a ≡ true
equal_self a = grind (arith, ints)

-- a line between two cells of a sweep line, in rising order, lays the cells from the one to the other
pub run_line : (a : Axis) (m x y : ℤ) (c : BackendColor) → x ≤ℤ y → thin (turned a (m, x)) (turned a (m, y)) c ≡ inked a m c (from_to x y)
run_line Columns m x y c h = ap (λ (b : Bool). cond (Ieee.eq c.alpha nothing) [] (cond b (straight Rows m (x, y) c) (cond (equal x y) (straight Columns x (m, m) c) (slanting (m, x) (m, y) c)))) (equal_self m) ∙ ap (λ (ps : List Pixel). cond (Ieee.eq c.alpha nothing) [] ps) (straight_cells Rows m x y c h)
run_line Rows m x y c h = by (equal x y) refl
  where
    same : equal x y ≡ true → y ≡ x
    same e = grind (arith, ints)

    by : (b : Bool) → equal x y ≡ b → cond (Ieee.eq c.alpha nothing) [] (cond b (straight Rows x (m, m) c) (cond (equal m m) (straight Columns m (x, y) c) (slanting (x, m) (y, m) c))) ≡ inked Rows m c (from_to x y)
    by true e = ap (λ (ps : List Pixel). cond (Ieee.eq c.alpha nothing) [] ps) (straight_cells Rows x m m c (omega (arith, ints)) ∙ ap (map (λ s. ((x, s), c))) (one_from m) ∙ sym (ap (cells_in Rows m c) (ap (from_to x) (same e) ∙ one_from x)))
    by false e = ap (λ (b : Bool). cond (Ieee.eq c.alpha nothing) [] (cond b (straight Columns m (x, y) c) (slanting (x, m) (y, m) c))) (equal_self m) ∙ ap (λ (ps : List Pixel). cond (Ieee.eq c.alpha nothing) [] ps) (straight_cells Columns m x y c h)

-- a cell of a sweep line whose numbers lie within 32,767 of 0 passes the test
pub near_cell : (a : Axis) (m s : ℤ) → nat_abs m ≤ 32767 → nat_abs s ≤ 32767 → near (turned a (m, s)) ≡ true
near_cell Columns m s p q = and_from _ _ (le-leb (nat_abs m) 32767 p) (le-leb (nat_abs s) 32767 q)
near_cell Rows m s p q = and_from _ _ (le-leb (nat_abs s) 32767 q) (le-leb (nat_abs m) 32767 p)

-- the draw of such a line, near 0
pub run_inner : (a : Axis) (m x y : ℤ) (c : BackendColor) → x ≤ℤ y → nat_abs m ≤ 32767 → nat_abs x ≤ 32767 → nat_abs y ≤ 32767 → inner_line (turned a (m, x)) (turned a (m, y)) c ≡ all (inked a m c (from_to x y))
run_inner a m x y c h nm nx ny =
    ap (λ (b : Bool). cond (b && near (turned a (m, y))) (all (thin (turned a (m, x)) (turned a (m, y)) c)) (refused Far)) (near_cell a m x nm nx)
    ∙ ap (λ (b : Bool). cond b (all (thin (turned a (m, x)) (turned a (m, y)) c)) (refused Far)) (near_cell a m y nm ny)
    ∙ ap all (run_line a m x y c h)
