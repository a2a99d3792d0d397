-- The loop over the cells of a straight line.
use Rattle.std.proofs.Common.{◌≡◌, ℕ, ◌+◌, ◌≤◌, true, false, List, [], ◌∷◌, ℤ, pos, ◌+ℤ◌, ◌-ℤ◌, nat_abs, ◌≤ℤ◌, ◌<ℤ◌, Ok, Err, sym, ap, ◌∙◌, arith, w32, SFits, to_z, of_z}
use borrow.Author.Differences.{ints}
use lib.Signed.{lt_z}
use Rattle.std.specs.Int.{int_max, int_min}
use Rattle.std.proofs.lemmas.Int.{clamps}
use Rattle.plotters_backend.specs.Surface.{Surface, answer}
use Rattle.plotters_backend.specs.Run.{Answer, Pixel, all, run}
use Rattle.plotters_backend.specs.declared.axis.Axis.{Axis}
use Rattle.plotters_backend.specs.declared.style.BackendColor.{BackendColor}
use Rattle.plotters_backend.specs.declared.error.DrawingErrorKind.{DrawingErrorKind}
use Rattle.plotters_backend.proofs.Runs.{one_pixel}
use Rattle.rasterizer.specs.Line.{cells, straight}
use Rattle.plotters_backend.specs.Axis.{turned}
use Rattle.rasterizer.proofs.Turns.{Left, back_at, left_all, left_more, left_stop, left_none}

-- the greater of two near numbers is near
pub max_near : (a b z : ℤ) → nat_abs a ≤ 32767 → nat_abs b ≤ 32767 → z ≡ int_max a b → z ≤ℤ pos 32767
max_near a b z p q e = omega (arith, ints, clamps)

-- what the loop's test says
pub test_in : (x last t : ℤ) → last ≤ℤ pos 32767 → SFits w32 last → t ≡ x → lt_z t (to_z w32 (of_z w32 (to_z w32 (of_z w32 last) +ℤ pos 1))) ≡ true → x ≤ℤ last
test_in x last t p f e h = omega (arith, ints, h)

pub test_out : (x last t : ℤ) → last ≤ℤ pos 32767 → SFits w32 last → t ≡ x → lt_z t (to_z w32 (of_z w32 (to_z w32 (of_z w32 last) +ℤ pos 1))) ≡ false → last <ℤ x
test_out x last t p f e h = omega (arith, ints, h)

-- the number after x fits
pub next_fits : (x first last : ℤ) → first ≤ℤ x → x ≤ℤ last → last ≤ℤ pos 32767 → SFits w32 first → SFits w32 (x +ℤ pos 1)
next_fits x first last a b d f = omega (arith, ints)

module _ {E : Type 0} (S : Surface E) (axis : Axis) (row first last : ℤ) (c : BackendColor) where
  abbrev count : ℕ
  count = nat_abs (last -ℤ first) + 1

  abbrev cell : ℕ → List Pixel
  cell k = (turned axis (first +ℤ pos k, row), c) ∷ []

  -- what is left of the cells when the loop comes to x
  pub record CellsLeft (x : ℤ) (h₀ h : S.Held) : Type 0 where
    pub rises : first ≤ℤ last
    pub left : Left S count cell first x h₀ h

  pub cells_all : (h : S.Held) → first ≤ℤ last → CellsLeft first h h
  cells_all h r = record { rises = r; left = left_all S count cell first h }

  -- a pixel at x is the cell of that turn
  at_turn : (x : ℤ) (p : ℤ × ℤ) (h h' : S.Held) (r : Answer E) → first ≤ℤ x → p ≡ turned axis (x, row) → r ≡ answer (S.refuses h p c) → h' ≡ S.laid h p c → (r, h') ≡ run S h (all (cell (nat_abs (x -ℤ first))))
  at_turn x p h h' r low e a s = one_pixel S h h' p c r a s ∙ ap (λ (q : ℤ × ℤ). run S h (all ((q, c) ∷ []))) (e ∙ ap (λ (z : ℤ). turned axis (z, row)) (sym (back_at first x low)))

  pub cells_more : (x : ℤ) (p : ℤ × ℤ) (h₀ h h' : S.Held) (r : Answer E) → CellsLeft x h₀ h → x ≤ℤ last → p ≡ turned axis (x, row) → r ≡ answer (S.refuses h p c) → h' ≡ S.laid h p c → r ≡ Ok tt → CellsLeft (x +ℤ pos 1) h₀ h'
  cells_more x p h₀ h h' r l le e a s ok =
      let low = l.left.low in
      let rises = l.rises in
      let lt : x <ℤ (first +ℤ pos count) = omega (arith, ints) in
      record { rises = l.rises; left = left_more S count cell first x h₀ h h' r l.left lt (at_turn x p h h' r l.left.low e a s) ok }

  pub cells_stop : (x : ℤ) (p : ℤ × ℤ) (h₀ h h' : S.Held) (r : Answer E) (k : DrawingErrorKind E) → CellsLeft x h₀ h → x ≤ℤ last → p ≡ turned axis (x, row) → r ≡ answer (S.refuses h p c) → h' ≡ S.laid h p c → r ≡ Err k → (Err k, h') ≡ run S h₀ (all (cells axis row first last c))
  cells_stop x p h₀ h h' r k l le e a s bad =
      let low = l.left.low in
      let rises = l.rises in
      let lt : x <ℤ (first +ℤ pos count) = omega (arith, ints) in
      sym (left_stop S count cell first x h₀ h h' r k l.left lt (at_turn x p h h' r l.left.low e a s) bad)

  pub cells_none : (x : ℤ) (h₀ h : S.Held) → CellsLeft x h₀ h → last <ℤ x → (Ok tt, h) ≡ run S h₀ (all (cells axis row first last c))
  cells_none x h₀ h l lt =
      let rises = l.rises in
      sym (left_none S count cell first x h₀ h l.left (omega (arith, ints)))

  -- the cells between the lesser and the greater of two ends
  pub as_straight : (ends : ℤ × ℤ) → first ≡ int_min ends.0 ends.1 → last ≡ int_max ends.0 ends.1 → cells axis row first last c ≡ straight axis row ends c
  as_straight ends p q = ap (λ (z : ℤ). cells axis row z last c) p ∙ ap (λ (z : ℤ). cells axis row (int_min ends.0 ends.1) z c) q
