-- The walk over the marks of a sweep line: at most one run of covered cells in hand.
use Rattle.std.specs.Prelude.{◌≡◌, ℕ, ◌≤◌, Bool, true, false, cond, List, [], length, ℤ, pos, ◌+ℤ◌, ◌-ℤ◌, ◌≤ℤ◌, ◌<ℤ◌, Some, None, Ok, Err, filter, Option, Result, unsigned_abs}
use Rattle.std.specs.Float.Ieee as Ieee
use Rattle.plotters_backend.specs.Color.{zero}
use Rattle.plotters_backend.specs.Run.{Pixel, all, run}
use Rattle.plotters_backend.specs.Surface.{Surface}
use Rattle.plotters_backend.specs.declared.error.DrawingErrorKind.{DrawingErrorKind}
use Rattle.plotters_backend.specs.declared.style.BackendColor.{BackendColor}
use Rattle.outline.specs.Filling.{cells_in}
use Rattle.outline.specs.Lists.{from_to, natural}
use Rattle.plotters_backend.specs.declared.axis.Axis.{Axis}
use Rattle.polygon.specs.Marking.{covers}

-- cells of the sweep line m as lines of width 1 lay them: none at alpha 0
abbrev pub inked : Axis → ℤ → BackendColor → List ℤ → List Pixel
inked a m c ss = cond (Ieee.eq c.alpha zero) [] (cells_in a m c ss)

-- the run in hand, by its first cell, after the cell c, which is covered or not
abbrev pub next : Option ℤ → Bool → ℤ → Option ℤ
next None true c = Some c
next None false c = None
next (Some a) true c = Some a
next (Some a) false c = None

-- the cells that are laid at the cell c: the run in hand, where it ends before c
abbrev pub laid_at : Option ℤ → Bool → ℤ → List ℤ
laid_at None true c = []
laid_at None false c = []
laid_at (Some a) true c = []
laid_at (Some a) false c = from_to a (c -ℤ pos 1)

-- Taking the cell c with a run in hand, on a surface that held h and then holds h': the cells laid at c are drawn, and it answers the run then in hand, or the fault that ended the draw.
abbrev pub Taken : {E : Type 0} (S : Surface E) → Axis → ℤ → BackendColor → Option ℤ → Bool → ℤ → S.Held → S.Held → Result (Option ℤ) (DrawingErrorKind E) → Type 0
Taken S a m k hand b c h h' (Ok n) = (n ≡ next hand b c) × (run S h (all (inked a m k (laid_at hand b c))) ≡ (Ok tt, h'))
Taken S a m k hand b c h h' (Err f) = run S h (all (inked a m k (laid_at hand b c))) ≡ (Err f, h')

-- a run in hand begins near 0, and before the cell c
abbrev pub Begun : Option ℤ → ℤ → Type 0
Begun None c = Unit {0}
Begun (Some a) c = (unsigned_abs a ≤ 32767) × (a <ℤ c)

-- the sweep line m, the run in hand and the cells before c lie within 32,767 of 0
pub record Reach (m : ℤ) (hand : Option ℤ) (c : ℤ) : Type 0 where
  pub line : unsigned_abs m ≤ 32767
  pub begun : Begun hand c
  pub upto : c ≤ℤ pos 32768

-- the cell z is covered, by marks that are counted from first
abbrev pub covered_from : ℤ → List ℕ → ℤ → Bool
covered_from first ms z = covers ms (natural (z -ℤ first))

-- the cells that have a mark, those of them that are covered, in rising order
abbrev pub covered_cells : ℤ → List ℕ → List ℤ
covered_cells first ms = filter (covered_from first ms) (from_to first ((first +ℤ pos (length ms)) -ℤ pos 1))

-- the sweep line, and the cells from first on that have one of n marks, lie within 32,767 of 0
pub record Walkable (m first : ℤ) (n : ℕ) : Type 0 where
  pub line : unsigned_abs m ≤ 32767
  pub start : unsigned_abs first ≤ 32767
  pub stop : unsigned_abs (first +ℤ pos n) ≤ 32768
