-- A sheet by its dots.
use Rattle.std.specs.Prelude.{◌≡◌, ℕ, ◌*◌, ◌<◌, ◌≤◌, Bool, List, length, Ok, Err, vec_items, Result, slice_set}
use Rattle.dots.specs.declared.pair.Pair.{Pair}
use Rattle.run_sheet.specs.declared.sheet.RunSheet.{RunSheet}
use Rattle.dots.specs.declared.fault.SheetFault.{SheetFault}
use Rattle.dots.specs.declared.fault.SheetFault.TheVariants.{Full}
use Rattle.dots.specs.Dots.{Canon, dots_of, pairs_of}
use Rattle.dots.specs.Grid.{Grid}

-- how many dots a sheet has
abbrev pub area : RunSheet → ℕ
area s = s.size.0 * s.size.1

-- the pairs that it holds
abbrev pub held : RunSheet → List Pair
held s = vec_items s.pairs

-- the grid of dots that it means
abbrev pub grid_of : RunSheet → Grid
grid_of s = record { size = s.size; dots = dots_of (area s) (held s) }

-- The pairs ps keep the rules of form, have the dots of the grid, and are the only ones that do both.
pub record OneForm (g : Grid) (ps : List Pair) : Type 0 where
  pub canon : Canon (length g.dots) 0 ps
  pub dots : dots_of (length g.dots) ps ≡ g.dots
  pub only : (qs : List Pair) → Canon (length g.dots) 0 qs → dots_of (length g.dots) qs ≡ g.dots → qs ≡ ps

-- A dot b laid at the offset o of the sheet s leaves the sheet t with that one dot laid, unless that makes more than 4,096 pairs:
-- then it is refused, and the sheet is as it was.
abbrev pub Lays : RunSheet → RunSheet → ℕ → Bool → Result Unit SheetFault → Type 0
Lays s t o b (Ok _) = (t.size ≡ s.size) × ((grid_of t).dots ≡ slice_set (grid_of s).dots o b) × (length (pairs_of (slice_set (grid_of s).dots o b)) ≤ 4096)
Lays s t o b (Err Full) = (t ≡ s) × (4096 < length (pairs_of (slice_set (grid_of s).dots o b)))
