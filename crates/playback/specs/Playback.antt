-- What a script's play comes to.
use Rattle.std.specs.Prelude.{◌≡◌, ℕ, ◌+◌, cond, List, [], ◌∷◌, length, Some, None, Option, ◌==◌, ◌≢◌, nat_lt}
use Rattle.plotters_backend.specs.Color.{one}
use Rattle.plotters_backend.specs.Refusals.{number}
use Rattle.plotters_backend.specs.Sizes.{proper}
use Rattle.plotters_backend.specs.declared.error.Refusal.TheVariants as refusal
use Rattle.plotters_backend.specs.declared.style.BackendColor.{BackendColor}
use Rattle.dots.specs.Grid.{Grid, light}
use Rattle.dot_grid.specs.Answers.{answer_number}
use Rattle.dot_grid.specs.Replay.{drawn}
use Rattle.dot_grid.specs.declared.draw.Draw.{Draw}
use Rattle.dot_grid.specs.declared.draw.Draw.TheVariants.{Line}
use Rattle.script.specs.Commands.{draw_line, size_line}
use Rattle.script.specs.Text.{lines_of}
use Rattle.script.specs.declared.Command.{Command}
use Rattle.script.specs.declared.Command.TheVariants as command

abbrev pub black : BackendColor
black = record { alpha = one; rgb = (0, 0, 0) }

-- the draw that a command stands for: lines of width 1, so far
abbrev pub commanded : Command → Option Draw
commanded (command.Line w p q) = cond (w == 1) (Some (Line p q black)) None

-- the draw that a line asks for, if it is in its form
abbrev pub line_draw : List ℕ → Option Draw
line_draw line = elim (draw_line line) [ None ↦ None | Some c ↦ commanded c ]

-- the number that a line is answered with, and the grid after it: a line that asks for no draw changes nothing
abbrev pub line_answer : Grid → List ℕ → ℕ × Grid
line_answer g line = elim (line_draw line) [ None ↦ (number refusal.Line, g) | Some d ↦ (answer_number (drawn [] g d).0, (drawn [] g d).1) ]

-- the answers to lines in turn, numbered from n on, and the grid after the last
abbrev pub lines_answers : ℕ → Grid → List (List ℕ) → List (ℕ × ℕ) × Grid
lines_answers n g [] = ([], g)
lines_answers n g (l ∷ ls) = ((n, (line_answer g l).0) ∷ (lines_answers (n + 1) (line_answer g l).1 ls).0, (lines_answers (n + 1) (line_answer g l).1 ls).1)

-- one answer, and no sheet
abbrev pub stopped : ℕ → ℕ → List (ℕ × ℕ) × Option Grid
stopped line answer = ((line, answer) ∷ [], None)

-- the answers to the lines after the first, on a light sheet of the size that it asks for, and that sheet
abbrev pub opened : ℕ × ℕ → List (List ℕ) → List (ℕ × ℕ) × Option Grid
opened s ls = cond (proper s) ((lines_answers 2 (light s) ls).0, Some (lines_answers 2 (light s) ls).1) (stopped 1 (number refusal.Size))

abbrev pub begun : List (List ℕ) → List (ℕ × ℕ) × Option Grid
begun [] = stopped 1 (number refusal.Line)
begun (l ∷ ls) = elim (size_line l) [ None ↦ stopped 1 (number refusal.Line) | Some s ↦ opened s ls ]

abbrev pub played : List ℕ → List (ℕ × ℕ) × Option Grid
played text = cond (nat_lt 32768 (length text)) (stopped 0 (number refusal.Line)) (begun (lines_of text))

-- an answer that is neither success nor a full sheet leaves the dots as they were
abbrev pub Kept : ℕ → Grid → Grid → Type 0
Kept r g h = (r ≢ 0) → (r ≢ number refusal.Full) → h ≡ g
