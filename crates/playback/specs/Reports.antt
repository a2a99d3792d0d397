-- A report by what it tells: the answers, and the dots of the sheet.
use Rattle.std.specs.Prelude.{ℕ, List, [], ◌++◌, map, vec_items, None, Some, Option, Result}
use Rattle.std.specs.List.{flat_map}
use Rattle.std.specs.Option.{option_map}
use Rattle.plotters_backend.specs.Refusals.{number_of}
use Rattle.plotters_backend.specs.declared.error.Refusal.{Refusal}
use Rattle.dots.specs.Grid.{Grid}
use Rattle.run_sheet.specs.Sheets.{grid_of}
use Rattle.run_sheet.specs.Texts.{grid_text, line_text}
use Rattle.playback.specs.declared.report.Report.{Report}

-- answers by their numbers
abbrev pub numbered : List (ℕ × Result (Unit {0}) Refusal) → List (ℕ × ℕ)
numbered rs = map (λ r. (r.0, number_of r.1)) rs

abbrev pub reported : Report → List (ℕ × ℕ) × Option Grid
reported r = (numbered (vec_items r.answers), option_map grid_of r.sheet)

-- an answer: the number of the line, and the answer's own
abbrev pub answer_text : ℕ × ℕ → List ℕ
answer_text r = line_text r.0 r.1

-- the text of a sheet that may be absent
abbrev pub shown_text : Option Grid → List ℕ
shown_text None = []
shown_text (Some g) = grid_text g

-- a line for each answer, and then the sheet's text
abbrev pub report_text : List (ℕ × ℕ) × Option Grid → List ℕ
report_text r = flat_map answer_text r.0 ++ shown_text r.1
