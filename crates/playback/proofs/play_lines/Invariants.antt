use Rattle.std.proofs.Common.{◌+◌, ◌≤◌, length, vec_items}
use Rattle.run_sheet.specs.Sheets.{grid_of}
use Rattle.script.specs.Text.{lines_of}
use Rattle.playback.specs.Reports.{numbered}
use Rattle.playback.proofs.Lines.{Playing}
use Rattle.playback.proofs.play_lines.Given as goal

abbrev pub invariant-loop-number : goal.invariant-loop-number
invariant-loop-number l =
    Playing (lines_of l.text) (grid_of l.initial.sheet) (grid_of l.sheet) (numbered (vec_items l.answers)) l.number-iterator.a.start (lines_of l.number-iterator.b.rest.now)
    × (l.number-iterator.a.start + length l.number-iterator.b.rest.now ≤ 2 + length l.text)
