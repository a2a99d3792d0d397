-- The lines of the answers before the one at the index are written.
use Rattle.std.proofs.Common.{take, vec_items}
use Rattle.std.specs.Fmt.{HasWritten, IsPlainFormatter}
use Rattle.std.specs.List.{flat_map}
use Rattle.plotters_backend.specs.Refusals.{number_of}
use Rattle.run_sheet.specs.Texts.{line_text}
use Rattle.playback.proofs.report.ReportDisplay.fmt.Given as goal

abbrev pub invariant-loop-line : goal.invariant-loop-line
invariant-loop-line g l = IsPlainFormatter l.fn.f → HasWritten g.W.Write.write_str_gives l.fn.f (flat_map (λ r. line_text r.0 (number_of r.1)) (take l.line-index (vec_items l.self.answers))) l.f
