-- The lines of all the answers, and the sheet's text where there is one, make up the text of what is reported.
use Rattle.std.proofs.Common.{◌≡◌, ℕ, List, ◌++◌, length, take, vec_items, Some, None, Option, sym, ◌∙◌, arith, rules, take_all, append-nil}
use Rattle.std.proofs.Output.{has_written_append, has_written_of_eq}
use Rattle.std.proofs.lemmas.List.Folds.{flat_map-map}
use Rattle.std.specs.List.{flat_map}
use Rattle.std.specs.Option.{option_map}
use Rattle.plotters_backend.specs.Refusals.{number_of}
use Rattle.run_sheet.specs.declared.sheet.RunSheet.{RunSheet}
use Rattle.run_sheet.specs.Sheets.{grid_of}
use Rattle.run_sheet.specs.Texts.{line_text}
use Rattle.playback.specs.declared.report.Report.{Report}
use Rattle.playback.specs.Reports.{report_text, reported, shown_text}
use Rattle.playback.proofs.report.ReportDisplay.fmt.Goals as goal

-- the lines of the first i answers
abbrev lines : Report → ℕ → List ℕ
lines r i = flat_map (λ q. line_text q.0 (number_of q.1)) (take i (vec_items r.answers))

-- with all the answers, and what is shown of the sheet
whole_text : (r : Report) (s : Option RunSheet) (i : ℕ) → r.sheet ≡ s → i ≡ length (vec_items r.answers) → lines r i ++ shown_text (option_map grid_of s) ≡ report_text (reported r)
whole_text r s i e f =
    let t : take i (vec_items r.answers) ≡ vec_items r.answers = take_all i (vec_items r.answers) (omega arith) in
    rw (t, ← e, flat_map-map)

pub returns-in-Some-clause-writes : goal.returns-in-Some-clause-writes
returns-in-Some-clause-writes g c = λ plain ok.
    let r = c.args.self.now in
    has_written_of_eq _ _ _ _ _ (whole_text r (Some c.in-Some.sheet) c.loop-line.line-index c.in-Some.is (omega (arith, r.answers.ok.0))) (has_written_append _ _ _ _ _ _ (c.loop-line.invariant plain) (search rules))

pub returns-in-None-clause-writes : goal.returns-in-None-clause-writes
returns-in-None-clause-writes g c = λ plain ok.
    let r = c.args.self.now in
    has_written_of_eq _ _ _ _ _ (sym (append-nil (lines r c.loop-line.line-index)) ∙ whole_text r None c.loop-line.line-index c.in-None.is (omega (arith, r.answers.ok.0))) (c.loop-line.invariant plain)
