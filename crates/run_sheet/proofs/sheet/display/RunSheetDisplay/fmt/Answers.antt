-- The head and the lines of all the pairs make up the text of the sheet's grid.
use Rattle.std.proofs.Common.{◌≡◌, ℕ, ◌++◌, length, take, sym, ap, arith, take_all}
use Rattle.std.proofs.Output.{has_written_of_eq}
use Rattle.std.specs.List.{flat_map}
use Rattle.run_sheet.specs.declared.sheet.RunSheet.{RunSheet}
use Rattle.run_sheet.specs.Sheets.{grid_of, held}
use Rattle.run_sheet.specs.Texts.{grid_text, head_text, pair_text, sheet_text}
use Rattle.run_sheet.proofs.Wholes.{sheet_pairs}
use Rattle.run_sheet.proofs.sheet.display.RunSheetDisplay.fmt.Goals as goal

-- n counts the pairs, and i of them are written
all_text : (s : RunSheet) (n i : ℕ) → n ≡ length (held s) → i ≡ length (held s) → head_text s.size.0 s.size.1 n ++ flat_map pair_text (take i (held s)) ≡ grid_text (grid_of s)
all_text s n i e f =
    let t : take i (held s) ≡ held s = take_all i (held s) (omega arith) in
    rw (t, e) (ap (sheet_text s.size.0 s.size.1) (sym (sheet_pairs s)))

pub returns-clause-writes : goal.returns-clause-writes
returns-clause-writes g c = λ plain ok.
    let s = c.args.self.now in
    has_written_of_eq _ _ _ _ _ (all_text s c.len-count.result c.loop-pair.pair-index (omega (arith, s.pairs.ok.0)) (omega (arith, s.pairs.ok.0))) (c.loop-pair.invariant plain)
