-- The pairs that a sheet holds are those of its grid.
use Rattle.std.proofs.Common.{List, sym, ◌∙◌, subst}
use Rattle.dots.specs.declared.pair.Pair.{Pair}
use Rattle.run_sheet.specs.Sheets.{OneForm, grid_of}
use Rattle.run_sheet.proofs.Wholes.{sheet_form, sheet_pairs, sheet_whole}
use Rattle.run_sheet.proofs.sheet.RunSheet.pairs.Goals as goal

pub returns-clause-value : goal.returns-clause-value
returns-clause-value c = c.as_slice.ensures.value ∙ sym (sheet_pairs c.args.self.now)

pub returns-clause-form : goal.returns-clause-form
returns-clause-form c = subst (λ (ps : List Pair). OneForm (grid_of c.args.self.now) ps) (sym c.as_slice.ensures.value) (sheet_form c.args.self.now)

pub returns-clause-whole : goal.returns-clause-whole
returns-clause-whole c = sheet_whole c.args.self.now
