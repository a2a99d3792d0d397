-- What `read_draw` answers is what the line asks for, and so tells what the line is written for.
use Rattle.std.proofs.Common.{[], ◌∷◌, Some, sym, ap, ◌∙◌}
use Rattle.std.proofs.lemmas.Slice.Eq.{strip_prefix_is}
use Rattle.std.proofs.lemmas.Bool.Decides.{Decides-eqb}
use Rattle.script.specs.Commands.{draw_line}
use Rattle.script.proofs.Exact.{draw_tells}
use Rattle.script.proofs.read_draw.Goals as goal

pub returns-clause-value : goal.returns-clause-value
returns-clause-value c =
    let begins = strip_prefix_is Decides-eqb c.args.line.now (76 ∷ 32 ∷ []) (Some c.in_ok-strip_prefix.field-0) c.in_ok-strip_prefix.ensures.cases in
    c.drawing.ensures.value ∙ sym (ap draw_line begins)

pub returns-clause-exactly : goal.returns-clause-exactly
returns-clause-exactly c = draw_tells c.args.line.now _ (returns-clause-value c)
