-- The piece that `cut` gives is the first one.
use Rattle.std.proofs.Common.{rules, arith}
use Rattle.std.proofs.lemmas.Grind.{common_steps}
use Rattle.script.proofs.LessLast.{less_cut, less_alone}
use Rattle.script.proofs.Pieces.{pieces_whole, pieces_first}
use Rattle.script.proofs.cut.Goals as goal

pub returns-in-Some-clause-lacks : goal.returns-in-Some-clause-lacks
returns-in-Some-clause-lacks c = grind (arith, common_steps)

pub returns-in-Some-clause-whole : goal.returns-in-Some-clause-whole
returns-in-Some-clause-whole c = grind (arith, common_steps)

pub returns-in-Some-clause-parts : goal.returns-in-Some-clause-parts
returns-in-Some-clause-parts c = pieces_first c.args.at c.args.text.now _ _ (returns-in-Some-clause-lacks c) (returns-in-Some-clause-whole c)

pub returns-in-Some-clause-lines : goal.returns-in-Some-clause-lines
returns-in-Some-clause-lines c = λ some. less_cut c.args.at c.args.text.now _ _ (returns-in-Some-clause-parts c)

pub returns-in-None-clause-parts : goal.returns-in-None-clause-parts
returns-in-None-clause-parts c = pieces_whole c.args.at c.args.text.now (search rules)

pub returns-in-None-clause-lines : goal.returns-in-None-clause-lines
returns-in-None-clause-lines c = λ some. less_alone c.args.at c.args.text.now some (returns-in-None-clause-parts c)
