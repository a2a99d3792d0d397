-- What `read_size` answers is what the line asks for, and so tells what the line is written for.
use Rattle.std.proofs.Common.{rules}
use Rattle.script.proofs.Exact.{size_tells}
use Rattle.script.proofs.read_size.Goals as goal

pub returns-clause-exactly : goal.returns-clause-exactly
returns-clause-exactly c = size_tells c.args.line.now _ (search rules)
