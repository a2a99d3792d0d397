-- The three bytes of a point that is found lie in the memory.
use Rattle.std.proofs.Common.{arith}
use Rattle.panel.specs.Picture.{picture_of}
use Rattle.panel.proofs.Places.{at_from}
use Rattle.panel.proofs.panel.Panel.cell.Goals as goal

pub three_of-requires : goal.three_of-requires
three_of-requires c = omega (arith, (at_from (picture_of c.args.self.now.size c.args.self.now.bytes.now) c.args.point c.in_ok-at.at c.in_ok-at.ensures).there)
