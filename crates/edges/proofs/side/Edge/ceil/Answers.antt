-- The ceil of the binary64 place is that of the exact place.
use Rattle.std.proofs.Common.{arith, w32}
use borrow.Author.Differences.{ints}
use Rattle.std.proofs.lemmas.Int.{to_z-of_z}
use Rattle.edges.proofs.Laws.{key_ceil}
use Rattle.edges.proofs.side.Edge.ceil.Goals as goal

-- the answer is the cast of the float's ceil, read from its bits
pub returns : goal.returns
returns c =
    let z = c.ceil_to_i32.result in
    let back = to_z-of_z w32 z (omega (arith, ints)) in
    let k = key_ceil c.args.self.now in
    cc
