-- The floor of the binary64 place is that of the exact place.
use Rattle.std.proofs.Common.{arith, w32}
use borrow.Author.Differences.{ints}
use Rattle.std.proofs.lemmas.Int.{to_z-of_z}
use Rattle.edges.proofs.Laws.{key_floor}
use Rattle.edges.proofs.side.Edge.floor.Goals as goal

-- the answer is the cast of the float's floor, read from its bits
pub returns : goal.returns
returns c =
    let z = c.floor_to_i32.result in
    let back = to_z-of_z w32 z (omega (arith, ints)) in
    let k = key_floor c.args.self.now in
    cc
