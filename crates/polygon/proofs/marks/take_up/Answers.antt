-- The mark of a floor is there.
use Rattle.std.proofs.Common.{pos, arith}
use Rattle.std.proofs.lemmas.Int.{ints}
use Rattle.edges.specs.Side.{floor_at}
use Rattle.polygon.proofs.Standing.{from_sound, sound_stands}
use Rattle.polygon.proofs.marks.take_up.Goals as goal

pub index_of-at-requires-clause-near : goal.index_of-at-requires-clause-near
index_of-at-requires-clause-near c =
    let e = c.args.edge.now in
    let s = sound_stands e c.requires.sound in
    let f = from_sound e c.floor-floor.result (floor_at e) (pos 0) c.requires.sound c.floor-floor.ensures in
    omega (arith, ints)
