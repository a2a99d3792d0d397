use Rattle.std.proofs.Common.{ℤ, pos, get_or, Some, ap, ◌∙◌, w32, SFits, rules}
use Rattle.std.proofs.ByRecursion.{All-get_or}
use Rattle.std.proofs.lemmas.Int.{to_z-of_z}
use Rattle.edges.specs.declared.side.Edge.{Edge}
use Rattle.edges.specs.Side.{Sound, floor_at}
use Rattle.polygon.proofs.Standing.{from_sound}
use Rattle.polygon.proofs.SweepLine.{first_floor}
use Rattle.polygon.proofs.sweep.least_floor.Goals as goal

pub returns : goal.returns
returns c =
    let es = c.args.edges.now in
    let k = c.in_ok-k.k in
    let fits : SFits w32 c.floor.result = search rules in
    let d : Edge = record { epoch = 0; total_epoch = 0; slave_begin = pos 0; slave_end = pos 0 } in
    let sound = All-get_or Sound es k d c.in_ok-k.ensures.0 c.requires in
    let f = from_sound (get_or es k d) c.floor.result (floor_at (get_or es k d)) (pos 0) sound c.floor.ensures in
    ap (λ (z : ℤ). Some z) (to_z-of_z w32 c.floor.result fits ∙ f) ∙ first_floor es k d c.requires c.in_ok-k.ensures
