use Rattle.std.proofs.Common.{◌≡◌, ◌+◌, ◌≤◌, length, get_or, pos, sym, ◌∙◌, arith}
use Rattle.std.proofs.lemmas.List.{take_all}
use Rattle.std.proofs.lemmas.Option.{gets}
use Rattle.std.proofs.lemmas.Grind.{common_steps}
use Rattle.outline.specs.Sweep.{side, sides}
use Rattle.plotters_backend.specs.Axis.{turned}
use Rattle.polygon.proofs.Corners.{length_sides, side_at, sides_more}
use Rattle.polygon.proofs.sides.put_sides.Goals as goal

pub loop-i-preserved : goal.loop-i-preserved
loop-i-preserved c =
    let i = c.loop-i.i in
    let o = c.args.vertices.now in
    let a = c.args.axis in
    let to : c.unwrap_or-to.result.now ≡ get_or o (i + 1) (get_or o 0 (pos 0, pos 0)) = grind (arith, common_steps, gets) in
    let made : c.between.result ≡ side (turned a (get_or o i (pos 0, pos 0)), turned a (get_or o (i + 1) (get_or o 0 (pos 0, pos 0)))) = cc in
    sides_more a o c.loop-i.pool i c.between.result (omega (arith, c.loop-i-test.true, c.requires)) (c.loop-i.auto.pool ∙ c.requires) c.loop-i.invariant (side_at a o i c.between.result (pos 0, pos 0) (omega (arith, c.loop-i-test.true, c.requires)) ∙ sym made)

pub returns : goal.returns
returns c =
    let n = length_sides c.args.axis c.args.vertices.now in
    let l : length c.loop-i.pool ≤ c.loop-i.i = omega (arith, c.loop-i.auto.pool, c.requires, c.loop-i-test.false) in
    sym (take_all c.loop-i.i c.loop-i.pool l) ∙ c.loop-i.invariant ∙ take_all c.loop-i.i (sides c.args.axis c.args.vertices.now) (omega (arith, c.loop-i-test.false, c.requires))
