use Rattle.std.proofs.Common.{◌-◌, List, length, take, sym, ap, ◌∙◌, subst, arith}
use Rattle.std.proofs.lemmas.Int.{ints}
use Rattle.std.proofs.lemmas.Result.{err_from_is_err_and}
use Rattle.std.specs.List.{AllByRecursion}
use Rattle.plotters_backend.proofs.Runs.{exits_with}
use Rattle.plotters_backend.specs.Run.{Pixel, all, run}
use Rattle.edges.specs.Side.{Sound}
use Rattle.polygon.specs.Marking.{Among}
use Rattle.polygon.specs.Sweeping.{least_floor}
use Rattle.polygon.proofs.SweepLine.{Found, among, bare_line, front, line_laid, line_stop, parts, sound, starts, walks, written_long}
use Rattle.polygon.proofs.sweep.sweep_line.Given.{Over}
use Rattle.polygon.proofs.sweep.sweep_line.Goals.{In-Some}
use Rattle.polygon.proofs.sweep.sweep_line.Goals as goal

pub mark_edges-requires : goal.mark_edges-requires
mark_edges-requires g c =
    let x = c.args in
    subst (AllByRecursion (Among x.line.low (length x.marks.now))) (sym (front x.line.at x.sides.now c.gather-count.result c.gather-count.new.live x.line.at_near c.gather-count.ensures.edges)) (among x.line.at x.line.low x.high x.sides.now c.requires.held (length x.marks.now) c.requires.marks)

pub least_floor-requires : goal.least_floor-requires
least_floor-requires g c =
    let x = c.args in
    subst (AllByRecursion Sound) (sym (front x.line.at x.sides.now c.gather-count.result c.gather-count.new.live x.line.at_near c.gather-count.ensures.edges)) (sound x.line.at x.line.low x.high x.sides.now c.requires.held)

-- no live side, no pixel
pub returns-in_default : goal.returns-in_default
returns-in_default g c =
    let x = c.args in
    let e = front x.line.at x.sides.now c.gather-count.result c.gather-count.new.live x.line.at_near c.gather-count.ensures.edges in
    let S = g.DB.DrawingBackend.surface in
    ap (λ (ps : List Pixel). run S (g.DB.DrawingBackend.held x.back.now) (all ps)) (sym (bare_line x.line.axis x.color x.line.at x.line.low x.high _ (c.in_default.ensures ∙ ap least_floor e)))

-- what is known where the walk is to start
known : (g : Over) (c : In-Some g) → Found c.args.line.at c.args.line.low c.args.high c.args.sides.now (take (c.gather-count.result - 0) c.gather-count.new.live) c.mark_edges.new.marks c.in-Some.start
known g c = record {
  is = front c.args.line.at c.args.sides.now c.gather-count.result c.gather-count.new.live c.args.line.at_near c.gather-count.ensures.edges;
  marked = c.mark_edges.ensures;
  long = c.mark_edges.auto.marks ∙ c.requires.marks;
  from = c.in-Some.ensures;
}

pub index_of-from-requires : goal.index_of-from-requires
index_of-from-requires g c =
    let s = starts _ _ _ _ c.requires.held _ _ _ (known g (goal.at.index_of-from-requires g c).In-Some) in
    let from = s.0 in
    let upto = s.1 in
    let near = c.requires.held.high_near in
    record { from = omega (arith, ints); near = omega (arith, ints) }

pub slice_bounds-lay_runs-count : goal.slice_bounds-lay_runs-count
slice_bounds-lay_runs-count g c = (parts _ _ _ _ c.requires.held _ _ _ (known g (goal.at.slice_bounds-lay_runs-count g c).In-Some) _ c.index_of-from.ensures).0

pub slice_bounds-lay_runs-start : goal.slice_bounds-lay_runs-start
slice_bounds-lay_runs-start g c = (parts _ _ _ _ c.requires.held _ _ _ (known g (goal.at.slice_bounds-lay_runs-start g c).In-Some) _ c.index_of-from.ensures).0

pub lay_runs-requires : goal.lay_runs-requires
lay_runs-requires g c = walks _ _ _ _ c.requires.held _ _ _ (known g (goal.at.lay_runs-requires g c).In-Some) _ c.index_of-from.ensures c.args.line.at_near

-- a walk that was refused ends the line
pub returns-in_err-lay_runs : goal.returns-in_err-lay_runs
returns-in_err-lay_runs g c =
    let S = g.DB.DrawingBackend.surface in
    let stop = line_stop _ _ _ _ c.requires.held _ _ _ (known g (goal.at.returns-in_err-lay_runs g c).In-Some) _ c.index_of-from.ensures S c.args.line.axis c.args.color _ _ c.lay_runs.result c.lay_runs.ensures.pixels c.in_err-lay_runs.field-0.0 c.in_err-lay_runs.was in
    let q = err_from_is_err_and c.from_residual.result c.from_residual.ensures.1 in
    exits_with S c.from_residual.result _ _ q.0 _ q.1 q.2 stop

pub draw_rims-requires : goal.draw_rims-requires
draw_rims-requires g c =
    let x = c.args in
    let f = known g (goal.at.draw_rims-requires g c).In-Some in
    let p = parts _ _ _ _ c.requires.held _ _ _ f _ c.index_of-from.ensures in
    subst (AllByRecursion _) (sym f.is) (among x.line.at x.line.low x.high x.sides.now c.requires.held _ (written_long _ c.mark_edges.new.marks c.lay_runs.new.marks p.0 (c.lay_runs.auto.marks ∙ p.1) ∙ f.long))

-- and one that was carried out is followed by the pixels of the edges
pub returns : goal.returns
returns g c =
    let S = g.DB.DrawingBackend.surface in
    line_laid _ _ _ _ c.requires.held _ _ _ (known g (goal.at.returns g c).In-Some) _ c.index_of-from.ensures S c.args.line.axis c.args.color _ _ c.lay_runs.result c.lay_runs.ensures.pixels c.lay_runs.new.marks c.lay_runs.auto.marks (c.lay_runs.ensures.told c.in_ok-lay_runs.was) _ _ c.in_ok-lay_runs.was c.draw_rims.ensures
