-- Each turn reads one point, and puts it after those before.
use Rattle.std.proofs.Common.{rules, ◌≡◌, ◌<◌, ◌++◌, [], ◌∷◌, length}
use Rattle.script.specs.Text.{pieces}
use Rattle.script.proofs.Fills.{points_left, points_more, points_broken}
use Rattle.script.proofs.Pieces.{pieces_some}
use Rattle.script.proofs.outline.Goals as goal

pub returns-in_err-next-clause-value : goal.returns-in_err-next-clause-value
returns-in_err-next-clause-value c =
    let words = pieces 32 c.in-Some.words.now in
    let so = points_left _ _ _ _ c.in-Some.is c.loop-left.invariant in
    rw c.from_residual.ensures (points_broken _ words _ so (pieces_some 32 c.in-Some.words.now) c.in_err-next.ensures.value)

pub loop-left-preserved : goal.loop-left-preserved
loop-left-preserved c =
    let points = c.loop-left.points.items in
    let next = c.in_ok-next.ensures in
    let so = points_left _ _ _ _ c.in-Some.is c.loop-left.invariant in
    let room : length points < 64 = search rules in
    let pushed : c.try_push.new.self.items ≡ points ++ c.in_ok-next.next ∷ [] = search rules in
    rw pushed (points_more _ (pieces 32 c.in-Some.words.now) _ _ _ so room next.rest.0 next.rest.1 next.value)
