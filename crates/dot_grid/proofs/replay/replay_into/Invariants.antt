use Rattle.std.proofs.Common.{◌≡◌, ◌+◌, ◌-◌, ◌≤◌, length, vec_items, vec_len, vec_capacity}
use Rattle.dot_grid.proofs.Replays.{Made}
use Rattle.dot_grid.proofs.replay.replay_into.Given as goal

abbrev pub invariant-loop-draw : goal.invariant-loop-draw
invariant-loop-draw g l =
    Made (g.B.OnSheet.layers l.initial.back) l.draws l.draw-index (vec_items l.initial.answers) (vec_items l.answers) (g.B.OnSheet.dots l.initial.back) (g.B.OnSheet.dots l.back)
    × (vec_len l.answers + (length l.draws - l.draw-index) ≤ vec_capacity l.answers)
    × (g.B.OnSheet.layers l.back ≡ g.B.OnSheet.layers l.initial.back)
