use Rattle.std.proofs.lemmas.Result.{err_from_is_err_and}
use Rattle.playback.proofs.Lines.{outcome_kept, same_number}
use Rattle.playback.proofs.play_line.Goals as goal

pub returns-in_err-carry_out-clause-kept : goal.returns-in_err-carry_out-clause-kept
returns-in_err-carry_out-clause-kept c =
    let p = err_from_is_err_and c.from_residual-in_err-carry_out.result c.from_residual-in_err-carry_out.ensures.1 in
    outcome_kept _ _ c.in_ok-draw.draw c.carry_out.result _ c.carry_out.ensures (same_number c.in_err-carry_out.field-0.0 p.0 _ _ p.2 p.1 c.in_err-carry_out.was)
