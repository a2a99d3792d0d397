use Rattle.std.proofs.Common.{sym, ◌∙◌, arith}
use Rattle.std.proofs.lemmas.Result.{IfOk-weaker}
use Rattle.playback.proofs.Plays.{bad_size, good_size, no_size, on_sheet, sized}
use Rattle.playback.proofs.play.Goals as goal

pub returns-in_default : goal.returns-in_default
returns-in_default c =
    let e = no_size c.args.text.now _ _ (omega arith) c.split_line.ensures.lines (sym c.in_default.ensures.value) in
    IfOk-weaker c.refuse-in_default.result _ _ (λ v q. q ∙ sym e) c.refuse-in_default.ensures

pub returns-in-Err : goal.returns-in-Err
returns-in-Err c =
    let e = sized c.args.text.now _ _ c.in-Some.size (omega arith) c.split_line.ensures.lines (λ z. (c.split_line.ensures.empty z).0) (sym c.in-Some.ensures.value) in
    let f = bad_size c.in-Some.size c.in-Err.refusal _ (sym c.in-Err.ensures) in
    IfOk-weaker c.refuse-in-Err.result _ _ (λ v q. q ∙ sym (e ∙ f)) c.refuse-in-Err.ensures

pub returns : goal.returns
returns c =
    let e = sized c.args.text.now _ _ c.in-Some.size (omega arith) c.split_line.ensures.lines (λ z. (c.split_line.ensures.empty z).0) (sym c.in-Some.ensures.value) in
    let f = good_size c.in-Some.size _ _ (sym c.in_default-check_size.ensures) in
    on_sheet c.in-Some.size _ _ _ _ c.in_ok-sheet.ensures c.in_ok-answers.ensures ∙ sym (e ∙ f)
