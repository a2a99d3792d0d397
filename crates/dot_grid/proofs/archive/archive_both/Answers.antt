use Rattle.std.proofs.Common.{◌≡◌, true, refl, ap, ◌∙◌, subst}
use Rattle.std.proofs.lemmas.Result.{MatchResult-from_err, IfOk-from_err}
use Rattle.dots.specs.Bytes.{written}
use Rattle.dots.specs.Grid.{Grid, whole}
use Rattle.dot_grid.proofs.Archives.{told_apart}
use Rattle.dot_grid.proofs.Replays.{together}
use Rattle.dot_grid.proofs.archive.archive_both.Goals as goal

-- without memory nothing is drawn
pub returns-in_err-second_bytes : goal.returns-in_err-second_bytes
returns-in_err-second_bytes g c =
    let r = c.from_residual-in_err-second_bytes.result in
    let e = c.from_residual-in_err-second_bytes.ensures.0 in
    record { first = MatchResult-from_err r _ _ e (λ _. refl); second = MatchResult-from_err r _ _ e (λ _. refl); told = IfOk-from_err r _ e }

pub returns : goal.returns
returns g c =
    let a = c.write_over.ensures.bytes ∙ ap written c.sheet.ensures in
    let b = c.write_over-2.ensures.bytes ∙ ap written c.sheet-2.ensures in
    let p = subst (λ (k : Grid). whole k ≡ true) c.sheet.ensures c.write_over.ensures.whole in
    let q = subst (λ (k : Grid). whole k ≡ true) c.sheet-2.ensures c.write_over-2.ensures.whole in
    record {
      first = (together _ _ _ _ c.in_ok-first_answers.ensures.items c.replay_into.ensures.answers c.replay_into.ensures.holds, a);
      second = (together _ _ _ _ c.in_ok-second_answers.ensures.items c.replay_into-2.ensures.answers c.replay_into-2.ensures.holds, b);
      told = told_apart _ _ _ _ p q a b;
    }
