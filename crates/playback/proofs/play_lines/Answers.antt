use Rattle.std.proofs.Common.{rules, ◌≡◌, ◌+◌, ◌++◌, [], ◌∷◌, eqb, length, sym, ap, ◌∙◌, arith, length-append}
use borrow.Author.Tests.{tests}
use Rattle.std.proofs.lemmas.Slice.Eq.{strip_suffix_is}
use Rattle.std.proofs.lemmas.Bool.Decides.{Decides-eqb}
use Rattle.std.proofs.lemmas.List.Sorted.{answers_always}
use Rattle.script.specs.Text.{lines_of}
use Rattle.playback.proofs.Lines.{playing_next}
use Rattle.playback.proofs.Turns.{first_line}
use Rattle.playback.proofs.play_lines.Goals as goal

pub loop-number-preserved : goal.loop-number-preserved
loop-number-preserved c =
    let rest = c.loop-number.number-iterator.b.rest.now in
    let after = c.next.new.self.b.rest.now in
    let strip = strip_suffix_is Decides-eqb c.in-Some.line.now (10 ∷ []) c.strip_suffix.result c.strip_suffix.ensures.cases in
    let steps = c.in-Some.ensures.steps in
    let number : c.in-Some.number ≡ c.loop-number.number-iterator.a.start = steps.0.0 in
    let next : c.next.new.self.a.start ≡ c.in-Some.number + 1 = steps.0.1 in
    let first = steps.1.1.2 (λ b. eqb b 10) (answers_always _ _ _ (λ f a r f' k. search (rules, tests))) in
    let cut : rest ≡ c.in-Some.line.now ++ after = steps.1.0 in
    let line = first_line rest after c.in-Some.line steps.1.1.0 c.strip_suffix.result steps.1.0 steps.1.1.1 first.1 steps.1.2 strip in
    let read = line ∙ ap (λ b. b.now ∷ lines_of after) (sym c.unwrap_or-line.ensures) in
    (rw (next, number) (playing_next _ _ _ _ _ _ c.loop-number.number-iterator.a.start c.play_line.result _ _ _ c.loop-number.invariant.0 read c.play_line.ensures.value (rw number at c.in_ok-push.ensures.items)), omega (arith, ap length cut, length-append c.in-Some.line.now after, steps.1.1.1, steps.1.2))
