-- The loop reads the digits from the left.
use Rattle.std.proofs.Common.{◌≡◌, ◌+◌, true, ◌&&◌, get_or, take, drop, sym, ap, ◌∙◌, arith}
use Rattle.std.specs.Char.{is_ascii_digit}
use Rattle.std.specs.Str.{all_ascii_digits}
use Rattle.std.proofs.lemmas.Int.Digits.{digits_value_more, digits_more}
use Rattle.std.proofs.lemmas.List.{at_drop_more, length-take}
use Rattle.script.proofs.Figures.{figure, value_below}
use Rattle.script.proofs.digits.Goals as goal

pub loop-b-preserved : goal.loop-b-preserved
loop-b-preserved c =
    let word = c.args.word.now in
    let i = c.loop-b.b-index in
    let is : is_ascii_digit (get_or word i 0) ≡ true = sym c.if-not-is_ascii_digit.ensures.value in
    let more : all_ascii_digits (drop i word) ≡ (is_ascii_digit (get_or word i 0) && all_ascii_digits (drop (i + 1) word)) = at_drop_more all_ascii_digits word i 0 c.loop-b-test.true in (
      omega (arith, digits_value_more 10 word i c.loop-b-test.true, figure (get_or word i 0) is, c.from.ensures),
      digits_more 10 word i c.loop-b-test.true c.loop-b.invariant.1 c.if-not-is_ascii_digit.ensures.bound,
      sym (more ∙ ap (λ b. b && all_ascii_digits (drop (i + 1) word)) is) ∙ c.loop-b.invariant.2,
    )

pub returns-clause-small : goal.returns-clause-small
returns-clause-small c =
    let read = take c.loop-b.b-index c.args.word.now in
    omega (arith, c.loop-b.invariant.0, value_below 6 read (omega (arith, length-take c.loop-b.b-index c.args.word.now)) c.loop-b.invariant.1)
