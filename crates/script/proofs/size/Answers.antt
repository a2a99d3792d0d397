-- A third word is one too many.
use Rattle.std.proofs.Common.{◌≡◌, ◌∷◌, is_none, ap, ◌∙◌, arith}
use Rattle.script.specs.Text.{pieces_after}
use Rattle.script.proofs.Counts.{size_read}
use Rattle.script.proofs.size.Goals as goal

pub returns : goal.returns
returns c =
    let a = c.cut.result.0.now in
    let words = c.cut.ensures.parts ∙ ap (λ o. a ∷ pieces_after 32 o) c.in_ok-rest.was ∙ ap (λ ws. a ∷ ws) c.cut-2.ensures.parts in
    let read = size_read a c.cut-2.result.0.now c.cut-2.result.1 _ _ c.in_ok-number.ensures.value c.in_ok-number-2.ensures.value in
    let last : c.is_none.result ≡ is_none c.cut-2.result.1 = grind arith in
    rw (c.then_some.ensures, last, words) record { value = read }
