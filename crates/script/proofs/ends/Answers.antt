-- A fifth word is one too many.
use Rattle.std.proofs.Common.{◌≡◌, is_none, arith}
use Rattle.script.specs.Text.{pieces, pieces_after}
use Rattle.script.proofs.Counts.{ends_read}
use Rattle.script.proofs.ends.Goals as goal

pub returns : goal.returns
returns c =
    let from = c.in_ok-from.ensures in
    let to = c.in_ok-to.ensures in
    let last : c.is_none.result ≡ is_none c.in_ok-to.rest = grind arith in
    let read = ends_read (pieces 32 c.args.text.now) (pieces_after 32 c.in_ok-from.rest) c.in_ok-to.rest _ _ from.value from.rest.0 from.rest.1 (rw c.in_ok-rest.was to.value) (rw c.in_ok-rest.was to.rest.0) in
    rw (c.then_some.ensures, last) record { value = read }
