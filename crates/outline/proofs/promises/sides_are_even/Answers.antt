use Rattle.outline.proofs.HoleSpill.{live_even, flat_outside}
use Rattle.outline.proofs.promises.sides_are_even.Goals as goal

pub returns : goal.returns
returns c = record { even = live_even; flat = flat_outside }
