-- The refusals and their numbers.
use Rattle.std.specs.Prelude.{◌≡◌, ℕ, ◌<◌, Ok, Err, Result}
use Rattle.plotters_backend.specs.declared.error.DrawingErrorKind.{DrawingErrorKind}
use Rattle.plotters_backend.specs.declared.error.DrawingErrorKind.TheVariants.{DrawingError, Refused}
use Rattle.plotters_backend.specs.declared.error.Refusal.{Refusal}
use Rattle.plotters_backend.specs.declared.error.Refusal.TheVariants.{Far, Thick, Big, Many, Pool, Short, Size, Stray, Knot, Full, Line}

abbrev pub number : Refusal → ℕ
number Far = 1
number Thick = 2
number Big = 3
number Many = 4
number Pool = 5
number Short = 6
number Size = 7
number Stray = 8
number Knot = 9
number Full = 10
number Line = 11

-- the number that is reported of an answer: 0 for success
abbrev pub number_of : Result (Unit {0}) Refusal → ℕ
number_of (Ok _) = 0
number_of (Err k) = number k

-- n is the number of k and of no other refusal, and not 0, which stands for success
abbrev pub OwnNumber : Refusal → ℕ → Type 0
OwnNumber k n = (0 < n) × ((j : Refusal) → number j ≡ n → j ≡ k)

-- k is the refusal that an error comes to, where a surface's own fault is one
abbrev pub Refuses : {E : Type 0} → (E → Refusal → Type 0) → DrawingErrorKind E → Refusal → Type 0
Refuses converts (DrawingError e) k = converts e k
Refuses converts (Refused j) k = k ≡ j
