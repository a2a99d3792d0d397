-- What a caller of the search makes of its answer.
use Rattle.std.proofs.Common.{◌≡◌, ℕ, ◌<◌, Bool, List, [], ◌∷◌, length, Some, None, Option, MatchOption}
use Rattle.std.specs.List.{AllByRecursion}
use Rattle.search.specs.First.{First, ComesFirst}

-- Where every element of a kind is sound, all those of a list are.
pub all_sound : {X : Type 0} (sound : X → Type 0) → ((x : X) → sound x) → (xs : List X) → AllByRecursion sound xs
all_sound sound h [] = tt
all_sound sound h (x ∷ xs) = (h x, all_sound sound h xs)

-- Where all elements are sound, the list is empty, or the answer is the place of the one that comes first.
pub first_found : {X : Type 0} (sound : X → Type 0) (upto : X → X → Bool) (xs : List X) (r : Option ℕ) → AllByRecursion sound xs → First sound upto xs r → MatchOption r (length xs ≡ 0) (λ k. (k < length xs) × ComesFirst upto xs (length xs) k)
first_found sound upto xs None s h = h
first_found sound upto xs (Some k) s h = (h.0, h.1 s)
