-- What it is to come first in a list.
use Rattle.std.specs.Prelude.{◌≡◌, ℕ, ◌<◌, Bool, true, false, not, ◌⊎◌, List, length, Some, None, Option, slice_index_or}
use Rattle.std.specs.Borrow.{Bor}
use Rattle.std.specs.List.{AllByRecursion}
use Rattle.std.specs.declared.cmp.Ordering.{Ordering}
use Rattle.std.specs.Ordering.{is_le}

-- whether the first element comes no later than the second
abbrev pub up_to : {X : Type 0} → (X → X → Ordering) → X → X → Bool
up_to cmp x y = is_le (cmp x y)

-- An order among the sound elements: any two compare, and it is transitive. Two that each come no later than the other tie; they need not be equal.
pub record IsOrder {X : Type 0} (sound : X → Type 0) (upto : X → X → Bool) : Type 0 where
  pub total : (x y : X) → sound x → sound y → (upto x y ≡ true) ⊎ (upto y x ≡ true)
  pub transitive : (x y z : X) → sound x → sound y → sound z → upto x y ≡ true → upto y z ≡ true → upto x z ≡ true

-- An order among the elements of a list, by their places.
pub record IsOrderAmong {X : Type 0} (upto : X → X → Bool) (xs : List X) : Type 0 where
  pub total : (i j : ℕ) (d : X) → i < length xs → j < length xs → (upto (slice_index_or xs i d) (slice_index_or xs j d) ≡ true) ⊎ (upto (slice_index_or xs j d) (slice_index_or xs i d) ≡ true)
  pub transitive : (i j k : ℕ) (d : X) → i < length xs → j < length xs → k < length xs → upto (slice_index_or xs i d) (slice_index_or xs j d) ≡ true → upto (slice_index_or xs j d) (slice_index_or xs k d) ≡ true → upto (slice_index_or xs i d) (slice_index_or xs k d) ≡ true

-- The test answers whether its first element comes strictly before its second: whether the second does not come up to the first.
abbrev pub TellsBefore : {X : Type 0} → (Bor X → Bor X → Bool → Type 0) → (X → X → Bool) → Type 0
TellsBefore answers upto = (x y : _) (r : Bool) → answers x y r → r ≡ not (upto y.now x.now)

-- Among the first n elements of the list, the one at place k comes first: it comes no later than any of them, and each one before it in the list comes later.
pub record ComesFirst {X : Type 0} (upto : X → X → Bool) (xs : List X) (n k : ℕ) : Type 0 where
  pub no_later : (j : ℕ) (d : X) → j < n → upto (slice_index_or xs k d) (slice_index_or xs j d) ≡ true
  pub earliest : (j : ℕ) (d : X) → j < k → upto (slice_index_or xs j d) (slice_index_or xs k d) ≡ false

-- The answer of the search: none exactly for the empty list, else a place in the list, at which the element comes first where all elements are sound.
abbrev pub First : {X : Type 0} → (X → Type 0) → (X → X → Bool) → List X → Option ℕ → Type 0
First sound upto xs None = length xs ≡ 0
First sound upto xs (Some k) = (k < length xs) × (AllByRecursion sound xs → ComesFirst upto xs (length xs) k)

-- The same where the order need only hold among the elements of the list.
abbrev pub FirstAmong : {X : Type 0} → (X → X → Bool) → List X → Option ℕ → Type 0
FirstAmong upto xs None = length xs ≡ 0
FirstAmong upto xs (Some k) = (k < length xs) × (IsOrderAmong upto xs → ComesFirst upto xs (length xs) k)

-- The same for an order of all elements.
abbrev pub FirstOfAll : {X : Type 0} → (X → X → Bool) → List X → Option ℕ → Type 0
FirstOfAll upto xs None = length xs ≡ 0
FirstOfAll upto xs (Some k) = (k < length xs) × ComesFirst upto xs (length xs) k
