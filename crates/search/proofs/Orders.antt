-- What the order of all elements, or of the sound ones, says of those of a list.
use Rattle.std.proofs.Common.{◌≡◌, ℕ, Bool, not, ◌<◌, List, length, Option, Some, None, slice_index_or, ap, ◌∙◌}
use Rattle.std.specs.declared.cmp.Ordering.{Ordering}
use Rattle.std.specs.Ordering.{is_lt, is_some_and, partial_lt}
use Rattle.std.specs.Cmp.{IsTotalOrder}
use Rattle.std.specs.List.{AllByRecursion}
use Rattle.std.proofs.ByRecursion.{All-get_or}
use Rattle.search.specs.First.{First, FirstAmong, FirstOfAll, IsOrder, IsOrderAmong, up_to}
use Rattle.search.specs.Orders.{below, up_to_total, up_to_transitive}
use Rattle.search.proofs.Callers.{all_sound}

-- What `<` answers tells whether the first element comes strictly before the second.
pub lt_tells : {X : Type 0} (part : X → X → Option Ordering) (cmp : X → X → Ordering) → IsTotalOrder cmp → (x y : X) (r : Bool) → part x y ≡ Some (cmp x y) → r ≡ partial_lt part x y → r ≡ not (up_to cmp y x)
lt_tells part cmp o x y r m e = e ∙ ap (is_some_and is_lt) m ∙ below cmp o x y

-- By a total order all elements are in order.
pub is_order : {X : Type 0} (cmp : X → X → Ordering) → IsTotalOrder cmp → IsOrder (λ _. Unit {0}) (up_to cmp)
is_order cmp o = record { total = λ x y s t. up_to_total cmp o x y; transitive = λ x y z s t u. up_to_transitive cmp o x y z }

-- Where all elements of a list are sound, an order among the sound ones is one among those of the list.
pub among_sound : {X : Type 0} (sound : X → Type 0) (upto : X → X → Bool) → IsOrder sound upto → (xs : List X) → AllByRecursion sound xs → IsOrderAmong upto xs
among_sound {X} sound upto o xs s =
    let ok : (k : ℕ) (d : X) → k < length xs → sound (slice_index_or xs k d) = λ k d m. All-get_or sound xs k d m s in
    record {
      total = λ i j d l m. o.total _ _ (ok i d l) (ok j d m);
      transitive = λ i j k d l m n. o.transitive _ _ _ (ok i d l) (ok j d m) (ok k d n);
    }

-- The answer of the search by an order among the sound elements.
pub of_sound : {X : Type 0} (sound : X → Type 0) (upto : X → X → Bool) → IsOrder sound upto → (xs : List X) (r : Option ℕ) → FirstAmong upto xs r → First sound upto xs r
of_sound sound upto o xs None h = h
of_sound sound upto o xs (Some k) h = (h.0, λ s. h.1 (among_sound sound upto o xs s))

-- The answer of the search where all elements are sound.
pub of_all : {X : Type 0} (upto : X → X → Bool) (xs : List X) (r : Option ℕ) → First (λ _. Unit {0}) upto xs r → FirstOfAll upto xs r
of_all upto xs None h = h
of_all upto xs (Some k) h = (h.0, h.1 (all_sound (λ _. Unit {0}) (λ _. tt) xs))
