-- What one turn of the search does to the best place so far.
use Rattle.std.proofs.Common.{◌≡◌, ℕ, ◌+◌, ◌<◌, Bool, true, false, not, List, length, get_or, drop, take, ◌-◌, sym, ap, ◌∙◌, subst, ⊎_elim, arith, below_more}
use Rattle.std.proofs.lemmas.Grind.{get_or_after_one}
use Rattle.std.proofs.lemmas.List.{get_or_read, length-drop, take_rest}
use Rattle.std.proofs.lemmas.Bool.{both_ways, cases_Bool, not-true, not-false}
use Rattle.search.specs.First.{ComesFirst, IsOrderAmong}

-- The comparison of two elements that were read is that of what stands at their places.
compared : {X : Type 0} (upto : X → X → Bool) (xs : List X) (a b : ℕ) (x y : X) → a < length xs → b < length xs → x ≡ get_or xs a x → y ≡ get_or xs b y → (d : X) → upto (get_or xs a d) (get_or xs b d) ≡ upto x y
compared upto xs a b x y la lb p q d = λ j. upto (sym (get_or_read xs a x la p d) j) (sym (get_or_read xs b y lb q d) j)

-- There is an element after the first for each place in what follows it.
pub rest_fits : {X : Type 0} (xs : List X) (i : ℕ) → i < length (take (length xs - 1) (drop 1 xs)) → i + 1 < length xs
rest_fits xs i l =
    let e : length (take (length xs - 1) (drop 1 xs)) ≡ length xs - 1 = ap length (take_rest xs 1) ∙ length-drop 1 xs in
    omega arith

-- What was read at a place in what follows the first element stands one place further in the list.
pub rest_read : {X : Type 0} (xs : List X) (i : ℕ) (x : X) → x ≡ get_or (take (length xs - 1) (drop 1 xs)) i x → x ≡ get_or xs (i + 1) x
rest_read xs i x e =
    e ∙ ap (λ ys. get_or ys i x) (take_rest xs 1) ∙ get_or_after_one xs i x ∙ ap (λ k. get_or xs k x) {x = 1 + i} {y = i + 1} (omega arith)

module _ {X : Type 0} (upto : X → X → Bool) (xs : List X) where
  -- Where the next element does not come strictly before the best so far, that stays the best.
  pub keeps : (i b : ℕ) (x y : X) (r : Bool) → ComesFirst upto xs i b → b < i → i < length xs → x ≡ get_or xs i x → y ≡ get_or xs b y → r ≡ not (upto y x) → r ≡ false → ComesFirst upto xs (i + 1) b
  keeps i b x y r h bi l p q e t = record {
    no_later = λ j d. below_more (λ k. upto (get_or xs b d) (get_or xs k d) ≡ true) i (λ k. h.no_later k d) (compared upto xs b i y x (omega arith) l q p d ∙ not-false (upto y x) (sym e ∙ t)) j;
    earliest = h.earliest;
  }

  module _ (o : IsOrderAmong upto xs) where
    -- An element comes no later than itself.
    itself : (i : ℕ) (d : X) → i < length xs → upto (get_or xs i d) (get_or xs i d) ≡ true
    itself i d l = ⊎_elim (λ h. h) (λ h. h) (o.total i i d l l)

    -- Of two elements, where the first does not come up to the second, the second comes no later than the first.
    turned : (i j : ℕ) (d : X) → i < length xs → j < length xs → upto (get_or xs i d) (get_or xs j d) ≡ false → upto (get_or xs j d) (get_or xs i d) ≡ true
    turned i j d l m h = ⊎_elim (λ k. absurd (both_ways _ h k)) (λ k. k) (o.total i j d l m)

    -- Of one element alone, it comes first.
    pub alone : 0 < length xs → ComesFirst upto xs 1 0
    alone l = record {
      no_later = λ j d m. subst (λ k. upto (get_or xs 0 d) (get_or xs k d) ≡ true) {x = 0} {y = j} (omega arith) (itself 0 d l);
      earliest = λ j d m. absurd (omega arith);
    }

    -- Where the next element comes strictly before the best so far, it is the new best.
    pub takes : (i b : ℕ) (x y : X) (r : Bool) → ComesFirst upto xs i b → b < i → i < length xs → x ≡ get_or xs i x → y ≡ get_or xs b y → r ≡ not (upto y x) → r ≡ true → ComesFirst upto xs (i + 1) i
    takes i b x y r h bi l p q e t =
        let lb : b < length xs = omega arith in
        let no : (d : X) → upto (get_or xs b d) (get_or xs i d) ≡ false = λ d. compared upto xs b i y x lb l q p d ∙ not-true (upto y x) (sym e ∙ t) in
        let yes : (d : X) → upto (get_or xs i d) (get_or xs b d) ≡ true = λ d. turned b i d lb l (no d) in
        record {
          no_later = λ j d. below_more (λ k. upto (get_or xs i d) (get_or xs k d) ≡ true) i (λ k m. o.transitive i b k d l lb (omega arith) (yes d) (h.no_later k d m)) (itself i d l) j;
          earliest = λ j d m. ⊎_elim (λ u. absurd (both_ways _ (no d) (o.transitive b j i d lb (omega arith) l (h.no_later j d (omega arith)) u))) (λ u. u) (cases_Bool (upto (get_or xs j d) (get_or xs i d)));
        }
