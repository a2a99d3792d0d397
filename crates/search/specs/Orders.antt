-- What comes no later than what, by a total order.
use Rattle.std.specs.Prelude.{◌≡◌, true, not, ◌⊎◌, refl}
use Rattle.std.proofs.Common.{sym, ap, ◌∙◌, inl, inr, true≢false}
use Rattle.std.specs.declared.cmp.Ordering.TheVariants.{Less, Equal, Greater}
use Rattle.std.specs.declared.cmp.Ordering.{Ordering}
use Rattle.std.specs.Ordering.{is_le, is_lt, ordering_reverse}
use Rattle.std.specs.Cmp.{IsTotalOrder, alike_right}
use Rattle.search.specs.First.{up_to}

-- Of two answers that are each other reversed, one is at most Equal.
one_way : (a b : Ordering) → a ≡ ordering_reverse b → (is_le a ≡ true) ⊎ (is_le b ≡ true)
one_way a Less e = inr refl
one_way a Equal e = inr refl
one_way a Greater e = inl (ap is_le e)

-- An answer is Less where the reversed one is above Equal.
turned : (a b : Ordering) → a ≡ ordering_reverse b → is_lt a ≡ not (is_le b)
turned a Less e = ap is_lt e
turned a Equal e = ap is_lt e
turned a Greater e = ap is_lt e

module _ {X : Type 0} (cmp : X → X → Ordering) (o : IsTotalOrder cmp) where
  -- Of two elements, one comes no later than the other.
  pub up_to_total : (x y : X) → (up_to cmp x y ≡ true) ⊎ (up_to cmp y x ≡ true)
  up_to_total x y = one_way (cmp x y) (cmp y x) (o.antisymm x y)

  -- What comes no later than an element that comes no later than a third comes no later than that.
  pub up_to_transitive : (x y z : X) → up_to cmp x y ≡ true → up_to cmp y z ≡ true → up_to cmp x z ≡ true
  up_to_transitive x y z h k = go (cmp x y) (cmp y z) refl refl h k
    where
      go : (a b : Ordering) → cmp x y ≡ a → cmp y z ≡ b → is_le a ≡ true → is_le b ≡ true → up_to cmp x z ≡ true
      go Less Less p q h k = ap is_le (o.trans x y z p q)
      go Less Equal p q h k = ap is_le (sym (alike_right o y z x q) ∙ p)
      go Less Greater p q h k = absurd (true≢false (sym k))
      go Equal b p q h k = ap is_le (o.congr x y z p ∙ q) ∙ k
      go Greater b p q h k = absurd (true≢false (sym h))

  -- An element is below another where that one does not come up to it.
  pub below : (x y : X) → is_lt (cmp x y) ≡ not (up_to cmp y x)
  below x y = turned (cmp x y) (cmp y x) (o.antisymm x y)
