-- The order of numbers by size compares any two, and is transitive.
use Rattle.std.specs.Prelude.{◌≡◌, ℕ, Bool, true, false, ◌⊎◌, nat_le, refl}
use Rattle.std.proofs.Common.{inl, inr, le_trans, le_of_lt}
use Rattle.std.proofs.lemmas.Bool.{leb-true, leb-false, le-leb}

-- of two numbers, one is at most the other
pub sizes_total : (x y : ℕ) → (nat_le x y ≡ true) ⊎ (nat_le y x ≡ true)
sizes_total x y = go (nat_le x y) refl
  where
    go : (b : Bool) → nat_le x y ≡ b → (nat_le x y ≡ true) ⊎ (nat_le y x ≡ true)
    go true e = inl e
    go false e = inr (le-leb y x (le_of_lt (leb-false x y e)))

-- what is at most a number is at most what that is at most
pub sizes_transitive : (x y z : ℕ) → nat_le x y ≡ true → nat_le y z ≡ true → nat_le x z ≡ true
sizes_transitive x y z h k = le-leb x z (le_trans (leb-true x y h) (leb-true y z k))
