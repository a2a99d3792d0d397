-- The whole number closest to a fraction a / b, ties to even, by comparisons.
use Rattle.std.proofs.Common.{◌≡◌, ℕ, zero, suc, ◌+◌, ◌*◌, ◌/◌, ◌%◌, ◌<◌, ◌≤◌, not, T, eqb, subst, mod-lt, div-add-mod', arith, eqb→eq, leb→le}
use Prim.Native.Nat.{compare, Ordering}
use lib.Dec.{is_le, compare_is_eq, nleb→lt, eqb_refl}
use lib.Arith.{lt_of_le-ne}
use lib.Ieee.{nearest}
use lib.Ieee.Nearest.{closest}

-- what the outcome of a comparison says
abbrev Cmp : Ordering → ℕ → ℕ → Type 0
Cmp Ordering.lt a b = a < b
Cmp Ordering.eq a b = a ≡ b
Cmp Ordering.gt a b = b < a

-- a comparison tells the truth
cmp : (a b : ℕ) → Cmp (compare a b) a b
cmp a b = go (compare a b) (leb→le a b) (nleb→lt a b) (eqb→eq a b) (λ (e : a ≡ b). subst (λ (x : ℕ). T (eqb a x)) e (eqb_refl a))
  where
    go : (o : Ordering) → (T (is_le o) → a ≤ b) → (T (not (is_le o)) → b < a) → (T (compare_is_eq o) → a ≡ b) → (a ≡ b → T (compare_is_eq o)) → Cmp o a b
    go Ordering.lt h k e n = lt_of_le-ne (h tt) n
    go Ordering.eq h k e n = e tt
    go Ordering.gt h k e n = k tt

-- q is at most 1 / 2 away from a / b, and even where it is just that
pub record Near (a b q : ℕ) : Type 0 where
  pub high : 2 * a ≤ (2 * q + 1) * b
  pub low : 2 * q * b ≤ 2 * a + b
  pub tie_high : 2 * a ≡ (2 * q + 1) * b → q % 2 ≡ 0
  pub tie_low : 2 * q * b ≡ 2 * a + b → q % 2 ≡ 0

-- rounding up an odd number by 1 makes it even
even_up : (w : ℕ) → (w + w % 2) % 2 ≡ 0
even_up w = omega arith

-- with a = w b + r, the whole number nearest to a / b is told by r and half of b
near_of : (a b w r : ℕ) (o : Ordering) → 0 < b → w * b + r ≡ a → r < b → Cmp o (r * 2) b → Near a b (nearest w o)
near_of a b w r Ordering.lt B e R c = record { high = omega arith; low = omega arith; tie_high = λ t. omega arith; tie_low = λ t. omega arith }
near_of a b w r Ordering.gt B e R c =
    let s : suc w * b ≡ w * b + b = omega arith in
    record { high = omega arith; low = omega arith; tie_high = λ t. omega arith; tie_low = λ t. omega arith }
near_of a b w r Ordering.eq B e R c = go (w % 2) (omega arith) (even_up w)
  where
    go : (p : ℕ) → p < 2 → (w + p) % 2 ≡ 0 → Near a b (w + p)
    go zero h z = record { high = omega arith; low = omega arith; tie_high = λ t. z; tie_low = λ t. z }
    go (suc zero) h z = record { high = omega arith; low = omega arith; tie_high = λ t. z; tie_low = λ t. z }
    go (suc (suc p)) h z = omega arith

-- `closest` is the nearest
pub closest_near : (a b : ℕ) → 0 < b → Near a b (closest a b)
closest_near a b B = near_of a b (a / b) (a % b) (compare (a % b * 2) b) B (div-add-mod' a b) (mod-lt a B) (cmp (a % b * 2) b)
