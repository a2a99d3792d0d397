-- The float sum of two finite numbers is their exact sum, rounded once.
use Rattle.std.proofs.Common.{◌≡◌, ℕ, ◌+◌, ◌-◌, ◌*◌, ◌<◌, ◌≤◌, Bool, true, false, cond, not, T, ltb, sym, refl, ap, ◌∙◌, subst, zero-mul, arith, ltb→lt, nltb→le}
use lib.Ieee.{Float, nan, inf, fin, Format, round, sum, add}
use lib.Ieee as ieee
use lib.Ieee.Scale.{finite}
use lib.Ieee.Positive.{den}
use Rattle.binary64.specs.Range.{plus, less, P, N}

-- r is (p - n) / d rounded, as one fraction with a sign, of at most p + n over d in size
pub record Summed (f : Format) (r : Float) (p n d : ℕ) : Type 0 where
  pub sign : Bool
  pub size : ℕ
  pub is : r ≡ round f sign size d
  pub value : plus sign size + n ≡ less sign size + p
  pub bound : size ≤ p + n

-- a sum of two fractions over c is the exact sum, rounded
sum_is : (f : Format) (s : Bool) (a : ℕ) (t : Bool) (b c : ℕ) → Summed f (sum f s a t b c) (plus s a + plus t b) (less s a + less t b) c
unfolding sum
sum_is f false a false b c = record { sign = false; size = a + b; is = refl; value = omega arith; bound = omega arith }
sum_is f true a true b c = record { sign = true; size = a + b; is = refl; value = omega arith; bound = omega arith }
sum_is f false a true b c = go (ltb a b) (ltb→lt a b) (nltb→le a b)
  where
    go : (t : Bool) → (T t → a < b) → (T (not t) → b ≤ a) → Summed f (cond t (round f true (b - a) c) (round f false (a - b) c)) (a + 0) (0 + b) c
    go true h k = let l : a < b = h tt in record { sign = true; size = b - a; is = refl; value = omega arith; bound = omega arith }
    go false h k = let l : b ≤ a = k tt in record { sign = false; size = a - b; is = refl; value = omega arith; bound = omega arith }
sum_is f true a false b c = go (ltb a b) (ltb→lt a b) (nltb→le a b)
  where
    last : (t : Bool) → (T (not t) → a ≤ b) → b ≤ a → Summed f (round f t (a - b) c) (0 + b) (a + 0) c
    last true k l = record { sign = true; size = a - b; is = refl; value = omega arith; bound = omega arith }
    last false k l = let m : a ≤ b = k tt in record { sign = false; size = a - b; is = refl; value = omega arith; bound = omega arith }

    go : (t : Bool) → (T t → a < b) → (T (not t) → b ≤ a) → Summed f (cond t (round f false (b - a) c) (round f (ltb b a) (a - b) c)) (0 + b) (a + 0) c
    go true h k = let l : a < b = h tt in record { sign = false; size = b - a; is = refl; value = omega arith; bound = omega arith }
    go false h k = last (ltb b a) (nltb→le b a) (k tt)

-- a factor goes inside the sign
plus_times : (s : Bool) (a c : ℕ) → plus s (a * c) ≡ plus s a * c
plus_times false a c = refl
plus_times true a c = sym (zero-mul c)

-- a factor goes inside the sign of what is taken away
less_times : (s : Bool) (a c : ℕ) → less s (a * c) ≡ less s a * c
less_times false a c = sym (zero-mul c)
less_times true a c = refl

-- `add` of two finite numbers is their exact sum, rounded
pub add_is : (f : Format) (x y : Float) → T (finite x) → T (finite y) → Summed f (add f x y) (P x * den y + P y * den x) (N x * den y + N y * den x) (den x * den y)
unfolding add
add_is f nan y h k = absurd h
add_is f (inf s) y h k = absurd h
add_is f (fin s m e) nan h k = absurd k
add_is f (fin s m e) (inf t) h k = absurd k
add_is f (fin s m e) (fin t n d) h k =
    let a = m * ieee.up e in
    let b = n * ieee.up d in
    subst (λ (z : ℕ). Summed f (sum f s (a * ieee.down d) t (b * ieee.down e) (ieee.down e * ieee.down d)) z (less s a * ieee.down d + less t b * ieee.down e) (ieee.down e * ieee.down d))
    (ap (λ (z : ℕ). z + plus t (b * ieee.down e)) (plus_times s a (ieee.down d)) ∙ ap (λ (z : ℕ). plus s a * ieee.down d + z) (plus_times t b (ieee.down e)))
    (subst (λ (z : ℕ). Summed f (sum f s (a * ieee.down d) t (b * ieee.down e) (ieee.down e * ieee.down d)) (plus s (a * ieee.down d) + plus t (b * ieee.down e)) z (ieee.down e * ieee.down d))
    (ap (λ (z : ℕ). z + less t (b * ieee.down e)) (less_times s a (ieee.down d)) ∙ ap (λ (z : ℕ). less s a * ieee.down d + z) (less_times t b (ieee.down e)))
    (sum_is f s (a * ieee.down d) t (b * ieee.down e) (ieee.down e * ieee.down d)))
