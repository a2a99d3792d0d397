-- `Between` of whole numbers and of sums.
use Rattle.std.proofs.Common.{◌≡◌, ℕ, suc, ◌+◌, ◌-◌, ◌*◌, ◌<◌, ◌≤◌, Bool, true, false, cond, not, T, ltb, ℤ, pos, negsuc, ◌+ℤ◌, sym, refl, mul-le-mul_right, mul-pos, zero-mul, arith, lit<, ltb→lt, nltb→le}
use lib.Ieee.{Float, nan, inf, fin, binary64, round, sum, add, of_int}
use lib.Ieee as ieee
use lib.Ieee.Scale.{finite}
use lib.Ieee.Positive.{den, den_pos}
use borrow.Author.Differences.{up, down, sum_is_lem}
use Rattle.binary64.specs.Range.{plus, less, P, N, Between, Small}
use Rattle.binary64.proofs.Rounding.{Rounds, rounds_between}

-- a whole number is rounded
of_int_rounds : (z : ℤ) → Rounds (of_int binary64 z) (up z) (down z) 1
unfolding of_int
of_int_rounds (pos n) = record { sign = false; size = n; is = refl; value = omega arith }
of_int_rounds (negsuc n) = record { sign = true; size = suc n; is = refl; value = omega arith }

-- a small whole number is itself
pub of_int_lem : (z : ℤ) → Small z → Between z z (of_int binary64 z)
of_int_lem z s =
    rounds_between (of_int binary64 z) (up z) (down z) 1 z z (up z) (down z) (up z) (down z) (of_int_rounds z) (lit< tt) s s (omega arith) (omega arith) (omega arith) (omega arith)

-- a sum of two fractions over c is the exact sum, rounded
sum_rounds : (s : Bool) (a : ℕ) (t : Bool) (b c : ℕ) → Rounds (sum binary64 s a t b c) (plus s a + plus t b) (less s a + less t b) c
unfolding sum
sum_rounds false a false b c = record { sign = false; size = a + b; is = refl; value = omega arith }
sum_rounds true a true b c = record { sign = true; size = a + b; is = refl; value = omega arith }
sum_rounds false a true b c = go (ltb a b) (ltb→lt a b) (nltb→le a b)
  where
    go : (t : Bool) → (T t → a < b) → (T (not t) → b ≤ a) → Rounds (cond t (round binary64 true (b - a) c) (round binary64 false (a - b) c)) (a + 0) (0 + b) c
    go true h k = let l : a < b = h tt in record { sign = true; size = b - a; is = refl; value = omega arith }
    go false h k = let l : b ≤ a = k tt in record { sign = false; size = a - b; is = refl; value = omega arith }
sum_rounds true a false b c = go (ltb a b) (ltb→lt a b) (nltb→le a b)
  where
    last : (t : Bool) → (T (not t) → a ≤ b) → b ≤ a → Rounds (round binary64 t (a - b) c) (0 + b) (a + 0) c
    last true k l = record { sign = true; size = a - b; is = refl; value = omega arith }
    last false k l = let m : a ≤ b = k tt in record { sign = false; size = a - b; is = refl; value = omega arith }

    go : (t : Bool) → (T t → a < b) → (T (not t) → b ≤ a) → Rounds (cond t (round binary64 false (b - a) c) (round binary64 (ltb b a) (a - b) c)) (0 + b) (a + 0) c
    go true h k = let l : a < b = h tt in record { sign = false; size = b - a; is = refl; value = omega arith }
    go false h k = last (ltb b a) (nltb→le b a) (k tt)

-- a factor goes inside the sign
plus_times : (s : Bool) (a c : ℕ) → plus s (a * c) ≡ plus s a * c
plus_times false a c = refl
plus_times true a c = sym (zero-mul c)

less_times : (s : Bool) (a c : ℕ) → less s (a * c) ≡ less s a * c
less_times false a c = sym (zero-mul c)
less_times true a c = refl

-- `add` of two finite numbers is their exact sum, rounded
add_rounds : (x y : Float) → T (finite x) → T (finite y) → Rounds (add binary64 x y) (P x * den y + P y * den x) (N x * den y + N y * den x) (den x * den y)
unfolding add
add_rounds nan y h k = absurd h
add_rounds (inf s) y h k = absurd h
add_rounds (fin s m e) nan h k = absurd k
add_rounds (fin s m e) (inf t) h k = absurd k
add_rounds (fin s m e) (fin t n d) h k =
    let a = m * ieee.up e in
    let b = n * ieee.up d in
    let c = ieee.down e in
    let g = ieee.down d in
    let r = sum_rounds s (a * g) t (b * c) (c * g) in
    let e1 = plus_times s a g in
    let e2 = plus_times t b c in
    let e3 = less_times s a g in
    let e4 = less_times t b c in
    record { sign = r.sign; size = r.size; is = r.is; value = omega (arith, r.value, e1, e2, e3, e4) }

-- two lower ends add up
sum_low : (w v w' v' p n p' n' d d' : ℕ) → w * d + n ≤ p + v * d → w' * d' + n' ≤ p' + v' * d' → (w + w') * (d * d') + (n * d' + n' * d) ≤ p * d' + p' * d + (v + v') * (d * d')
sum_low w v w' v' p n p' n' d d' h k = omega (arith, mul-le-mul_right d' h, mul-le-mul_right d k)

-- two upper ends add up
sum_high : (w v w' v' p n p' n' d d' : ℕ) → p + v * d ≤ w * d + n → p' + v' * d' ≤ w' * d' + n' → p * d' + p' * d + (v + v') * (d * d') ≤ (w + w') * (d * d') + (n * d' + n' * d)
sum_high w v w' v' p n p' n' d d' h k = omega (arith, mul-le-mul_right d' h, mul-le-mul_right d k)

-- a sum lies between the sums of the ends
pub add_between : {lo hi lo' hi' : ℤ} {x y : Float} → Between lo hi x → Between lo' hi' y → Small (lo +ℤ lo') → Small (hi +ℤ hi') → Between (lo +ℤ lo') (hi +ℤ hi') (add binary64 x y)
add_between {lo} {hi} {lo'} {hi'} {x} {y} b c s t =
    rounds_between (add binary64 x y) (P x * den y + P y * den x) (N x * den y + N y * den x) (den x * den y) (lo +ℤ lo') (hi +ℤ hi')
    (up lo + up lo') (down lo + down lo') (up hi + up hi') (down hi + down hi')
    (add_rounds x y b.real c.real) (mul-pos (den_pos x) (den_pos y)) s t
    (omega (arith, sum_is_lem lo lo')) (omega (arith, sum_is_lem hi hi'))
    (sum_low (up lo) (down lo) (up lo') (down lo') (P x) (N x) (P y) (N y) (den x) (den y) b.low c.low)
    (sum_high (up hi) (down hi) (up hi') (down hi') (P x) (N x) (P y) (N y) (den x) (den y) b.high c.high)
