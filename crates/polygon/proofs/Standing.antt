-- Where a sound edge stands: at 32,767 or before, and its ceil at its floor or one past it.
use Rattle.std.proofs.Common.{◌≡◌, ℕ, ◌-◌, ◌<◌, ◌≤◌, Bool, cond, ℤ, pos, ◌+ℤ◌, ◌-ℤ◌, ◌*ℤ◌, ◌≤ℤ◌, ap, ◌∙◌, arith}
use Rattle.std.proofs.lemmas.Int.{ints, by_lt_z}
use Rattle.binary64.specs.Quotient.{floor_over, ceil_over}
use Rattle.edges.specs.declared.side.Edge.{Edge}
use Rattle.edges.specs.Side.{is_sound, Sound, over, under, floor_at, ceil_at}
use Rattle.edges.proofs.Limits.{limits}
use Rattle.outline.proofs.Products.{sums, mul_difference, difference_mul, mul-le, le_cancel, floor_low, floor_high, ceil_low, ceil_high}

-- a multiple by t is the sum of those by the two parts of t
split : (z : ℤ) (n t : ℕ) → n ≤ t → z *ℤ pos t ≡ z *ℤ pos (t - n) +ℤ z *ℤ pos n
split z n t le =
    let e : pos (t - n) ≡ pos t -ℤ pos n = omega (arith, ints) in
    let h = ap (λ (k : ℤ). z *ℤ k) e ∙ difference_mul (pos t) (pos n) z in
    omega (arith, sums)

-- a place is not past what neither of its ends is past
mean_at_most : (n t : ℕ) (b e k : ℤ) → n ≤ t → b ≤ℤ k → e ≤ℤ k → (b *ℤ pos t +ℤ (e -ℤ b) *ℤ pos n) ≤ℤ (k *ℤ pos t)
mean_at_most n t b e k le p q =
    let u = split b n t le in
    let v = split k n t le in
    let d = mul_difference e b (pos n) in
    let f = mul-le b k (t - n) p in
    let g = mul-le e k n q in
    omega (arith, sums)

-- a quotient's floor is at most its ceil
floor_ceil : (z : ℤ) (d : ℕ) → 0 < d → floor_over z d ≤ℤ ceil_over z d
floor_ceil z d p =
    let f = floor_low z d p in
    let g = ceil_high z d p in
    le_cancel (floor_over z d) (ceil_over z d) d p (omega (arith, sums))

-- and its ceil at most one past its floor
ceil_floor : (z : ℤ) (d : ℕ) → 0 < d → ceil_over z d ≤ℤ (floor_over z d +ℤ pos 1)
ceil_floor z d p =
    by_lt_z (floor_over z d +ℤ pos 1) (ceil_over z d)
    (λ k.
    let f = floor_high z d p in
    let g = ceil_low z d p in
    let h = mul-le (floor_over z d +ℤ pos 1) (ceil_over z d -ℤ pos 1) d (omega (arith, ints)) in
    absurd (omega (arith, sums)))
    (λ k. k)

-- where a sound edge stands
pub record Stands (e : Edge) : Type 0 where
  pub near : floor_at e ≤ℤ pos 32767
  pub rises : floor_at e ≤ℤ ceil_at e
  pub next : ceil_at e ≤ℤ (floor_at e +ℤ pos 1)

-- a sound edge stands there
pub sound_stands : (e : Edge) → Sound e → Stands e
sound_stands e s =
    let l = limits e s in
    let f = floor_low (over e) (under e) l.some in
    let m = mean_at_most e.epoch (under e) e.slave_begin e.slave_end (pos 32767) l.done l.b_high l.e_high in
    record {
      near = le_cancel (floor_at e) (pos 32767) (under e) l.some (omega (arith, sums));
      rises = floor_ceil (over e) (under e) l.some;
      next = ceil_floor (over e) (under e) l.some;
    }

-- what is read off a sound edge
pub from_sound : {A : Type 0} (e : Edge) (r x y : A) → Sound e → r ≡ cond (is_sound e) x y → r ≡ x
from_sound {A} e r x y s h = h ∙ ap (λ (b : Bool). cond b x y) s
