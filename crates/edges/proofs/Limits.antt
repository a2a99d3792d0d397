-- What a sound side's test says, as facts on its numbers.
use Rattle.std.specs.Prelude.{◌≡◌, ℕ, ◌*◌, ◌<◌, ◌≤◌, Bool, true, T, ℤ, pos, negsuc, ◌-ℤ◌, ◌*ℤ◌, ◌≤ℤ◌, int_le, nat_le, nat_lt, unsigned_abs}
use Rattle.std.proofs.Common.{sym, subst, mul-le-mul, arith, ltb→lt, leb→le}
use Rattle.std.specs.Int.Signed.{le_z_yes}
use Rattle.std.specs.Float.Ieee.Fits.{and_l, and_r}
use Rattle.std.proofs.lemmas.Int.{ints}
use Rattle.binary64.proofs.Points.{K}
use Rattle.edges.specs.declared.side.Edge.{Edge}
use Rattle.edges.specs.Side.{is_sound, Sound}
use Rattle.edges.proofs.Products.{nat_abs_times}

-- the limits on the numbers of a side
pub record Limits (n t : ℕ) (b e : ℤ) : Type 0 where
  pub some : 0 < t
  pub few : t ≤ 65534
  pub done : n ≤ t
  pub b_low : negsuc 32766 ≤ℤ b
  pub b_high : b ≤ℤ pos 32767
  pub e_low : negsuc 32766 ≤ℤ e
  pub e_high : e ≤ℤ pos 32767

-- a test that passed holds
holds : (b : Bool) → b ≡ true → T b
holds b e = subst T (sym e) tt

-- a sound side is within the limits
pub limits : (x : Edge) → Sound x → Limits x.epoch x.total_epoch x.slave_begin x.slave_end
limits x s =
    let n = x.epoch in
    let t = x.total_epoch in
    let b = x.slave_begin in
    let e = x.slave_end in
    let t0 = holds (is_sound x) s in
    let t1 = and_r (nat_lt 0 t) _ t0 in
    let t2 = and_r (nat_le t 65534) _ t1 in
    let t3 = and_r (nat_le n t) _ t2 in
    let t4 = and_r (int_le (negsuc 32766) b) _ t3 in
    let t5 = and_r (int_le b (pos 32767)) _ t4 in
    record {
      some = ltb→lt 0 t (and_l (nat_lt 0 t) _ t0);
      few = leb→le t 65534 (and_l (nat_le t 65534) _ t1);
      done = leb→le n t (and_l (nat_le n t) _ t2);
      b_low = le_z_yes (and_l (int_le (negsuc 32766) b) _ t3);
      b_high = le_z_yes (and_l (int_le b (pos 32767)) _ t4);
      e_low = le_z_yes (and_l (int_le (negsuc 32766) e) _ t5);
      e_high = le_z_yes (and_r (int_le (negsuc 32766) e) _ t5);
    }

-- what the laws of the float sum ask of the sizes
pub record Sizes (n t : ℕ) (b e : ℤ) : Type 0 where
  pub start : unsigned_abs b ≤ K
  pub some : 0 < t
  pub few : t ≤ K
  pub rise : unsigned_abs ((e -ℤ b) *ℤ pos n) ≤ K * t

-- within the limits the sizes are right
pub sizes : (n t : ℕ) (b e : ℤ) → Limits n t b e → Sizes n t b e
sizes n t b e l =
    let wide : unsigned_abs (e -ℤ b) ≤ K = omega (arith, ints) in
    record {
      start = omega (arith, ints);
      some = l.some;
      few = omega arith;
      rise = subst (λ (k : ℕ). k ≤ K * t) (sym (nat_abs_times (e -ℤ b) (pos n))) (mul-le-mul wide l.done);
    }
