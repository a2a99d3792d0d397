-- A cast to 32 signed bits of a number between two whole numbers that fit them.
use Rattle.std.proofs.Common.{◌≡◌, ℕ, ◌+◌, ◌-◌, ◌*◌, ◌/◌, ◌^◌, ◌<◌, ◌≤◌, min, true, false, ℤ, pos, neg_ℤ, ◌≤ℤ◌, sym, ap, subst, arith, w32, SFits}
use lib.Ieee.{Float, nan, inf, fin, to_signed}
use lib.Ieee as ieee
use lib.Ieee.Fits.{down_pos}
use borrow.Author.Differences.{up, down, le_out, fits_out, same_in}
use Rattle.binary64.specs.Range.{P, N, Between}
use Rattle.binary64.proofs.Floors.{div_low, div_high, signed, near_low, near_high, near_least, near_most}

-- the whole number next to x on the side of 0
abbrev trunc_z : Float → ℤ
trunc_z nan = pos 0
trunc_z (inf s) = pos 0
trunc_z (fin s m e) = signed s (m * ieee.up e / ieee.down e)

-- x is cast to z, which lies between lo and hi
record Cast (lo hi z : ℤ) (x : Float) : Type 0 where
  is : to_signed 31 x ≡ z
  least : lo ≤ℤ z
  most : z ≤ℤ hi

-- the lesser of two where one is known to be at most the other
min_is : (q c : ℕ) → q ≤ c → min q c ≡ q
min_is q c h = omega arith

-- between two ends that fit, a cast cuts toward 0 and stays between them
cast_of : (x : Float) (lo hi : ℤ) → Between lo hi x → SFits w32 lo → SFits w32 hi → Cast lo hi (trunc_z x) x
unfolding to_signed
cast_of nan lo hi b S R = absurd b.real
cast_of (inf s) lo hi b S R = absurd b.real
cast_of (fin false m e) lo hi b S R =
    let a = m * ieee.up e in
    let d = ieee.down e in
    let x = fin false m e in
    let q = a / d in
    let l : q * d ≤ a = div_low a d (down_pos e) in
    let h : a < (q + 1) * d = div_high a d (down_pos e) in
    let D : 0 < d = down_pos e in
    let over : P x + 0 * d < (q + 1) * d + N x = omega arith in
    let under : q * d + N x < P x + (0 + 1) * d = omega arith in
    let f = fits_out w32 hi R in
    let k : q + down hi ≤ up hi + 0 = near_high x false q over under lo hi b in
    record { is = ap pos (min_is q (2 ^ 31 - 1) (omega arith)); least = near_least x false q over under lo hi b; most = near_most x false q over under lo hi b }
cast_of (fin true m e) lo hi b S R =
    let a = m * ieee.up e in
    let d = ieee.down e in
    let x = fin true m e in
    let q = a / d in
    let l : q * d ≤ a = div_low a d (down_pos e) in
    let h : a < (q + 1) * d = div_high a d (down_pos e) in
    let D : 0 < d = down_pos e in
    let over : P x + q * d < (0 + 1) * d + N x = omega arith in
    let under : 0 * d + N x < P x + (q + 1) * d = omega arith in
    let f = fits_out w32 lo S in
    let k : up lo + q ≤ 0 + down lo = near_low x true q over under lo hi b in
    record { is = ap (λ (c : ℕ). neg_ℤ (pos c)) (min_is q (2 ^ 31) (omega arith)); least = near_least x true q over under lo hi b; most = near_most x true q over under lo hi b }

-- a cast stays between ends that fit
pub cast_between : {lo hi : ℤ} {x : Float} → Between lo hi x → SFits w32 lo → SFits w32 hi → (lo ≤ℤ to_signed 31 x) × (to_signed 31 x ≤ℤ hi)
cast_between {lo} {hi} {x} b S R =
    let c = cast_of x lo hi b S R in
    (subst (λ (z : ℤ). lo ≤ℤ z) (sym c.is) c.least, subst (λ (z : ℤ). z ≤ℤ hi) (sym c.is) c.most)

-- a whole number is cast to itself
pub cast_exact : {z : ℤ} {x : Float} → Between z z x → SFits w32 z → to_signed 31 x ≡ z
cast_exact {z} {x} b S = let c = cast_between b S S in same_in (to_signed 31 x) z (omega (arith, le_out z (to_signed 31 x) c.0, le_out (to_signed 31 x) z c.1))
