-- The quotient is the slope, since an i32 read back from its bits is itself.
use Rattle.std.proofs.Common.{◌≡◌, ◌^◌, ◌<◌, ℤ, nat_abs, sym, subst, arith, w32, SFits}
use borrow.Author.Differences.{ints}
use lib.Ieee.{binary64, div}
use Rattle.std.proofs.lemmas.Int.{to_z-of_z}
use Rattle.binary64.specs.Range.{Sized}
use Rattle.binary64.specs.Slope.{slope}
use Rattle.binary64.specs.Fraction.{NearestSlope}
use Rattle.binary64.proofs.Slopes.{slope_sized, slope_nearest}
use Rattle.binary64.proofs.gradient.Goals as goal

-- an i32 is below 2 ^ 53 in size
below_53 : (z : ℤ) → SFits w32 z → nat_abs z < 2 ^ 53
below_53 z h = omega (arith, ints)

-- the quotient of the two floats is the slope
quotient : (c : goal.After-from-2) → div binary64 c.from.result c.from-2.result ≡ slope c.args.rise c.args.run
quotient c =
    let a = to_z-of_z w32 c.args.rise c.ranges.rise in
    let b = to_z-of_z w32 c.args.run c.ranges.run in
    cc

pub returns : goal.returns
returns c =
    let rise = c.args.rise in
    let run = c.args.run in
    let e = quotient c in
    record {
      value = e;
      sized = λ X Y. subst (Sized 1) (sym e) (slope_sized rise run X Y (below_53 run c.ranges.run));
      nearest = λ X. subst (NearestSlope rise run) (sym e) (slope_nearest rise run X (below_53 rise c.ranges.rise) (below_53 run c.ranges.run));
    }
