-- The cast of the float's floor is the exact floor, where the number's size is known.
use Rattle.std.proofs.Common.{◌≡◌, ◌≤◌, ℤ, nat_abs, sym, ◌∙◌, subst, arith, w32, to_z, of_z}
use borrow.Author.Differences.{ints}
use lib.Ieee.{binary64, to_signed}
use Rattle.std.specs.Float.{floor}
use Rattle.std.proofs.lemmas.Int.{to_z-of_z}
use Rattle.binary64.proofs.Sizes.{floor_cast_is, floor_cast_sized}
use Rattle.binary64.proofs.floor_to_i32.Goals as goal

-- the answer, read from its bits, is the cast of the floor
answer : (c : goal.After-saturating_f64_to_i32) → to_z w32 (of_z w32 c.saturating_f64_to_i32.result) ≡ to_signed 31 (floor binary64 c.args.y)
answer c =
    let z = c.saturating_f64_to_i32.result in
    let e = to_z-of_z w32 z (omega (arith, ints)) in
    cc

pub returns : goal.returns
returns c =
    let e = answer c in
    record {
      value = e;
      exact = λ a s h. (e ∙ floor_cast_is a h s, subst (λ (z : ℤ). nat_abs z ≤ a) (sym e) (floor_cast_sized a h s));
    }
