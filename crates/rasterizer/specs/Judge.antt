-- What is refused of the numbers of a draw.
use Rattle.std.specs.Prelude.{ℕ, Bool, cond, not, ◌&&◌, ℤ, Ok, Err, Result, nat_le, unsigned_abs}
use Rattle.plotters_backend.specs.declared.error.Refusal.{Refusal}
use Rattle.plotters_backend.specs.declared.error.Refusal.TheVariants.{Far}

-- whether both coordinates of a point lie within r of 0
abbrev pub within_reach : ℕ → ℤ × ℤ → Bool
within_reach r p = nat_le (unsigned_abs p.0) r && nat_le (unsigned_abs p.1) r

-- whether a coordinate is below -16,384 or above 16,384
abbrev pub far : ℤ × ℤ → Bool
far p = not (within_reach 16384 p)

-- whether both coordinates are at least -32,767 and at most 32,767
abbrev pub near : ℤ × ℤ → Bool
near p = within_reach 32767 p

-- two ends are refused where one of them does not lie within r of 0
abbrev pub ends_check : ℕ → ℤ × ℤ → ℤ × ℤ → Result (Unit {0}) Refusal
ends_check r p q = cond (within_reach r p && within_reach r q) (Ok tt) (Err Far)
