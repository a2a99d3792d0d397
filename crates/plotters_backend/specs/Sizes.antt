-- The sizes that a surface may have, and the places of points in them.
use Rattle.std.specs.Prelude.{ℕ, ◌+◌, ◌*◌, Bool, cond, ◌&&◌, ℤ, Some, None, Ok, Err, Option, Result, nat_le, nat_lt, unsigned_abs}
use Rattle.plotters_backend.specs.Surface.{within}
use Rattle.plotters_backend.specs.declared.error.Refusal.{Refusal}
use Rattle.plotters_backend.specs.declared.error.Refusal.TheVariants.{Size}

-- whether no side is 0 or above 16,384
abbrev pub proper : ℕ × ℕ → Bool
proper s = (nat_lt 0 s.0 && nat_le s.0 16384) && (nat_lt 0 s.1 && nat_le s.1 16384)

-- a size is refused where it is not proper
abbrev pub size_check : ℕ × ℕ → Result (Unit {0}) Refusal
size_check s = cond (proper s) (Ok tt) (Err Size)

-- how many places of a size come before the place (x, y), row after row
abbrev pub index : ℕ × ℕ → ℕ → ℕ → ℕ
index s x y = y * s.0 + x

-- of any point: none outside the size
abbrev pub index_at : ℕ × ℕ → ℤ × ℤ → Option ℕ
index_at s p = cond (within s p) (Some (index s (unsigned_abs p.0) (unsigned_abs p.1))) None
