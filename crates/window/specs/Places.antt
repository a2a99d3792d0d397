-- When a place lies in a size, by its two numbers.
use Rattle.std.specs.Prelude.{◌≡◌, ℕ, ◌<◌, Bool, true, false, ◌&&◌, pos, nat_lt, refl}
use Rattle.std.proofs.Common.{arith, ltb-true, lt-ltb}
use Rattle.plotters_backend.specs.Surface.{within}

-- both parts of a conjunction that holds
both : (a b : Bool) → a && b ≡ true → (a ≡ true) × (b ≡ true)
both true true e = (refl, refl)
both true false e = let z : ◌≡◌ {A = ℕ} 0 1 = cc in absurd (omega arith)
both false true e = let z : ◌≡◌ {A = ℕ} 0 1 = cc in absurd (omega arith)
both false false e = let z : ◌≡◌ {A = ℕ} 0 1 = cc in absurd (omega arith)

-- a place in a size has its numbers below the sides
pub within_split : (s : ℕ × ℕ) (x y : ℕ) → within s (pos x, pos y) ≡ true → (x < s.0) × (y < s.1)
within_split (w, h) x y e = let k = both (nat_lt x w) (nat_lt y h) e in (ltb-true x w k.0, ltb-true y h k.1)

-- a place with its numbers below the sides lies in the size
pub within_join : (s : ℕ × ℕ) (x y : ℕ) → x < s.0 → y < s.1 → within s (pos x, pos y) ≡ true
within_join (w, h) x y a b = let i = lt-ltb x w a in let j = lt-ltb y h b in rw (i, j)
