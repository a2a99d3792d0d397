-- A line that is neither upright nor level.
use Rattle.std.proofs.Common.{◌≡◌, Bool, true, false, ◌&&◌, ℤ, refl, arith}
use borrow.Author.Differences.{ints}
use lib.Signed.{le_z}
use lib.Ieee as Ieee
use Rattle.plotters_backend.specs.Color.{zero}
use Rattle.plotters_backend.specs.declared.style.BackendColor.{BackendColor}
use Rattle.rasterizer.specs.Line.{equal, slanting, thin}

-- two numbers that differ
pub equal_no : (a b : ℤ) → (a ≡ b → ⊥) → equal a b ≡ false
equal_no a b n = by_tests (le_z a b) (le_z b a) refl refl
  where
    by_tests : (s t : Bool) → le_z a b ≡ s → le_z b a ≡ t → s && t ≡ false
    by_tests true true e f = absurd (n (omega (arith, ints, e, f)))
    by_tests true false e f = refl
    by_tests false t e f = refl

-- a line that is neither upright nor level, in a colour that shows
pub thin_slants : (p q : ℤ × ℤ) (c : BackendColor) → Ieee.eq c.alpha zero ≡ false → (p.0 ≡ q.0 → ⊥) → (p.1 ≡ q.1 → ⊥) → thin p q c ≡ slanting p q c
thin_slants p q c a n m = let e = equal_no p.0 q.0 n in let f = equal_no p.1 q.1 m in simp (a, e, f)
