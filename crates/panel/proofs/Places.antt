-- Points of a panel.
use Rattle.std.proofs.Common.{◌≡◌, ℕ, ◌+◌, ◌≤◌, Bool, true, false, cond, length, ℤ, nat_abs, Some, None, sym, refl, subst, arith}
use Rattle.plotters_backend.specs.Surface.{within}
use Rattle.panel.specs.Picture.{Picture, sides, start, start_at}
use Rattle.panel.specs.PictureLaws.{at_point}

-- The bytes of the point p of a picture begin at k.
pub record At (g : Picture) (p : ℤ × ℤ) (k : ℕ) : Type 0 where
  pub inside : within (sides g) p ≡ true
  pub is : k ≡ start g (nat_abs p.0) (nat_abs p.1)
  pub there : k + 3 ≤ length g.bytes

at_by : (t : Bool) (g : Picture) (p : ℤ × ℤ) (k : ℕ) → within (sides g) p ≡ t → Some k ≡ cond t (Some (start g (nat_abs p.0) (nat_abs p.1))) None → At g p k
at_by true g p k w e =
    let i : k ≡ start g (nat_abs p.0) (nat_abs p.1) = cc in
    record { inside = w; is = i; there = subst (λ (j : ℕ). j + 3 ≤ length g.bytes) (sym i) (at_point g p w).there }
at_by false g p k w e = let z : ◌≡◌ {A = ℕ} 0 1 = cc in absurd (omega arith)

-- a point whose bytes are found lies in the picture
pub at_from : (g : Picture) (p : ℤ × ℤ) (k : ℕ) → Some k ≡ start_at g p → At g p k
at_from g p k e = at_by (within (sides g) p) g p k refl e
