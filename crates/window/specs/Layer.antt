-- A layer on a surface: each of its places lies at one place below.
use Rattle.std.specs.Prelude.{◌≡◌, ℕ, ◌≤◌, Bool, true, false, ℤ, pos, negsuc, Some, None, Option}
use Rattle.plotters_backend.specs.Surface.{Surface, within}
use Rattle.plotters_backend.specs.declared.style.BackendColor.{BackendColor}

-- A layer by two maps: the size that it shows of a surface of some size, and where a place of it lies below, if it does.
pub record Layer : Type 0 where
  pub size : ℕ × ℕ → ℕ × ℕ
  pub place : ℕ × ℕ → ℤ × ℤ → Option (ℤ × ℤ)

-- whether there is a place, and it lies in a size
abbrev pub lies : ℕ × ℕ → Option (ℤ × ℤ) → Bool
lies s None = false
lies s (Some q) = within s q

-- what makes a layer one
pub record Sound (L : Layer) : Type 0 where
  -- where no side is above 16,384, it shows none above that
  pub small : (s : ℕ × ℕ) → (s.0 ≤ 16384) × (s.1 ≤ 16384) → ((L.size s).0 ≤ 16384) × ((L.size s).1 ≤ 16384)
  -- a place outside its size lies nowhere below
  pub outside : (s : ℕ × ℕ) (p : ℤ × ℤ) → within (L.size s) p ≡ false → L.place s p ≡ None
  -- a place inside its size lies inside the size below
  pub inside : (s : ℕ × ℕ) (p : ℤ × ℤ) → within (L.size s) p ≡ true → lies s (L.place s p) ≡ true
  -- no two of its places lie on one
  pub apart : (s : ℕ × ℕ) (p p' q : ℤ × ℤ) → L.place s p ≡ Some q → L.place s p' ≡ Some q → p ≡ p'

module _ {E : Type 0} (S : Surface E) where
  -- the cell below at the place of (x, y), and where there is none, the cell at the same numbers
  abbrev pub shows : S.Held → ℕ → ℕ → Option (ℤ × ℤ) → S.Cell
  shows h x y None = S.cell h x y
  shows h x y (Some (pos u, pos v)) = S.cell h u v
  shows h x y (Some (pos u, negsuc v)) = S.cell h x y
  shows h x y (Some (negsuc u, pos v)) = S.cell h x y
  shows h x y (Some (negsuc u, negsuc v)) = S.cell h x y

  -- the refusal of a pixel that lies there below: that of the surface, and none where it lies nowhere
  abbrev pub asked : S.Held → BackendColor → Option (ℤ × ℤ) → Option E
  asked h c None = None
  asked h c (Some q) = S.refuses h q c

  -- what is held below after a pixel that lies there
  abbrev pub handed : S.Held → BackendColor → Option (ℤ × ℤ) → S.Held
  handed h c None = h
  handed h c (Some q) = S.laid h q c

-- The surface that layers of a family make of a surface: it holds what the surface below holds, and which layer it is; its cells are the cells below at the mapped places.
abbrev pub layered : {E P : Type 0} → (P → Layer) → Surface E → Surface E
layered {E} {P} L S = record {
  Held = S.Held × P;
  Cell = S.Cell;
  size = λ h. (L h.1).size (S.size h.0);
  cell = λ h x y. shows S h.0 x y ((L h.1).place (S.size h.0) (pos x, pos y));
  rule = S.rule;
  refuses = λ h p c. asked S h.0 c ((L h.1).place (S.size h.0) p);
  laid = λ h p c. (handed S h.0 c ((L h.1).place (S.size h.0) p), h.1);
}
