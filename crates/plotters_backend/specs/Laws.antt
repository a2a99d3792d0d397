-- What every draw keeps on every surface.
use Rattle.std.specs.Prelude.{◌≡◌, ℕ, true, ◌⊎◌, List, [], ◌∷◌, ◌++◌, pos, Ok, Err, ◌≢◌}
use Rattle.std.specs.Float.Ieee as Ieee
use Rattle.plotters_backend.specs.Color.{one}
use Rattle.plotters_backend.specs.Surface.{Surface, within}
use Rattle.plotters_backend.specs.Run.{Pixel, Drawing, Outcome, all, run}
use Rattle.plotters_backend.specs.declared.style.BackendColor.{BackendColor}

-- what holds of each pixel of a list
abbrev pub Each : (Pixel → Type 0) → List Pixel → Type 0
Each R [] = Unit {0}
Each R (p ∷ ps) = R p × Each R ps

module _ {E : Type 0} (S : Surface E) where
  -- no draw changes the size
  abbrev pub SizesStay : Type 0
  SizesStay = (h : S.Held) (d : Drawing) → S.size (run S h d).1 ≡ S.size h

  -- what a draw comes to that goes on where another ended
  abbrev pub onward : Outcome S → Drawing → Outcome S
  onward (Ok u, h) d = run S h d
  onward (Err k, h) d = (Err k, h)

  -- pixels before a draw are drawn, and then, unless one was refused, the draw
  abbrev pub DrawsJoin : Type 0
  DrawsJoin = (h : S.Held) (ps : List Pixel) (d : Drawing) → run S h (record { pixels = ps ++ d.pixels; end = d.end }) ≡ onward (run S h (all ps)) d

  -- a cell at which the draw has no pixel stays as it was
  abbrev pub UntouchedCellsStay : Type 0
  UntouchedCellsStay = (h : S.Held) (d : Drawing) (x y : ℕ) → within (S.size h) (pos x, pos y) ≡ true → Each (λ p. p.0 ≢ (pos x, pos y)) d.pixels → S.cell (run S h d).1 x y ≡ S.cell h x y

  -- a pixel that lies elsewhere, or has the red, green and blue of c
  abbrev pub Spares : ℕ → ℕ → BackendColor → Pixel → Type 0
  Spares x y c p = (p.0 ≢ (pos x, pos y)) ⊎ (p.1.rgb ≡ c.rgb)

  -- In a draw that succeeds, a cell with an opaque pixel, and after it only pixels of the same red, green and blue, ends as that colour's own cell, which is what the colour gives over any cell.
  abbrev pub OpaquePixelsStand : Type 0
  OpaquePixelsStand = (h : S.Held) (ps qs : List Pixel) (x y : ℕ) (c : BackendColor) (a : S.Cell)
      → within (S.size h) (pos x, pos y) ≡ true → Ieee.eq c.alpha one ≡ true → Each (Spares x y c) qs
      → (run S h (all (ps ++ ((pos x, pos y), c) ∷ qs))).0 ≡ Ok tt
      → S.cell (run S h (all (ps ++ ((pos x, pos y), c) ∷ qs))).1 x y ≡ S.rule a c
