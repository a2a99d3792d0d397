-- What a draw makes of one cell, told by the members of its list of pixels.
use Rattle.std.proofs.Common.{◌≡◌, ℕ, Bool, true, false, List, [], ◌∷◌, ◌++◌, ℤ, pos, Ok, sym, refl, ap, ◌∙◌, subst, inr, true≢false}
use mathlib.Core.List.Memᴰ
use mathlib.Core.List.{Memᴰ}
use lib.Ieee as Ieee
use Rattle.plotters_backend.specs.Color.{one}
use Rattle.plotters_backend.specs.Surface.{Surface, Lawful, within}
use Rattle.plotters_backend.specs.Run.{Pixel, all, run}
use Rattle.plotters_backend.specs.Laws.{Each, Spares}
use Rattle.plotters_backend.specs.declared.style.BackendColor.{BackendColor}
use Rattle.plotters_backend.proofs.Lays.{untouched, opaque_pixels_stand}

-- what holds of every member holds of each
each_in : (R : Pixel → Type 0) (ps : List Pixel) → ((q : Pixel) → Memᴰ q ps → R q) → Each R ps
each_in R [] f = tt
each_in R (p ∷ ps) f = (f p (Memᴰ.head refl), each_in R ps (λ q m. f q (Memᴰ.tail m)))

-- a list around one of its members
around : {X : Type 0} {x : X} {xs : List X} → Memᴰ x xs → (s : List X) × (t : List X) × (xs ≡ s ++ (x ∷ t))
around (Memᴰ.head {xs = xs} e) = ([], xs, λ i. sym e i ∷ xs)
around {X} (Memᴰ.tail {x = y} m) = let r = around m in (y ∷ r.0, r.1, ap {B = List X} (λ (u : List X). y ∷ u) r.2)

module _ {E : Type 0} (S : Surface E) (L : Lawful S) (x y : ℕ) where
  -- a cell stays if it fails a test that the places of all pixels pass
  pub unchanged : (P : ℤ × ℤ → Bool) (h : S.Held) (ps : List Pixel) → ((q : Pixel) → Memᴰ q ps → P q.0 ≡ true) → P (pos x, pos y) ≡ false → within (S.size h) (pos x, pos y) ≡ true → S.cell (run S h (all ps)).1 x y ≡ S.cell h x y
  unchanged P h ps f none w = untouched S L x y h (all ps) w (each_in (λ p. p.0 ≡ (pos x, pos y) → ⊥) ps (λ q m e. true≢false (sym (f q m) ∙ ap P e ∙ none)))

  -- a cell with an opaque pixel, in a draw all of that pixel's red, green and blue, ends as the colour's own cell
  pub ends_own : (c : BackendColor) → Ieee.eq c.alpha one ≡ true → (h : S.Held) (ps : List Pixel) → within (S.size h) (pos x, pos y) ≡ true → ((q : Pixel) → Memᴰ q ps → q.1.rgb ≡ c.rgb) → Memᴰ {A = Pixel} ((pos x, pos y), c) ps → (run S h (all ps)).0 ≡ Ok tt → (a : S.Cell) → S.cell (run S h (all ps)).1 x y ≡ S.rule a c
  ends_own c e h ps w f m ok a =
      let r = around m in
      subst
      (λ (k : List Pixel). ((q : Pixel) → Memᴰ q k → q.1.rgb ≡ c.rgb) → (run S h (all k)).0 ≡ Ok tt → S.cell (run S h (all k)).1 x y ≡ S.rule a c)
      (sym r.2)
      (λ g k. opaque_pixels_stand S L h r.0 r.1 x y c a w e (each_in (Spares S x y c) r.1 (λ q n. inr (g q (Memᴰ.append_right r.0 (Memᴰ.tail n))))) k)
      f ok
