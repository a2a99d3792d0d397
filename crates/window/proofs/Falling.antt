-- A draw on a layer is a draw on the surface below.
use Rattle.std.proofs.Common.{◌≡◌, ℕ, List, [], ◌∷◌, ℤ, Some, None, Option, sym, refl, ap, ◌∙◌}
use Rattle.plotters_backend.specs.Surface.{Surface, Lawful}
use Rattle.plotters_backend.specs.Run.{Drawing, Outcome, Pixel, ended, lay, run}
use Rattle.plotters_backend.specs.declared.style.BackendColor.{BackendColor}
use Rattle.plotters_backend.specs.declared.error.Refusal.{Refusal}
use Rattle.plotters_backend.proofs.Runs.{lay_cons, next}
use Rattle.window.specs.Layer.{Layer, asked, handed, layered}
use Rattle.window.specs.Falling.{moved, through}

module _ {E P : Type 0} (L : P → Layer) (S : Surface E) (W : Lawful S) (p : P) (end : Option Refusal) where
  -- what the layer makes of what comes of a draw below
  abbrev above : Outcome S → Outcome (layered L S)
  above o = (o.0, (o.1, p))

  -- a draw that has come to its end
  ended_above : (e : Option Refusal) (h : S.Held) → ended (layered L S) e (h, p) ≡ above (ended S e h)
  ended_above None h = refl
  ended_above (Some k) h = refl

  -- what follows a pixel
  next_above : (o : Option E) (h : S.Held) (ps qs : List Pixel) → lay (layered L S) end (h, p) ps ≡ above (lay S end h qs) → next (layered L S) end o (h, p) ps ≡ above (next S end o h qs)
  next_above None h ps qs ih = ih
  next_above (Some e) h ps qs ih = refl

  -- one pixel of the layer, by where it lies below, and what follows it
  first_above : (f : ℤ × ℤ → Option (ℤ × ℤ)) (o : Option (ℤ × ℤ)) (h : S.Held) (c : BackendColor) (ps : List Pixel) → ((k : S.Held) → S.size k ≡ S.size h → lay (layered L S) end (k, p) ps ≡ above (lay S end k (moved f ps))) → next (layered L S) end (asked S h c o) (handed S h c o, p) ps ≡ above (lay S end h (elim o [ None ↦ moved f ps | Some q ↦ (q, c) ∷ moved f ps ]))
  first_above f None h c ps ih = ih h refl
  first_above f (Some q) h c ps ih = next_above (S.refuses h q c) (S.laid h q c) ps (moved f ps) (ih (S.laid h q c) (W.keeps h q c)) ∙ ap above (sym (lay_cons S end h q c (moved f ps)))

  -- the pixels of a draw, where the size below is s
  lay_above : (h : S.Held) (ps : List Pixel) (s : ℕ × ℕ) → S.size h ≡ s → lay (layered L S) end (h, p) ps ≡ above (lay S end h (moved ((L p).place s) ps))
  lay_above h [] s z = ended_above end h
  lay_above h ((q, c) ∷ ps) s z =
      lay_cons (layered L S) end (h, p) q c ps
      ∙ first_above ((L p).place (S.size h)) ((L p).place (S.size h) q) h c ps (λ k e. lay_above k ps (S.size h) e)
      ∙ ap (λ (t : ℕ × ℕ). above (lay S end h (moved ((L p).place t) ((q, c) ∷ ps)))) z

-- a draw on a layer comes to what the draw that it lets through comes to below, and stays that layer
pub run_layered : {E P : Type 0} (L : P → Layer) (S : Surface E) → Lawful S → (h : S.Held) (p : P) (d : Drawing) → run (layered L S) (h, p) d ≡ ((run S h (through (L p) (S.size h) d)).0, ((run S h (through (L p) (S.size h) d)).1, p))
run_layered L S W h p d = lay_above L S W p d.end h d.pixels (S.size h) refl
