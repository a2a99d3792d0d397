-- How a draw runs, pixel by pixel: what the loops of a draw use.
use Rattle.std.proofs.Common.{◌≡◌, ℕ, ◌⊎◌, List, [], ◌∷◌, ◌++◌, ℤ, Some, None, Ok, Err, Option, sym, refl, ap, ◌∙◌, inl, inr, ⊎_elim, arith}
use Rattle.plotters_backend.specs.Surface.{Surface, answer}
use Rattle.plotters_backend.specs.Run.{Pixel, Drawing, Answer, Outcome, all, lay, run}
use Rattle.plotters_backend.specs.Laws.{onward}
use Rattle.plotters_backend.specs.declared.style.BackendColor.{BackendColor}
use Rattle.plotters_backend.specs.declared.error.Refusal.{Refusal}
use Rattle.plotters_backend.specs.declared.error.DrawingErrorKind.{DrawingErrorKind}
use Rattle.plotters_backend.specs.declared.error.DrawingErrorKind.TheVariants.{DrawingError}

module _ {E : Type 0} (S : Surface E) (end : Option Refusal) where
  -- what follows a pixel, by the answer of the refusal question
  abbrev pub next : Option E → S.Held → List Pixel → Outcome S
  next None h ps = lay S end h ps
  next (Some e) h ps = (Err (DrawingError e), h)

  -- one pixel, and what follows it
  pub lay_cons : (h : S.Held) (p : ℤ × ℤ) (c : BackendColor) (ps : List Pixel) → lay S end h ((p, c) ∷ ps) ≡ next (S.refuses h p c) (S.laid h p c) ps
  lay_cons h p c ps = elim (S.refuses h p c) as (λ o. elim o [ None ↦ lay S end (S.laid h p c) ps | Some e ↦ (Err (DrawingError e), S.laid h p c) ] ≡ next o (S.laid h p c) ps) [ None ↦ refl | Some e ↦ refl ]

  next_ok : (o : Option E) (h : S.Held) (ps : List Pixel) → answer o ≡ Ok tt → next o h ps ≡ lay S end h ps
  next_ok None h ps e = refl
  next_ok (Some f) h ps e = let z : ◌≡◌ {A = ℕ} 0 1 = cc in absurd (omega arith)

  next_err : (o : Option E) (h : S.Held) (ps : List Pixel) (k : DrawingErrorKind E) → answer o ≡ Err k → next o h ps ≡ (Err k, h)
  next_err None h ps k e = let z : ◌≡◌ {A = ℕ} 0 1 = cc in absurd (omega arith)
  next_err (Some f) h ps k e = ap (λ (r : Answer E). (r, h)) e

module _ {E : Type 0} (S : Surface E) where
  -- an accepted pixel, as `draw_pixel` tells of it: the rest of the draw is run from there
  pub step_ok : (h h' : S.Held) (p : ℤ × ℤ) (c : BackendColor) (ps : List Pixel) (r : Answer E) → r ≡ answer (S.refuses h p c) → h' ≡ S.laid h p c → r ≡ Ok tt → run S h (all ((p, c) ∷ ps)) ≡ run S h' (all ps)
  step_ok h h' p c ps r a s e = lay_cons S None h p c ps ∙ next_ok S None (S.refuses h p c) (S.laid h p c) ps (sym a ∙ e) ∙ ap (λ (k : S.Held). run S k (all ps)) (sym s)

  -- a refused one: the draw ends there
  pub step_err : (h h' : S.Held) (p : ℤ × ℤ) (c : BackendColor) (ps : List Pixel) (r : Answer E) (k : DrawingErrorKind E) → r ≡ answer (S.refuses h p c) → h' ≡ S.laid h p c → r ≡ Err k → run S h (all ((p, c) ∷ ps)) ≡ (Err k, h')
  step_err h h' p c ps r k a s e = lay_cons S None h p c ps ∙ next_err S None (S.refuses h p c) (S.laid h p c) ps k (sym a ∙ e) ∙ ap (λ (i : S.Held). (Err k, i)) (sym s)

  -- a draw of one pixel is what the surface makes of that pixel
  pub one_pixel : (h h' : S.Held) (p : ℤ × ℤ) (c : BackendColor) (r : Answer E) → r ≡ answer (S.refuses h p c) → h' ≡ S.laid h p c → (r, h') ≡ run S h (all ((p, c) ∷ []))
  one_pixel h h' p c r a s =
      ap (λ (q : Answer E). (q, h')) a
      ∙ ap (λ (k : S.Held). (answer (S.refuses h p c), k)) s
      ∙ (elim (S.refuses h p c) as (λ o. (answer o, S.laid h p c) ≡ next S None o (S.laid h p c) []) [ None ↦ refl | Some e ↦ refl ])
      ∙ sym (lay_cons S None h p c [])

  next_join : (o : Option E) (h : S.Held) (ps : List Pixel) (d : Drawing) → ((k : S.Held) → lay S d.end k (ps ++ d.pixels) ≡ onward S (lay S None k ps) d) → next S d.end o h (ps ++ d.pixels) ≡ onward S (next S None o h ps) d
  next_join None h ps d ih = ih h
  next_join (Some e) h ps d ih = refl

  -- pixels before a draw are drawn, and then, unless one was refused, the draw
  pub run_join : (h : S.Held) (ps : List Pixel) (d : Drawing) → run S h (record { pixels = ps ++ d.pixels; end = d.end }) ≡ onward S (run S h (all ps)) d
  run_join h [] d = refl
  run_join h ((p, c) ∷ ps) d = lay_cons S d.end h p c (ps ++ d.pixels) ∙ next_join (S.refuses h p c) (S.laid h p c) ps d (λ k. run_join k ps d) ∙ sym (ap (λ (o : Outcome S). onward S o d) (lay_cons S None h p c ps))

  -- two lists of pixels, one after the other, the first of which was accepted
  pub join_ok : (h h' : S.Held) (ps qs : List Pixel) (r : Answer E) → (r, h') ≡ run S h (all ps) → r ≡ Ok tt → run S h (all (ps ++ qs)) ≡ run S h' (all qs)
  join_ok h h' ps qs r e a = run_join h ps (all qs) ∙ ap (λ (o : Outcome S). onward S o (all qs)) (sym e) ∙ ap (λ (q : Answer E). onward S (q, h') (all qs)) a

  -- or ended by a refusal
  pub join_err : (h h' : S.Held) (ps qs : List Pixel) (r : Answer E) (k : DrawingErrorKind E) → (r, h') ≡ run S h (all ps) → r ≡ Err k → run S h (all (ps ++ qs)) ≡ (Err k, h')
  join_err h h' ps qs r k e a = run_join h ps (all qs) ∙ ap (λ (o : Outcome S). onward S o (all qs)) (sym e) ∙ ap (λ (q : Answer E). onward S (q, h') (all qs)) a

  -- what the exit of a `?` answers is the fault that was met
  pub exits_with : (r : Answer E) (h : S.Held) (o : Outcome S) (j k : DrawingErrorKind E) → r ≡ Err j → j ≡ k → (Err k, h) ≡ o → (r, h) ≡ o
  exits_with r h o j k a b e = ap (λ (q : Answer E). (q, h)) (a ∙ ap Err b) ∙ e

  -- a draw that comes to no refusal of its own succeeds, or ends with a fault of the surface
  pub run_all_answers : (h : S.Held) (ps : List Pixel) → ((run S h (all ps)).0 ≡ Ok tt) ⊎ ((e : E) × ((run S h (all ps)).0 ≡ Err (DrawingError e)))
  run_all_answers h [] = inl refl
  run_all_answers h ((p, c) ∷ ps) =
      let step : (o : Option E) → S.refuses h p c ≡ o → ((run S h (all ((p, c) ∷ ps))).0 ≡ Ok tt) ⊎ ((e : E) × ((run S h (all ((p, c) ∷ ps))).0 ≡ Err (DrawingError e))) =
      λ o. elim o as (λ o. S.refuses h p c ≡ o → ((run S h (all ((p, c) ∷ ps))).0 ≡ Ok tt) ⊎ ((e : E) × ((run S h (all ((p, c) ∷ ps))).0 ≡ Err (DrawingError e)))) [
        | None ↦ λ e.
            let f : (run S h (all ((p, c) ∷ ps))).0 ≡ (run S (S.laid h p c) (all ps)).0 = ap (λ (z : Outcome S). z.0) (lay_cons S None h p c ps) ∙ ap (λ (z : Option E). (next S None z (S.laid h p c) ps).0) e in
            ⊎_elim (λ (a : (run S (S.laid h p c) (all ps)).0 ≡ Ok tt). inl (f ∙ a)) (λ (a : (e : E) × ((run S (S.laid h p c) (all ps)).0 ≡ Err (DrawingError e))). inr (a.0, f ∙ a.1)) (run_all_answers (S.laid h p c) ps)
        | Some x ↦ λ e. inr (x, ap (λ (z : Outcome S). z.0) (lay_cons S None h p c ps) ∙ ap (λ (z : Option E). (next S None z (S.laid h p c) ps).0) e)
      ] in
      step (S.refuses h p c) refl
