-- What a draw leaves of the size and of each cell.
use Rattle.std.proofs.Common.{◌≡◌, ℕ, true, ◌⊎◌, List, [], ◌∷◌, ℤ, pos, negsuc, Some, None, Ok, Err, Option, sym, refl, ap, ◌∙◌, subst, inl, inr, ⊎_elim, arith}
use lib.Ieee as Ieee
use Rattle.std.proofs.lemmas.Bool.{cases_eq}
use Rattle.plotters_backend.specs.Color.{one, solid}
use Rattle.plotters_backend.specs.Surface.{Surface, Lawful, within}
use Rattle.plotters_backend.specs.Run.{Pixel, Drawing, Outcome, all, ended, lay, run}
use Rattle.plotters_backend.specs.Laws.{Each, Spares, SizesStay, OpaquePixelsStand, onward}
use Rattle.plotters_backend.proofs.Runs.{next, lay_cons, run_join}
use Rattle.plotters_backend.specs.declared.style.BackendColor.{BackendColor}
use Rattle.plotters_backend.specs.declared.error.Refusal.{Refusal}

module _ {E : Type 0} (S : Surface E) (Q : S.Held → Type 0) (R : Pixel → Type 0) where
  ended_holds : (end : Option Refusal) (h : S.Held) → Q h → Q (ended S end h).1
  ended_holds None h q = q
  ended_holds (Some k) h q = q

  next_holds : (end : Option Refusal) (o : Option E) (h : S.Held) (ps : List Pixel) → Q h → (Q h → Q (lay S end h ps).1) → Q (next S end o h ps).1
  next_holds end None h ps q f = f q
  next_holds end (Some e) h ps q f = q

  -- what each pixel of a draw keeps is kept by the draw
  pub lay_holds : ((h : S.Held) (p : ℤ × ℤ) (c : BackendColor) → R (p, c) → Q h → Q (S.laid h p c)) → (end : Option Refusal) (h : S.Held) (ps : List Pixel) → Each R ps → Q h → Q (lay S end h ps).1
  lay_holds f end h [] r q = ended_holds end h q
  lay_holds f end h ((p, c) ∷ ps) r q = subst (λ (o : Outcome S). Q o.1) (sym (lay_cons S end h p c ps)) (next_holds end (S.refuses h p c) (S.laid h p c) ps (f h p c r.0 q) (λ k. lay_holds f end (S.laid h p c) ps r.1 k))

-- what holds of every pixel holds of each
pub each_any : (R : Pixel → Type 0) → ((p : Pixel) → R p) → (ps : List Pixel) → Each R ps
each_any R f [] = tt
each_any R f (p ∷ ps) = (f p, each_any R f ps)

module _ {E : Type 0} (S : Surface E) (L : Lawful S) where
  pub sizes_stay : SizesStay S
  sizes_stay h d = lay_holds S (λ k. S.size k ≡ S.size h) (λ _. Unit {0}) (λ k p c _ q. L.keeps k p c ∙ q) d.end h d.pixels (each_any (λ _. Unit {0}) (λ _. tt) d.pixels) refl

first_is : (p : ℤ × ℤ) (x y : ℕ) → p ≡ (pos x, pos y) → p.0 ≡ pos x
first_is p x y e = ap (λ (q : ℤ × ℤ). q.0) e

second_is : (p : ℤ × ℤ) (x y : ℕ) → p ≡ (pos x, pos y) → p.1 ≡ pos y
second_is p x y e = ap (λ (q : ℤ × ℤ). q.1) e

-- a point is a place or it is not
same_place : (p : ℤ × ℤ) (x y : ℕ) → (p ≡ (pos x, pos y)) ⊎ (p ≡ (pos x, pos y) → ⊥)
same_place (pos a, pos b) x y =
    ⊎_elim
    (λ (e : a ≡ x).
    ⊎_elim
    (λ (f : b ≡ y). inl (ap (λ (z : ℕ). (pos z, pos b)) e ∙ ap (λ (z : ℕ). (pos x, pos z)) f))
    (λ (f : b ≡ y → ⊥). inr (λ g. f (let h = second_is (pos a, pos b) x y g in cc)))
    (cases_eq b y))
    (λ (e : a ≡ x → ⊥). inr (λ g. e (let h = first_is (pos a, pos b) x y g in cc)))
    (cases_eq a x)
same_place (pos a, negsuc b) x y = inr (λ g. let h = second_is (pos a, negsuc b) x y g in let z : ◌≡◌ {A = ℕ} 0 1 = cc in omega arith)
same_place (negsuc a, b) x y = inr (λ g. let h = first_is (negsuc a, b) x y g in let z : ◌≡◌ {A = ℕ} 0 1 = cc in omega arith)

-- an accepted pixel's answer
accepted : {E : Type 0} (o : Option E) (S : Surface E) (h : S.Held) (ps : List Pixel) → (next S None o h ps).0 ≡ Ok tt → o ≡ None
accepted None S h ps e = refl
accepted (Some f) S h ps e = let z : ◌≡◌ {A = ℕ} 0 1 = cc in absurd (omega arith)

module _ {E : Type 0} (S : Surface E) (L : Lawful S) (x y : ℕ) where
  abbrev place : ℤ × ℤ
  place = (pos x, pos y)

  -- a size, and a cell at the place
  abbrev Shows : ℕ × ℕ → S.Cell → S.Held → Type 0
  Shows s v h = (S.size h ≡ s) × (S.cell h x y ≡ v)

  pub untouched : (h : S.Held) (d : Drawing) → within (S.size h) place ≡ true → Each (λ p. p.0 ≡ place → ⊥) d.pixels → S.cell (run S h d).1 x y ≡ S.cell h x y
  untouched h d i r =
      (lay_holds S (Shows (S.size h) (S.cell h x y)) (λ p. p.0 ≡ place → ⊥)
      (λ k p c n q. (L.keeps k p c ∙ q.0, L.others k p c x y (ap (λ (s : ℕ × ℕ). within s place) q.0 ∙ i) n ∙ q.1))
      d.end h d.pixels r (refl, refl)).1

  -- a pixel in the colour's red, green and blue leaves the colour's own cell, wherever it lies
  spared : (d : BackendColor) (a : S.Cell) (k : S.Held) (p : ℤ × ℤ) (c : BackendColor) (o : Option E) → S.refuses k p c ≡ o → within (S.size k) place ≡ true → (p ≡ place) ⊎ (p ≡ place → ⊥) → Spares S x y d (p, c) → S.cell k x y ≡ S.rule a (solid d) → S.cell (S.laid k p c) x y ≡ S.rule a (solid d)
  spared d a k p c o e i (inr n) s q = L.others k p c x y i n ∙ q
  spared d a k p c o e i (inl t) (inl n) q = absurd (n t)
  spared d a k p c (Some f) e i (inl t) (inr s) q = L.refused k p c f e x y i ∙ q
  spared d a k p c None e i (inl t) (inr s) q =
      let same : solid c ≡ solid d = ap (λ (z : ℕ × ℕ × ℕ). record { alpha = one; rgb = z }) s in
      ap (λ (z : ℤ × ℤ). S.cell (S.laid k z c) x y) t
      ∙ L.here k x y c i (subst (λ (z : ℤ × ℤ). S.refuses k z c ≡ None) t e)
      ∙ ap (λ (v : S.Cell). S.rule v c) (q ∙ ap (S.rule a) (sym same))
      ∙ L.own c a
      ∙ ap (S.rule a) same

  -- a colour's own cell stays, whatever is laid on it in that colour at any alpha
  pub own_stays : (c : BackendColor) (a : S.Cell) (h : S.Held) (ps : List Pixel) → within (S.size h) place ≡ true → Each (Spares S x y c) ps → S.cell h x y ≡ S.rule a (solid c) → S.cell (run S h (all ps)).1 x y ≡ S.rule a (solid c)
  own_stays c a h ps i r q =
      (lay_holds S (Shows (S.size h) (S.rule a (solid c))) (Spares S x y c)
      (λ k p d t w. (L.keeps k p d ∙ w.0, spared c a k p d (S.refuses k p d) refl (ap (λ (s : ℕ × ℕ). within s place) w.0 ∙ i) (same_place p x y) t w.1))
      None h ps r (refl, q)).1

  -- an opaque colour over any cell is the own cell of its opaque self
  opaque_own : (c : BackendColor) (a b : S.Cell) → Ieee.eq c.alpha one ≡ true → S.rule a c ≡ S.rule b (solid c)
  opaque_own c a b e = L.opaque c e a (S.rule b (solid c)) ∙ L.own c b

  -- an opaque pixel that begins a draw which succeeds
  opaque_first : (h : S.Held) (qs : List Pixel) (c : BackendColor) (a : S.Cell) → within (S.size h) place ≡ true → Ieee.eq c.alpha one ≡ true → Each (Spares S x y c) qs → (run S h (all ((place, c) ∷ qs))).0 ≡ Ok tt → S.cell (run S h (all ((place, c) ∷ qs))).1 x y ≡ S.rule a c
  opaque_first h qs c a i e r ok =
      let k : S.Held = S.laid h place c in
      let cons = lay_cons S None h place c qs in
      let none = accepted (S.refuses h place c) S k qs (sym (ap (λ (o : Outcome S). o.0) cons) ∙ ok) in
      let after : run S h (all ((place, c) ∷ qs)) ≡ run S k (all qs) = cons ∙ ap (λ (o : Option E). next S None o k qs) none in
      let in-k : within (S.size k) place ≡ true = ap (λ (s : ℕ × ℕ). within s place) (L.keeps h place c) ∙ i in
      let own : S.cell k x y ≡ S.rule a (solid c) = L.here h x y c i none ∙ opaque_own c (S.cell h x y) a e in
      ap (λ (o : Outcome S). S.cell o.1 x y) after ∙ own_stays c a k qs in-k r own ∙ sym (opaque_own c a a e)

module _ {E : Type 0} (S : Surface E) (L : Lawful S) where
  -- the same after a draw's earlier pixels
  opaque_later : (o : Outcome S) (s : ℕ × ℕ) (qs : List Pixel) (x y : ℕ) (c : BackendColor) (a : S.Cell) → S.size o.1 ≡ s → within s (pos x, pos y) ≡ true → Ieee.eq c.alpha one ≡ true → Each (Spares S x y c) qs → (onward S o (all (((pos x, pos y), c) ∷ qs))).0 ≡ Ok tt → S.cell (onward S o (all (((pos x, pos y), c) ∷ qs))).1 x y ≡ S.rule a c
  opaque_later (Ok u, h) s qs x y c a z i e r ok = opaque_first S L x y h qs c a (ap (λ (t : ℕ × ℕ). within t (pos x, pos y)) z ∙ i) e r ok
  opaque_later (Err k, h) s qs x y c a z i e r ok = let n : ◌≡◌ {A = ℕ} 0 1 = cc in absurd (omega arith)

  pub opaque_pixels_stand : OpaquePixelsStand S
  opaque_pixels_stand h ps qs x y c a i e r ok =
      let j = run_join S h ps (all (((pos x, pos y), c) ∷ qs)) in
      ap (λ (o : Outcome S). S.cell o.1 x y) j
      ∙ opaque_later (run S h (all ps)) (S.size h) qs x y c a (sizes_stay S L h (all ps)) i e r (sym (ap (λ (o : Outcome S). o.0) j) ∙ ok)
