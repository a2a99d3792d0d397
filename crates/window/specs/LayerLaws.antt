-- A sound layer on a lawful surface is a lawful surface.
use Rattle.std.specs.Prelude.{◌≡◌, ℕ, true, ℤ, pos, negsuc, Some, None, Option, ◌≢◌, refl}
use Rattle.std.proofs.Common.{sym, ap, ◌∙◌, arith}
use Rattle.plotters_backend.specs.Surface.{Surface, Lawful, within}
use Rattle.plotters_backend.specs.declared.style.BackendColor.{BackendColor}
use Rattle.window.specs.Layer.{Layer, Sound, lies, layered, shows, asked, handed}

-- a place of a size, as two natural numbers, that an option holds
pub record At (s : ℕ × ℕ) (o : Option (ℤ × ℤ)) : Type 0 where
  pub x : ℕ
  pub y : ℕ
  pub is : o ≡ Some (pos x, pos y)
  pub in_size : within s (pos x, pos y) ≡ true

-- what lies in a size is such a place
lies_at : (s : ℕ × ℕ) (o : Option (ℤ × ℤ)) → lies s o ≡ true → At s o
lies_at (w, h) None e = let z : ◌≡◌ {A = ℕ} 0 1 = cc in absurd (omega arith)
lies_at (w, h) (Some (pos u, pos v)) e = record { x = u; y = v; is = refl; in_size = e }
lies_at (w, h) (Some (pos u, negsuc v)) e = let z : ◌≡◌ {A = ℕ} 0 1 = cc in absurd (omega arith)
lies_at (w, h) (Some (negsuc u, pos v)) e = let z : ◌≡◌ {A = ℕ} 0 1 = cc in absurd (omega arith)
lies_at (w, h) (Some (negsuc u, negsuc v)) e = let z : ◌≡◌ {A = ℕ} 0 1 = cc in absurd (omega arith)

-- where a place inside a sound layer lies below
pub place_at : (L : Layer) → Sound L → (s : ℕ × ℕ) (x y : ℕ) → within (L.size s) (pos x, pos y) ≡ true → At s (L.place s (pos x, pos y))
place_at L K s x y i = lies_at s (L.place s (pos x, pos y)) (K.inside s (pos x, pos y) i)

module _ {E P : Type 0} (L : P → Layer) (S : Surface E) (K : Lawful S) where
  -- no pixel that is handed on changes the size below
  handed_size : (h : S.Held) (c : BackendColor) (o : Option (ℤ × ℤ)) → S.size (handed S h c o) ≡ S.size h
  handed_size h c None = refl
  handed_size h c (Some q) = K.keeps h q c

  -- a cell of a layer is the cell below at its place
  pub cell_below : (h : S.Held) (p : P) (s : ℕ × ℕ) (x y u v : ℕ) → S.size h ≡ s → (L p).place s (pos x, pos y) ≡ Some (pos u, pos v) → (layered L S).cell (h, p) x y ≡ S.cell h u v
  cell_below h p s x y u v e a = ap (λ (t : ℕ × ℕ). shows S h x y ((L p).place t (pos x, pos y))) e ∙ ap (shows S h x y) a

  -- a cell below at which a pixel changes nothing is unchanged in the layer
  same_above : (h : S.Held) (p : P) (c : BackendColor) (o : Option (ℤ × ℤ)) (x y : ℕ) (a : At (S.size h) ((L p).place (S.size h) (pos x, pos y))) → S.cell (handed S h c o) a.x a.y ≡ S.cell h a.x a.y → (layered L S).cell (handed S h c o, p) x y ≡ (layered L S).cell (h, p) x y
  same_above h p c o x y a e = cell_below (handed S h c o) p (S.size h) x y a.x a.y (handed_size h c o) a.is ∙ e ∙ sym (cell_below h p (S.size h) x y a.x a.y refl a.is)

  -- a pixel that lies elsewhere below leaves the cell there
  others_below : (h : S.Held) (c : BackendColor) (o : Option (ℤ × ℤ)) (x y : ℕ) → within (S.size h) (pos x, pos y) ≡ true → (o ≢ Some (pos x, pos y)) → S.cell (handed S h c o) x y ≡ S.cell h x y
  others_below h c None x y i n = refl
  others_below h c (Some q) x y i n = K.others h q c x y i (λ e. n (ap (λ (r : ℤ × ℤ). Some r) e))

  -- a pixel that is refused below leaves the cell there
  refused_below : (h : S.Held) (c : BackendColor) (o : Option (ℤ × ℤ)) (e : E) → asked S h c o ≡ Some e → (x y : ℕ) → within (S.size h) (pos x, pos y) ≡ true → S.cell (handed S h c o) x y ≡ S.cell h x y
  refused_below h c None e r x y i = refl
  refused_below h c (Some q) e r x y i = K.refused h q c e r x y i

  -- a pixel that is accepted makes of its cell what the rule gives
  here_above : (h : S.Held) (p : P) (c : BackendColor) (x y : ℕ) (a : At (S.size h) ((L p).place (S.size h) (pos x, pos y))) → asked S h c ((L p).place (S.size h) (pos x, pos y)) ≡ None → (layered L S).cell ((layered L S).laid (h, p) (pos x, pos y) c) x y ≡ S.rule ((layered L S).cell (h, p) x y) c
  here_above h p c x y a r =
      let o = (L p).place (S.size h) (pos x, pos y) in
      let f : S.refuses h (pos a.x, pos a.y) c ≡ None = sym (ap (asked S h c) a.is) ∙ r in
      cell_below (handed S h c o) p (S.size h) x y a.x a.y (handed_size h c o) a.is
      ∙ ap (λ (t : Option (ℤ × ℤ)). S.cell (handed S h c t) a.x a.y) a.is
      ∙ K.here h a.x a.y c a.in_size f
      ∙ ap (λ (k : S.Cell). S.rule k c) (sym (cell_below h p (S.size h) x y a.x a.y refl a.is))

-- sound layers of a family make a lawful surface of a lawful one
pub layered_lawful : {E P : Type 0} (L : P → Layer) → ((p : P) → Sound (L p)) → (S : Surface E) → Lawful S → Lawful (layered L S)
layered_lawful L Z S K =
    let at = λ (h : (layered L S).Held) (x y : ℕ) (i : within ((layered L S).size h) (pos x, pos y) ≡ true). place_at (L h.1) (Z h.1) (S.size h.0) x y i in
    record {
      small = λ h. (Z h.1).small (S.size h.0) (K.small h.0);
      keeps = λ h p c. ap (L h.1).size (handed_size L S K h.0 c ((L h.1).place (S.size h.0) p));
      outside = λ h p c e. let o = (Z h.1).outside (S.size h.0) p e in (ap (asked S h.0 c) o, ap (λ (t : Option (ℤ × ℤ)). (handed S h.0 c t, h.1)) o);
      here = λ h x y c i r. here_above L S K h.0 h.1 c x y (at h x y i) r;
      others = λ h p c x y i n.
          let a = at h x y i in
          let o = (L h.1).place (S.size h.0) p in
          same_above L S K h.0 h.1 c o x y a (others_below L S K h.0 c o a.x a.y a.in_size (λ e. n ((Z h.1).apart (S.size h.0) p (pos x, pos y) (pos a.x, pos a.y) e a.is)));
      refused = λ h p c e r x y i.
          let a = at h x y i in
          let o = (L h.1).place (S.size h.0) p in
          same_above L S K h.0 h.1 c o x y a (refused_below L S K h.0 c o e r a.x a.y a.in_size);
      opaque = K.opaque;
      own = K.own;
      clear = K.clear;
    }
