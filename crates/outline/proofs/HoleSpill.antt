-- No hole and no spill.
use Rattle.std.proofs.Common.{◌≡◌, Bool, true, false, cond, not, ◌&&◌, ◌||◌, ◌⊎◌, ℤ, pos, count_by, sym, refl, ap, ◌∙◌, subst, inl, inr, true≢false}
use mathlib.Core.List.Memᴰ
use mathlib.Core.List.{Memᴰ}
use Rattle.std.proofs.lemmas.Bool.{cases_Bool, or_left, or_right, or_cases, and_from, not_from_false}
use Rattle.plotters_backend.specs.Surface.{Surface, Lawful}
use Rattle.plotters_backend.specs.Run.{Pixel, Outcome, all, run}
use Rattle.outline.specs.Lists.{odd, any}
use Rattle.outline.specs.Outline.{Point, Outline, joined, on, on_side, flat}
use Rattle.plotters_backend.specs.declared.axis.Axis.{Axis}
use Rattle.plotters_backend.specs.declared.axis.Axis.TheVariants.{Columns, Rows}
use Rattle.outline.specs.Sweep.{axis, side, sides, live, place_below, place_at, place_near, passed, inside, near_side}
use Rattle.plotters_backend.specs.Axis.{turned}
use Rattle.outline.specs.Filling.{Mixes, covered, swept, NoHole, NoSpill, FillsHaveNoHole, FillsHaveNoSpill, FlatHasNoInside, LiveSidesAreEven}
use Rattle.plotters_backend.specs.declared.style.BackendColor.{BackendColor}
use Rattle.outline.proofs.Alphas.{opaque_shows}
use Rattle.outline.proofs.Draws.{unchanged, ends_own}
use Rattle.outline.proofs.Counting.{odd_kept, any_some, some_any, kept_in}
use Rattle.outline.proofs.Parity.{even_live}
use Rattle.outline.proofs.Lying.{place_on}
use Rattle.outline.proofs.Boxes.{inside_odd, flat_empty}
use Rattle.outline.proofs.Pixels.{Laid, whole, part, lives, swept_laid, laid_ink, odd_laid}

-- turned twice is not turned
turned_back : (a : Axis) (p : Point) → turned a (turned a p) ≡ p
turned_back Columns p = refl
turned_back Rows p = refl

-- a live side's place on a cell: the cell lies on a side
at_on : (a : Axis) (o : Outline) (m s : ℤ) → any (place_at m s) (lives a o m) ≡ true → on_side o (turned a (m, s)) ≡ true
at_on a o m s h =
    let r = any_some (place_at m s) (lives a o m) h in
    let k = kept_in (live m) r.0 (sides a o) r.1 in
    let j = Memᴰ.of_map (λ (i : Point × Point). side (turned a i.0, turned a i.1)) (joined o) k.0 in
    some_any (on (turned a (m, s))) j.0 (joined o) j.1 (place_on a m s j.0 (ap (live m) j.2 ∙ k.1) (ap (place_at m s) j.2 ∙ r.2))

-- a covered cell is strictly inside or on a side
covered_kind : (o : Outline) (m s : ℤ) → covered (lives (axis o) o m) m s ≡ true → (inside o (turned (axis o) (m, s)) || on_side o (turned (axis o) (m, s))) ≡ true
covered_kind o m s h = go (cases_Bool (on_side o p)) (or_cases (odd (count_by (place_below m s) (lives a o m))) (any (place_at m s) (lives a o m)) h)
  where
    a : Axis
    a = axis o

    p : Point
    p = turned a (m, s)

    go : (on_side o p ≡ true) ⊎ (on_side o p ≡ false) → (odd (count_by (place_below m s) (lives a o m)) ≡ true) ⊎ (any (place_at m s) (lives a o m) ≡ true) → (inside o p || on_side o p) ≡ true
    go (inl e) k = or_right (inside o p) (on_side o p) e
    go (inr e) (inr k) = absurd (true≢false (sym (at_on a o m s k) ∙ e))
    go (inr e) (inl k) =
        or_left (inside o p) (on_side o p)
        (and_from (not (on_side o p)) (odd (passed (sides a o) (turned a p).0 (turned a p).1)) (not_from_false (on_side o p) e)
        (ap (λ (q : Point). odd (passed (sides a o) q.0 q.1)) (turned_back a (m, s)) ∙ sym (odd_kept (live m) (place_below m s) (sides a o)) ∙ k))

-- strictly inside, on a side, or near a live side
kind : Outline → Point → Bool
kind o p = inside o p || on_side o p || near_side o p

-- every pixel of a fill lies so
laid_kind : (mix : Mixes) (c : BackendColor) (o : Outline) (q : Pixel) → Laid mix (axis o) c o q → kind o q.0 ≡ true
unfolding kind
laid_kind mix c o q (whole m s e h f) = ap (kind o) e ∙ or_left (inside o p || on_side o p) (near_side o p) (covered_kind o m s h)
  where
    p : Point
    p = turned (axis o) (m, s)
laid_kind mix c o q (part m s e h n i) = ap (kind o) e ∙ or_right (inside o p || on_side o p) (near_side o p) (ap (λ (r : Point). any (λ f. live r.0 f && place_near r.0 r.1 f) (sides (axis o) o)) (turned_back (axis o) (m, s)) ∙ n)
  where
    p : Point
    p = turned (axis o) (m, s)

-- no cell elsewhere changes
swept_no_spill : {E : Type 0} (S : Surface E) → Lawful S → (mix : Mixes) (c : BackendColor) (o : Outline) (h : S.Held) → NoSpill S o h (run S h (all (swept mix c o)))
unfolding kind
swept_no_spill S L mix c o h x y w differs = go (cases_Bool (kind o (pos x, pos y)))
  where
    go : (kind o (pos x, pos y) ≡ true) ⊎ (kind o (pos x, pos y) ≡ false) → kind o (pos x, pos y) ≡ true
    go (inl e) = e
    go (inr e) = absurd (differs (unchanged S L x y (kind o) h (swept mix c o) (λ q m. laid_kind mix c o q (swept_laid mix (axis o) c o q m)) e w))

-- a cell strictly inside is covered, so its pixel is in the colour itself
swept_no_hole : {E : Type 0} (S : Surface E) → Lawful S → (mix : Mixes) (c : BackendColor) (o : Outline) (h : S.Held) → NoHole S o c h (run S h (all (swept mix c o)))
swept_no_hole S L mix c o h opaque accepted x y w within' =
    ends_own S L x y c opaque h (swept mix c o) w
    (λ q m. laid_ink mix (axis o) c o q (swept_laid mix (axis o) c o q m))
    (subst (λ (p : Point). Memᴰ {A = Pixel} (p, c) (swept mix c o)) (turned_back (axis o) (pos x, pos y)) (odd_laid mix (axis o) c o (turned (axis o) (pos x, pos y)).0 (turned (axis o) (pos x, pos y)).1 (opaque_shows c.alpha opaque) odd'))
    accepted
  where
    odd' : odd (passed (sides (axis o) o) (turned (axis o) (pos x, pos y)).0 (turned (axis o) (pos x, pos y)).1) ≡ true
    odd' = (inside_odd o (pos x, pos y) within').1

-- nothing lies strictly inside a flat outline
pub flat_outside : FlatHasNoInside
flat_outside o p f = go (cases_Bool (inside o p))
  where
    go : (inside o p ≡ true) ⊎ (inside o p ≡ false) → inside o p ≡ false
    go (inl e) = absurd (flat_empty o p f e)
    go (inr e) = e

-- a closed outline has an even number of live sides on every sweep line
pub live_even : LiveSidesAreEven
live_even a o m = even_live a m o

module _ {E : Type 0} (S : Surface E) where
  -- a flat outline has no hole, whatever its draw makes of it
  flat_no_hole : (o : Outline) (c : BackendColor) (h : S.Held) (after : Outcome S) → flat o ≡ true → NoHole S o c h after
  flat_no_hole o c h after f opaque accepted x y w within' = absurd (flat_empty o (pos x, pos y) f within')

  -- no fill leaves a hole
  pub no_hole : Lawful S → FillsHaveNoHole S
  no_hole L line mix c o h = go (flat o) refl
    where
      go : (b : Bool) → flat o ≡ b → NoHole S o c h (run S h (all (cond b line (swept mix c o))))
      go true f = flat_no_hole o c h (run S h (all line)) f
      go false f = swept_no_hole S L mix c o h

  -- no fill of an outline that is not flat spills
  pub no_spill : Lawful S → FillsHaveNoSpill S
  no_spill L line mix c o h f = subst (λ (b : Bool). NoSpill S o h (run S h (all (cond b line (swept mix c o))))) (sym f) (swept_no_spill S L mix c o h)
