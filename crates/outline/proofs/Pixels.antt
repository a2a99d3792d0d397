-- What the pixels of a fill are: covered cells in the colour itself, and bare cells near a live side.
use Rattle.std.proofs.Common.{◌≡◌, ℕ, zero, suc, Bool, true, false, cond, ◌&&◌, ◌⊎◌, List, [], ◌∷◌, map, ℤ, pos, ◌+ℤ◌, ◌-ℤ◌, ◌≤ℤ◌, ◌<ℤ◌, count_by, filter, sym, refl, ap, ◌∙◌, inl, inr, true≢false, arith}
use mathlib.Core.List.Memᴰ
use mathlib.Core.List.{Memᴰ}
use lib.Ieee as Ieee
use Rattle.std.proofs.lemmas.Int.{ints}
use Rattle.std.proofs.lemmas.Bool.{or_left, and_from}
use Rattle.plotters_backend.specs.Color.{zero as none, mixed}
use Rattle.plotters_backend.specs.Run.{Pixel}
use Rattle.outline.specs.Lists.{odd, any, in_turn, rising, natural, from_to}
use Rattle.outline.specs.Outline.{Outline, least_corner, greatest_corner}
use Rattle.plotters_backend.specs.declared.axis.Axis.{Axis}
use Rattle.outline.specs.declared.sweep.Side.{Side}
use Rattle.outline.specs.Sweep.{sides, live, place_below, place_at, place_near, floor_at, ceil_at, passed}
use Rattle.plotters_backend.specs.Axis.{turned}
use Rattle.outline.specs.Filling.{Mixes, covered, bare, edge, solid_line, sweep_line, swept_by}
use Rattle.plotters_backend.specs.declared.style.BackendColor.{BackendColor}
use Rattle.outline.proofs.Counting.{odd_kept, some_any, kept_in, in_kept, in_turn_lem, turn_in}
use Rattle.outline.proofs.Places.{live_out, floor_near, ceil_near}
use Rattle.outline.proofs.Boxes.{passed_box}
use Rattle.outline.proofs.Rising.{natural_is}

-- ---- whole numbers from one to another
-- a number from a on, before a + n, is among the n numbers from a on
in_rising : (n : ℕ) (a z : ℤ) → a ≤ℤ z → z <ℤ (a +ℤ pos n) → Memᴰ z (rising a n)
in_rising zero a z h k = absurd (omega (arith, ints))
in_rising (suc n) a z h k = go (lib.IntN.ℤ_discrete z a) (λ l. in_rising n (a +ℤ pos 1) z l (omega (arith, ints)))
  where
    go : Dec (z ≡ a) → ((a +ℤ pos 1) ≤ℤ z → Memᴰ z (rising (a +ℤ pos 1) n)) → Memᴰ z (a ∷ rising (a +ℤ pos 1) n)
    go (yes e) ih = Memᴰ.head e
    go (no e) ih = Memᴰ.tail (ih (omega (arith, ints)))

-- a number from a to b is among the numbers from a to b
pub in_from_to : (a b z : ℤ) → a ≤ℤ z → z ≤ℤ b → Memᴰ z (from_to a b)
in_from_to a b z h k =
    let d : pos 0 ≤ℤ ((b +ℤ pos 1) -ℤ a) = omega (arith, ints) in
    let e = natural_is ((b +ℤ pos 1) -ℤ a) d in
    in_rising (natural ((b +ℤ pos 1) -ℤ a)) a z h (omega (arith, ints))

-- ---- the pixels
-- the sides that are live at m
abbrev pub lives : Axis → Outline → ℤ → List Side
lives a o m = filter (live m) (sides a o)

-- closer than one cell to a live side
abbrev pub Near : Axis → Outline → ℤ → ℤ → Type 0
Near a o m s = any (λ e. live m e && place_near m s e) (sides a o) ≡ true

module _ (mix : Mixes) (a : Axis) (c : BackendColor) (o : Outline) where
  -- a pixel of the fill: a covered cell in the colour itself, or a bare cell near a live side in the colour's red, green and blue
  pub data Laid (q : Pixel) : Type 0 where
    whole : (m s : ℤ) → q.0 ≡ turned a (m, s) → covered (lives a o m) m s ≡ true → q.1 ≡ c → Laid q
    part : (m s : ℤ) → q.0 ≡ turned a (m, s) → covered (lives a o m) m s ≡ false → Near a o m s → q.1.rgb ≡ c.rgb → Laid q

  -- a pixel at a bare cell near a live side
  bare_laid : (m s : ℤ) (d : BackendColor) (q : Pixel) → d.rgb ≡ c.rgb → Near a o m s → Memᴰ q (bare a (lives a o m) m s d) → Laid q
  bare_laid m s d q i n k = go (covered (lives a o m) m s) refl k
    where
      go : (b : Bool) → covered (lives a o m) m s ≡ b → Memᴰ q (cond b [] ((turned a (m, s), d) ∷ [])) → Laid q
      go true e h = elim h [ ]
      go false e h = part m s (ap (λ (r : Pixel). r.0) (Memᴰ.eq_of_singleton h)) e n (ap (λ (r : Pixel). r.1.rgb) (Memᴰ.eq_of_singleton h) ∙ i)

  -- a pixel of a live side
  edge_laid : (m : ℤ) (e : Side) (q : Pixel) → Memᴰ e (lives a o m) → Memᴰ q (edge mix a c (lives a o m) m e) → Laid q
  edge_laid m e q k h = go (Memᴰ.append_cases (bare a (lives a o m) m (floor_at m e) (mixed c (mix a m e).0)) h)
    where
      r : Memᴰ e (sides a o) × (live m e ≡ true)
      r = kept_in (live m) e (sides a o) k

      near : (s : ℤ) → place_near m s e ≡ true → Near a o m s
      near s p = some_any (λ f. live m f && place_near m s f) e (sides a o) r.0 (and_from (live m e) (place_near m s e) r.1 p)

      l : (e.m0 ≤ℤ m) × (m <ℤ e.m1)
      l = live_out m e r.1

      go : Memᴰ q (bare a (lives a o m) m (floor_at m e) (mixed c (mix a m e).0)) ⊎ Memᴰ q (bare a (lives a o m) m (ceil_at m e) (mixed c (mix a m e).1)) → Laid q
      go (inl n) = bare_laid m (floor_at m e) (mixed c (mix a m e).0) q refl (near (floor_at m e) (floor_near m e l.0 l.1)) n
      go (inr n) = bare_laid m (ceil_at m e) (mixed c (mix a m e).1) q refl (near (ceil_at m e) (ceil_near m e l.0 l.1)) n

  -- a pixel of the covered cells
  solid_laid : (lo hi m : ℤ) (q : Pixel) → Memᴰ q (solid_line a c lo hi (lives a o m) m) → Laid q
  solid_laid lo hi m q h = go (Ieee.eq c.alpha none) h
    where
      go : (b : Bool) → Memᴰ q (cond b [] (map (λ s. (turned a (m, s), c)) (filter (covered (lives a o m) m) (from_to lo hi)))) → Laid q
      go true k = elim k [ ]
      go false k =
          let r = Memᴰ.of_map (λ (s : ℤ). (turned a (m, s), c)) (filter (covered (lives a o m) m) (from_to lo hi)) k in
          let t = kept_in (covered (lives a o m) m) r.0 (from_to lo hi) r.1 in
          whole m r.0 (sym (ap (λ (p : Pixel). p.0) r.2)) t.1 (sym (ap (λ (p : Pixel). p.1) r.2))

  -- every pixel of the fill is of one of the two kinds
  pub swept_laid : (q : Pixel) → Memᴰ q (swept_by mix a c o) → Laid q
  swept_laid q h = go (Memᴰ.append_cases (solid_line a c lo hi (lives a o r.0) r.0) r.2)
    where
      lo : ℤ
      lo = (turned a (least_corner o)).1

      hi : ℤ
      hi = (turned a (greatest_corner o)).1

      r : (m : ℤ) × Memᴰ m (from_to (turned a (least_corner o)).0 (turned a (greatest_corner o)).0) × Memᴰ q (sweep_line mix a c lo hi (lives a o m) m)
      r = turn_in (λ m. sweep_line mix a c lo hi (lives a o m) m) q (from_to (turned a (least_corner o)).0 (turned a (greatest_corner o)).0) h

      go : Memᴰ q (solid_line a c lo hi (lives a o r.0) r.0) ⊎ Memᴰ q (in_turn (edge mix a c (lives a o r.0) r.0) (lives a o r.0)) → Laid q
      go (inl k) = solid_laid lo hi r.0 q k
      go (inr k) =
          let t = turn_in (edge mix a c (lives a o r.0) r.0) q (lives a o r.0) k in
          edge_laid r.0 t.0 q t.1 t.2

  -- and has the red, green and blue of the colour
  pub laid_ink : (q : Pixel) → Laid q → q.1.rgb ≡ c.rgb
  laid_ink q (whole m s e k f) = ap (λ (d : BackendColor). d.rgb) f
  laid_ink q (part m s e k n i) = i

  -- past an odd number of sides: covered
  pub odd_covered : (m s : ℤ) → odd (passed (sides a o) m s) ≡ true → covered (lives a o m) m s ≡ true
  odd_covered m s h = or_left (odd (count_by (place_below m s) (lives a o m))) (any (place_at m s) (lives a o m)) (odd_kept (live m) (place_below m s) (sides a o) ∙ h)

  -- and laid in the colour itself, if that shows
  pub odd_laid : (m s : ℤ) → Ieee.eq c.alpha none ≡ false → odd (passed (sides a o) m s) ≡ true → Memᴰ {A = Pixel} (turned a (m, s), c) (swept_by mix a c o)
  odd_laid m s z h =
      let b = passed_box a o m s h in
      in_turn_lem (λ k. sweep_line mix a c lo hi (lives a o k) k) (turned a (m, s), c) m (from_to (turned a (least_corner o)).0 (turned a (greatest_corner o)).0)
      (in_from_to (turned a (least_corner o)).0 (turned a (greatest_corner o)).0 m b.0 (omega (arith, ints)))
      (Memᴰ.append_left (in_turn (edge mix a c (lives a o m) m) (lives a o m)) (go (Ieee.eq c.alpha none) z (in_from_to lo hi s (omega (arith, ints)) b.3)))
    where
      lo : ℤ
      lo = (turned a (least_corner o)).1

      hi : ℤ
      hi = (turned a (greatest_corner o)).1

      go : (b : Bool) → b ≡ false → Memᴰ s (from_to lo hi) → Memᴰ {A = Pixel} (turned a (m, s), c) (cond b [] (map (λ t. (turned a (m, t), c)) (filter (covered (lives a o m) m) (from_to lo hi))))
      go true e k = absurd (true≢false e)
      go false e k = Memᴰ.map (λ (t : ℤ). (turned a (m, t), c)) (in_kept (covered (lives a o m) m) s (from_to lo hi) k (odd_covered m s h))
