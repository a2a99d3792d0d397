-- Nothing is strictly inside beyond the box.
use Rattle.std.proofs.Common.{◌≡◌, Bool, true, false, cond, not, ◌&&◌, ◌⊎◌, List, [], ◌∷◌, map, ℤ, pos, ◌≤ℤ◌, ◌<ℤ◌, sym, refl, ap, ◌∙◌, subst, inl, inr, true≢false, arith}
use mathlib.Core.List.Memᴰ
use mathlib.Core.List.{Memᴰ}
use lib.Signed.{le_z, lt_z}
use Rattle.std.specs.List.{AllByRecursion}
use Rattle.std.proofs.lemmas.Int.{ints, by_lt_z}
use Rattle.std.proofs.ByRecursion.{folded_min_z_bounds, folded_max_z_bounds}
use Rattle.std.proofs.lemmas.Bool.{and_parts, or_cases, cond_both, not-true}
use Rattle.outline.specs.Lists.{odd}
use Rattle.outline.specs.Outline.{Point, Outline, least, greatest, least_corner, greatest_corner, width, height, flat, joined_from, joined, on_side}
use Rattle.plotters_backend.specs.declared.axis.Axis.{Axis}
use Rattle.outline.specs.declared.sweep.Side.{Side}
use Rattle.plotters_backend.specs.declared.axis.Axis.TheVariants.{Columns, Rows}
use Rattle.outline.specs.Sweep.{axis, side, sides, live, place_below, passed, inside}
use Rattle.plotters_backend.specs.Axis.{turned}
use Rattle.outline.proofs.Counting.{odd_some, odd_same}
use Rattle.outline.proofs.Parity.{even_live}
use Rattle.outline.proofs.Products.{sums}
use Rattle.outline.proofs.Places.{live_out, below_past, below_before}

-- what holds of all holds of a member
pub all_in : {X : Type 0} (P : X → Type 0) (x : X) (xs : List X) → AllByRecursion P xs → Memᴰ x xs → P x
all_in P x [] h m = elim m [ ]
all_in {X} P x (y ∷ xs) h m = go (Memᴰ.cases_cons m) (all_in P x xs h.1)
  where
    go : (x ≡ y) ⊎ Memᴰ x xs → (Memᴰ x xs → P x) → P x
    go (inl e) ih = subst P (sym e) h.0
    go (inr n) ih = ih n

-- no member is below the least
least_low : (zs : List ℤ) (z : ℤ) → Memᴰ z zs → least zs ≤ℤ z
least_low [] z m = elim m [ ]
least_low (y ∷ ys) z m = all_in (λ x. least (y ∷ ys) ≤ℤ x) z (y ∷ ys) (folded_min_z_bounds y ys (least (y ∷ ys)) refl) m

-- no member is above the greatest
greatest_high : (zs : List ℤ) (z : ℤ) → Memᴰ z zs → z ≤ℤ greatest zs
greatest_high [] z m = elim m [ ]
greatest_high (y ∷ ys) z m = all_in (λ x. x ≤ℤ greatest (y ∷ ys)) z (y ∷ ys) (folded_max_z_bounds y ys (greatest (y ∷ ys)) refl) m

-- a point lies in the box
pub record Boxed (a : Axis) (o : Outline) (p : Point) : Type 0 where
  pub m_low : (turned a (least_corner o)).0 ≤ℤ (turned a p).0
  pub m_high : (turned a p).0 ≤ℤ (turned a (greatest_corner o)).0
  pub s_low : (turned a (least_corner o)).1 ≤ℤ (turned a p).1
  pub s_high : (turned a p).1 ≤ℤ (turned a (greatest_corner o)).1

-- every corner lies in the box
pub boxed : (a : Axis) (o : Outline) (p : Point) → Memᴰ p o → Boxed a o p
boxed Columns o p m = record { m_low = least_low (map (λ q. q.0) o) p.0 (Memᴰ.map (λ (q : Point). q.0) m); m_high = greatest_high (map (λ q. q.0) o) p.0 (Memᴰ.map (λ (q : Point). q.0) m); s_low = least_low (map (λ q. q.1) o) p.1 (Memᴰ.map (λ (q : Point). q.1) m); s_high = greatest_high (map (λ q. q.1) o) p.1 (Memᴰ.map (λ (q : Point). q.1) m) }
boxed Rows o p m = record { m_low = least_low (map (λ q. q.1) o) p.1 (Memᴰ.map (λ (q : Point). q.1) m); m_high = greatest_high (map (λ q. q.1) o) p.1 (Memᴰ.map (λ (q : Point). q.1) m); s_low = least_low (map (λ q. q.0) o) p.0 (Memᴰ.map (λ (q : Point). q.0) m); s_high = greatest_high (map (λ q. q.0) o) p.0 (Memᴰ.map (λ (q : Point). q.0) m) }

-- the ends of a join are corners
ends_from : (first p : Point) (ps : Outline) (j : Point × Point) → Memᴰ j (joined_from first p ps) → Memᴰ j.0 (p ∷ ps) × ((j.1 ≡ first) ⊎ Memᴰ j.1 ps)
ends_from first p [] j m = go (Memᴰ.cases_cons m)
  where
    go : (j ≡ (p, first)) ⊎ Memᴰ j [] → Memᴰ j.0 (p ∷ []) × ((j.1 ≡ first) ⊎ Memᴰ j.1 [])
    go (inl e) = (Memᴰ.head (ap (λ (k : Point × Point). k.0) e), inl (ap (λ (k : Point × Point). k.1) e))
    go (inr n) = elim n [ ]
ends_from first p (q ∷ qs) j m = go (Memᴰ.cases_cons m) (ends_from first q qs j)
  where
    more : (j.1 ≡ first) ⊎ Memᴰ j.1 qs → (j.1 ≡ first) ⊎ Memᴰ j.1 (q ∷ qs)
    more (inl e) = inl e
    more (inr n) = inr (Memᴰ.tail n)

    go : (j ≡ (p, q)) ⊎ Memᴰ j (joined_from first q qs) → (Memᴰ j (joined_from first q qs) → Memᴰ j.0 (q ∷ qs) × ((j.1 ≡ first) ⊎ Memᴰ j.1 qs)) → Memᴰ j.0 (p ∷ q ∷ qs) × ((j.1 ≡ first) ⊎ Memᴰ j.1 (q ∷ qs))
    go (inl e) ih = (Memᴰ.head (ap (λ (k : Point × Point). k.0) e), inr (Memᴰ.head (ap (λ (k : Point × Point). k.1) e)))
    go (inr n) ih = let r = ih n in (Memᴰ.tail r.0, more r.1)

-- both ends of a join are corners
ends : (o : Outline) (j : Point × Point) → Memᴰ j (joined o) → Memᴰ j.0 o × Memᴰ j.1 o
ends [] j m = elim m [ ]
ends (p ∷ ps) j m = let r = ends_from p p ps j m in (r.0, go r.1)
  where
    go : (j.1 ≡ p) ⊎ Memᴰ j.1 ps → Memᴰ j.1 (p ∷ ps)
    go (inl e) = Memᴰ.head e
    go (inr n) = Memᴰ.tail n

-- a side lies in the box
pub record Held (low high lo hi : ℤ) (e : Side) : Type 0 where
  pub m0_low : low ≤ℤ e.m0
  pub m0_high : e.m0 ≤ℤ high
  pub m1_low : low ≤ℤ e.m1
  pub m1_high : e.m1 ≤ℤ high
  pub s0_low : lo ≤ℤ e.s0
  pub s0_high : e.s0 ≤ℤ hi
  pub s1_low : lo ≤ℤ e.s1
  pub s1_high : e.s1 ≤ℤ hi

module _ (a : Axis) (o : Outline) where
  -- the box in sweep coordinates: its first sweep line
  abbrev low : ℤ
  low = (turned a (least_corner o)).0

  -- its last sweep line
  abbrev high : ℤ
  high = (turned a (greatest_corner o)).0

  -- its first cell of a sweep line
  abbrev lo : ℤ
  lo = (turned a (least_corner o)).1

  -- its last cell of a sweep line
  abbrev hi : ℤ
  hi = (turned a (greatest_corner o)).1

  -- the side between two points of the box lies in the box
  joined_held : (p q : Point) → Boxed a o p → Boxed a o q → Held low high lo hi (side (turned a p, turned a q))
  joined_held p q f g =
      cond_both (le_z (turned a p).0 (turned a q).0) (record { m0 = (turned a p).0; s0 = (turned a p).1; m1 = (turned a q).0; s1 = (turned a q).1 }) (record { m0 = (turned a q).0; s0 = (turned a q).1; m1 = (turned a p).0; s1 = (turned a p).1 }) (Held low high lo hi)
      (λ _. record { m0_low = f.m_low; m0_high = f.m_high; m1_low = g.m_low; m1_high = g.m_high; s0_low = f.s_low; s0_high = f.s_high; s1_low = g.s_low; s1_high = g.s_high })
      (λ _. record { m0_low = g.m_low; m0_high = g.m_high; m1_low = f.m_low; m1_high = f.m_high; s0_low = g.s_low; s0_high = g.s_high; s1_low = f.s_low; s1_high = f.s_high })

  -- every side lies in the box
  pub side_held : (e : Side) → Memᴰ e (sides a o) → Held low high lo hi e
  side_held e m =
      let r = Memᴰ.of_map (λ (j : Point × Point). side (turned a j.0, turned a j.1)) (joined o) m in
      let k = ends o r.0 r.1 in
      subst (Held low high lo hi) r.2 (joined_held r.0.0 r.0.1 (boxed a o r.0.0 k.0) (boxed a o r.0.1 k.1))

  module _ (m c : ℤ) (h : odd (passed (sides a o) m c) ≡ true) where
    -- a side that is passed
    one : (e : Side) × Memᴰ e (sides a o) × ((live m e && place_below m c e) ≡ true)
    one = odd_some (λ e. live m e && place_below m c e) (sides a o) h

    -- a sweep line with a passed side is one of the box
    passed_m : (low ≤ℤ m) × (m <ℤ high)
    passed_m =
        let r = one in
        let b = side_held r.0 r.1 in
        let l = live_out m r.0 (and_parts (live m r.0) (place_below m c r.0) r.2).0 in
        (omega (arith, sums), omega (arith, sums))

    -- past the box the number of passed sides is even
    past : hi <ℤ c → ⊥
    past k = true≢false (sym h ∙ odd_same (λ e. live m e && place_below m c e) (live m) (sides a o) all ∙ even_live a m o)
      where
        all : (e : Side) → Memᴰ e (sides a o) → (live m e && place_below m c e) ≡ live m e
        all e n = go (live m e) refl
          where
            go : (b : Bool) → live m e ≡ b → (b && place_below m c e) ≡ b
            go true l = let b = side_held e n in let r = live_out m e l in below_past m e r.0 r.1 hi c b.s0_high b.s1_high k
            go false l = refl

    -- before the box no side is passed
    before : c ≤ℤ lo → ⊥
    before k =
        let r = one in
        let b = side_held r.0 r.1 in
        let s = and_parts (live m r.0) (place_below m c r.0) r.2 in
        let l = live_out m r.0 s.0 in
        true≢false (sym s.1 ∙ below_before m r.0 l.0 l.1 lo c b.s0_low b.s1_low k)

    -- past an odd number of sides: in the box
    pub passed_box : (low ≤ℤ m) × (m <ℤ high) × (lo <ℤ c) × (c ≤ℤ hi)
    passed_box =
        let r = passed_m in
        (r.0, r.1, by_lt_z lo c (λ k. k) (λ k. absurd (before k)), by_lt_z hi c (λ k. absurd (past k)) (λ k. k))

-- ---- a flat outline has nothing strictly inside
-- in a box with no width or no height no cell is past an odd number of sides
thin : (a : Axis) (o : Outline) (m c : ℤ) → (high a o ≤ℤ low a o) ⊎ (hi a o ≤ℤ lo a o) → odd (passed (sides a o) m c) ≡ true → ⊥
thin a o m c (inl t) h = let r = passed_box a o m c h in omega (arith, sums)
thin a o m c (inr t) h = let r = passed_box a o m c h in omega (arith, sums)

-- the box of a flat outline has no width or no height
flat_thin : (o : Outline) → flat o ≡ true → (high Rows o ≤ℤ low Rows o) ⊎ (hi Rows o ≤ℤ lo Rows o)
flat_thin o f = go (or_cases (le_z (width o) (pos 0)) (le_z (height o) (pos 0)) f)
  where
    go : (le_z (width o) (pos 0) ≡ true) ⊎ (le_z (height o) (pos 0) ≡ true) → (high Rows o ≤ℤ low Rows o) ⊎ (hi Rows o ≤ℤ lo Rows o)
    go (inl e) = inr (omega (arith, ints))
    go (inr e) = inl (omega (arith, ints))

-- a flat outline counts by rows
flat_axis : (o : Outline) → flat o ≡ true → axis o ≡ Rows
flat_axis o f = ap (λ (b : Bool). cond b Rows (cond (lt_z (height o) (width o)) Columns Rows)) f

-- strictly inside: on no side, and past an odd number of sides
pub inside_odd : (o : Outline) (p : Point) → inside o p ≡ true → (on_side o p ≡ false) × (odd (passed (sides (axis o) o) (turned (axis o) p).0 (turned (axis o) p).1) ≡ true)
inside_odd o p h =
    let r = and_parts (not (on_side o p)) (odd (passed (sides (axis o) o) (turned (axis o) p).0 (turned (axis o) p).1)) h in
    (not-true (on_side o p) r.0, r.1)

-- a flat outline has nothing strictly inside
pub flat_empty : (o : Outline) (p : Point) → flat o ≡ true → inside o p ≡ true → ⊥
flat_empty o p f h =
    thin (axis o) o (turned (axis o) p).0 (turned (axis o) p).1
    (subst (λ (a : Axis). (high a o ≤ℤ low a o) ⊎ (hi a o ≤ℤ lo a o)) (sym (flat_axis o f)) (flat_thin o f))
    (inside_odd o p h).1
