-- Where a live side's place is a cell's own coordinate, the cell lies on the side.
use Rattle.std.proofs.Common.{◌≡◌, Bool, true, false, cond, ◌&&◌, ℤ, ◌+ℤ◌, ◌-ℤ◌, ◌*ℤ◌, ◌≤ℤ◌, ◌<ℤ◌, sym, ap, ◌∙◌, arith}
use lib.IntN.{*ℤ_comm}
use lib.Signed.{le_z}
use Rattle.std.proofs.lemmas.Int.{ints, by_lt_z}
use Rattle.std.proofs.lemmas.Bool.{and_parts, and_from, or_left, or_right}
use Rattle.outline.specs.Outline.{Point, same_z, between, on}
use Rattle.plotters_backend.specs.declared.axis.Axis.{Axis}
use Rattle.outline.specs.declared.sweep.Side.{Side}
use Rattle.plotters_backend.specs.declared.axis.Axis.TheVariants.{Columns, Rows}
use Rattle.outline.specs.Sweep.{side, live, span, over, place_at}
use Rattle.plotters_backend.specs.Axis.{turned}
use Rattle.outline.proofs.Products.{sums, le_yes, mul_difference, difference_mul}
use Rattle.outline.proofs.Places.{live_out, over_is, at_most, at_least, drop_le}

-- what the test calls the same is the same
pub same_out : (a b : ℤ) → same_z a b ≡ true → a ≡ b
same_out a b h = let p = and_parts (le_z a b) (le_z b a) h in omega (arith, ints)

-- what is the same, the test calls the same
pub same_in : (a b : ℤ) → a ≡ b → same_z a b ≡ true
same_in a b e = and_from (le_z a b) (le_z b a) (le_yes a b (omega (arith, ints))) (le_yes b a (omega (arith, ints)))

-- numbers that differ, the test does not call the same
pub not_same : (a b : ℤ) → (a ≡ b → ⊥) → same_z a b ≡ false
not_same a b h = grind (arith, ints)

-- between, from the first to the second
between_up : (a b c : ℤ) → a ≤ℤ c → c ≤ℤ b → between a b c ≡ true
between_up a b c h k = or_left (le_z a c && le_z c b) (le_z b c && le_z c a) (and_from (le_z a c) (le_z c b) (le_yes a c h) (le_yes c b k))

-- between, from the second to the first
between_down : (a b c : ℤ) → b ≤ℤ c → c ≤ℤ a → between a b c ≡ true
between_down a b c h k = or_right (le_z a c && le_z c b) (le_z b c && le_z c a) (and_from (le_z b c) (le_z c a) (le_yes b c h) (le_yes c a k))

-- a product of two differences
expand : (a b c d : ℤ) → (a -ℤ b) *ℤ (c -ℤ d) ≡ (a *ℤ c -ℤ a *ℤ d) -ℤ (b *ℤ c -ℤ b *ℤ d)
expand a b c d = mul_difference a b (c -ℤ d) ∙ ap (λ (k : ℤ). k -ℤ b *ℤ (c -ℤ d)) (difference_mul c d a) ∙ ap (λ (k : ℤ). (a *ℤ c -ℤ a *ℤ d) -ℤ k) (difference_mul c d b)

-- the same sums, with the parts on the other side
settle : (c0 c1 am a1 b0 bm b1 : ℤ) → c1 -ℤ c0 ≡ (a1 -ℤ am) +ℤ (bm -ℤ b0) → (c0 -ℤ c1) -ℤ (b0 -ℤ b1) ≡ (am -ℤ a1) -ℤ (bm -ℤ b1)
settle c0 c1 am a1 b0 bm b1 h = omega (arith, sums)

module _ (m c : ℤ) (e : Side) (from : e.m0 ≤ℤ m) (to : m <ℤ e.m1) (at : over e m ≡ c *ℤ span e) where
  -- the place is between the ends of a rising side
  mid_up : e.s0 ≤ℤ e.s1 → (e.s0 ≤ℤ c) × (c ≤ℤ e.s1)
  mid_up h =
      let f = at_least m e from to e.s0 (omega (arith, sums)) h in
      let g = at_most m e from to e.s1 h (omega (arith, sums)) in
      (drop_le m e from to e.s0 c (omega (arith, sums)), drop_le m e from to c e.s1 (omega (arith, sums)))

  -- and between the ends of a falling side
  mid_down : e.s1 ≤ℤ e.s0 → (e.s1 ≤ℤ c) × (c ≤ℤ e.s0)
  mid_down h =
      let f = at_least m e from to e.s1 h (omega (arith, sums)) in
      let g = at_most m e from to e.s0 (omega (arith, sums)) h in
      (drop_le m e from to e.s1 c (omega (arith, sums)), drop_le m e from to c e.s0 (omega (arith, sums)))

  -- between the ends, whichever is greater
  mid : between e.s0 e.s1 c ≡ true
  mid = by_lt_z e.s1 e.s0
      (λ h. let r = mid_down (omega (arith, sums)) in between_down e.s0 e.s1 c r.0 r.1)
      (λ h. let r = mid_up h in between_up e.s0 e.s1 c r.0 r.1)

  -- between the ends, the other end first
  mid_back : between e.s1 e.s0 c ≡ true
  mid_back = by_lt_z e.s1 e.s0
      (λ h. let r = mid_down (omega (arith, sums)) in between_up e.s1 e.s0 c r.0 r.1)
      (λ h. let r = mid_up h in between_down e.s1 e.s0 c r.0 r.1)

  -- the crossed products are the same
  line : span e *ℤ (c -ℤ e.s0) ≡ (e.s1 -ℤ e.s0) *ℤ (m -ℤ e.m0)
  line =
      let p = *ℤ_comm (span e) (c -ℤ e.s0) in
      let q = mul_difference c e.s0 (span e) in
      omega (arith, sums)

  -- the crossed products are the same, the other end first
  line_back : (e.m0 -ℤ e.m1) *ℤ (c -ℤ e.s1) ≡ (e.s0 -ℤ e.s1) *ℤ (m -ℤ e.m1)
  line_back =
      *ℤ_comm (e.m0 -ℤ e.m1) (c -ℤ e.s1)
      ∙ expand c e.s1 e.m0 e.m1
      ∙ settle (c *ℤ e.m0) (c *ℤ e.m1) (e.s0 *ℤ m) (e.s0 *ℤ e.m1) (e.s1 *ℤ e.m0) (e.s1 *ℤ m) (e.s1 *ℤ e.m1) crossed
      ∙ sym (expand e.s0 e.s1 m e.m1)
    where
      crossed : c *ℤ e.m1 -ℤ c *ℤ e.m0 ≡ (e.s0 *ℤ e.m1 -ℤ e.s0 *ℤ m) +ℤ (e.s1 *ℤ m -ℤ e.s1 *ℤ e.m0)
      crossed = sym (difference_mul e.m1 e.m0 c) ∙ sym at ∙ over_is m e from to ∙ ap (λ (k : ℤ). k +ℤ e.s1 *ℤ (m -ℤ e.m0)) (difference_mul e.m1 m e.s0) ∙ ap (λ (k : ℤ). (e.s0 *ℤ e.m1 -ℤ e.s0 *ℤ m) +ℤ k) (difference_mul m e.m0 e.s1)

  -- the cell lies on the side
  forth : on (m, c) ((e.m0, e.s0), (e.m1, e.s1)) ≡ true
  forth =
      and_from (same_z (span e *ℤ (c -ℤ e.s0)) ((e.s1 -ℤ e.s0) *ℤ (m -ℤ e.m0))) (between e.m0 e.m1 m && between e.s0 e.s1 c)
      (same_in (span e *ℤ (c -ℤ e.s0)) ((e.s1 -ℤ e.s0) *ℤ (m -ℤ e.m0)) line)
      (and_from (between e.m0 e.m1 m) (between e.s0 e.s1 c) (between_up e.m0 e.m1 m from (omega (arith, sums))) mid)

  -- and on the side with the other end first
  back : on (m, c) ((e.m1, e.s1), (e.m0, e.s0)) ≡ true
  back =
      and_from (same_z ((e.m0 -ℤ e.m1) *ℤ (c -ℤ e.s1)) ((e.s0 -ℤ e.s1) *ℤ (m -ℤ e.m1))) (between e.m1 e.m0 m && between e.s1 e.s0 c)
      (same_in ((e.m0 -ℤ e.m1) *ℤ (c -ℤ e.s1)) ((e.s0 -ℤ e.s1) *ℤ (m -ℤ e.m1)) line_back)
      (and_from (between e.m1 e.m0 m) (between e.s1 e.s0 c) (between_down e.m1 e.m0 m from (omega (arith, sums))) mid_back)

-- the same for the side between two corners, whichever comes first
turned_on : (m c : ℤ) (p q : Point) → live m (side (p, q)) ≡ true → place_at m c (side (p, q)) ≡ true → on (m, c) (p, q) ≡ true
turned_on m c p q = go (le_z p.0 q.0)
  where
    forward : Side
    forward = record { m0 = p.0; s0 = p.1; m1 = q.0; s1 = q.1 }

    backward : Side
    backward = record { m0 = q.0; s0 = q.1; m1 = p.0; s1 = p.1 }

    go : (b : Bool) → live m (cond b forward backward) ≡ true → place_at m c (cond b forward backward) ≡ true → on (m, c) (p, q) ≡ true
    go true l a = let r = live_out m forward l in forth m c forward r.0 r.1 (same_out (over forward m) (c *ℤ span forward) a)
    go false l a = let r = live_out m backward l in back m c backward r.0 r.1 (same_out (over backward m) (c *ℤ span backward) a)

-- the test does not ask which comes first
same_swap : (a b : ℤ) → same_z a b ≡ true → same_z b a ≡ true
same_swap a b h = same_in b a (sym (same_out a b h))

-- a point lies on a line if it does with x and y swapped
swapped : (p a b : Point) → on (p.1, p.0) ((a.1, a.0), (b.1, b.0)) ≡ true → on p (a, b) ≡ true
swapped p a b h =
    let r = and_parts (same_z ((b.1 -ℤ a.1) *ℤ (p.0 -ℤ a.0)) ((b.0 -ℤ a.0) *ℤ (p.1 -ℤ a.1))) (between a.1 b.1 p.1 && between a.0 b.0 p.0) h in
    let s = and_parts (between a.1 b.1 p.1) (between a.0 b.0 p.0) r.1 in
    and_from (same_z ((b.0 -ℤ a.0) *ℤ (p.1 -ℤ a.1)) ((b.1 -ℤ a.1) *ℤ (p.0 -ℤ a.0))) (between a.0 b.0 p.0 && between a.1 b.1 p.1)
    (same_swap ((b.1 -ℤ a.1) *ℤ (p.0 -ℤ a.0)) ((b.0 -ℤ a.0) *ℤ (p.1 -ℤ a.1)) r.0)
    (and_from (between a.0 b.0 p.0) (between a.1 b.1 p.1) s.1 s.0)

-- a live side whose place is the cell: the cell lies on the join
pub place_on : (a : Axis) (m c : ℤ) (j : Point × Point) → live m (side (turned a j.0, turned a j.1)) ≡ true → place_at m c (side (turned a j.0, turned a j.1)) ≡ true → on (turned a (m, c)) j ≡ true
place_on Columns m c j l h = turned_on m c j.0 j.1 l h
place_on Rows m c j l h = swapped (c, m) j.0 j.1 (turned_on m c (j.0.1, j.0.0) (j.1.1, j.1.0) l h)
