-- From the sides that are live on a sweep line to their edges.
use Rattle.std.proofs.Common.{◌≡◌, ℕ, ◌+◌, ◌<◌, ◌≤◌, Bool, true, false, cond, ◌&&◌, ◌||◌, eqb, ◌⊎◌, List, [], ◌∷◌, ◌++◌, map, length, get_or, ℤ, pos, negsuc, ◌+ℤ◌, ◌-ℤ◌, ◌*ℤ◌, nat_abs, ◌≤ℤ◌, ◌<ℤ◌, count_by, filter, Ordering, Less, Equal, Greater, sym, refl, ap, ◌∙◌, subst, inl, inr, true≢false, arith}
use mathlib.Core.List.{Memᴰ}
use lib.IntN.{ℤ_discrete}
use lib.Signed.{lt_z}
use Rattle.std.specs.Ordering.{ordering_then, is_le, int_cmp, nan_last_cmp}
use Rattle.std.specs.List.{AllByRecursion}
use Rattle.std.proofs.ByRecursion.{All-get_or, All-from_get_or}
use Rattle.std.proofs.lemmas.Int.{ints, by_lt_z}
use Rattle.std.proofs.lemmas.Bool.{and_parts, and_from, cases_Bool, lt-ltb, le-leb}
use Rattle.plotters_backend.specs.Color.{mixed}
use Rattle.plotters_backend.specs.Run.{Pixel}
use Rattle.plotters_backend.specs.declared.style.BackendColor.{BackendColor}
use Rattle.binary64.specs.Quotient.{floor_over, ceil_over}
use Rattle.search.specs.First.{ComesFirst, up_to}
use Rattle.edges.specs.declared.side.Edge.{Edge}
use Rattle.edges.specs.Side.{Sound, over as eOver, floor_at as eF, ceil_at as eC}
use Rattle.edges.specs.Order.{floor_key, ceil_key, place_key, edge_order}
use Rattle.outline.specs.Lists.{odd, unlike, any, in_turn, natural}
use Rattle.outline.specs.Outline.{same_z}
use Rattle.plotters_backend.specs.declared.axis.Axis.{Axis}
use Rattle.outline.specs.declared.sweep.Side.{Side}
use Rattle.outline.specs.Sweep.{live, span, over, place_below, place_at, floor_at, ceil_at}
use Rattle.plotters_backend.specs.Axis.{turned}
use Rattle.outline.specs.Filling.{covered, bare, edge}
use Rattle.outline.proofs.Counting.{odd_cons, kept_in}
use Rattle.outline.proofs.Products.{le_yes, lt_no, lt_yes}
use Rattle.outline.proofs.Places.{live_out, span_is}
use Rattle.outline.proofs.Lying.{same_in, same_out, not_same}
use Rattle.outline.proofs.Rising.{natural_is}
use Rattle.polygon.specs.Live.{edge_at}
use Rattle.polygon.specs.Marking.{Among, covering, stands_at, index_of}
use Rattle.polygon.specs.Rims.{mixes, bare_by, rim}
use Rattle.polygon.proofs.WholePlaces.{below_floor, at_floor, at_ceil, at_whole, floor_from, floor_upto, ceil_upto, floor_ceil, edge_whole}

-- ---- the place of an edge
-- the fraction of a live side is that of its edge
over_is : (m : ℤ) (e : Side) → live m e ≡ true → eOver (edge_at m e) ≡ over e m
over_is m e h =
    let l = live_out m e h in
    let gone : pos (nat_abs (m -ℤ e.m0)) ≡ m -ℤ e.m0 = omega (arith, ints) in
    ap (λ (z : ℤ). e.s0 *ℤ z +ℤ (e.s1 -ℤ e.s0) *ℤ pos (nat_abs (m -ℤ e.m0))) (sym (span_is m e l.0 l.1))
    ∙ ap (λ (z : ℤ). e.s0 *ℤ span e +ℤ (e.s1 -ℤ e.s0) *ℤ z) gone

-- the edge of a live side has its floor
pub floor_is : (m : ℤ) (e : Side) → live m e ≡ true → eF (edge_at m e) ≡ floor_at m e
floor_is m e h = ap (λ (z : ℤ). floor_over z (nat_abs (span e))) (over_is m e h)

-- and its ceil
pub ceil_is : (m : ℤ) (e : Side) → live m e ≡ true → eC (edge_at m e) ≡ ceil_at m e
ceil_is m e h = ap (λ (z : ℤ). ceil_over z (nat_abs (span e))) (over_is m e h)

-- ---- lists of images
-- an odd count over a list of images
odd_map : {X Y : Type 0} (f : X → Y) (p : Y → Bool) (q : X → Bool) (xs : List X) → ((x : X) → Memᴰ x xs → p (f x) ≡ q x) → odd (count_by p (map f xs)) ≡ odd (count_by q xs)
odd_map f p q [] h = refl
odd_map f p q (x ∷ xs) h =
    odd_cons p (f x) (map f xs)
    ∙ ap (λ (b : Bool). unlike b (odd (count_by p (map f xs)))) (h x (Memᴰ.head refl))
    ∙ ap (unlike (q x)) (odd_map f p q xs (λ y n. h y (Memᴰ.tail n)))
    ∙ sym (odd_cons q x xs)

-- whether a test holds of some image
any_map : {X Y : Type 0} (f : X → Y) (p : Y → Bool) (q : X → Bool) (xs : List X) → ((x : X) → Memᴰ x xs → p (f x) ≡ q x) → any p (map f xs) ≡ any q xs
any_map f p q [] h = refl
any_map f p q (x ∷ xs) h = ap (λ (b : Bool). b || any p (map f xs)) (h x (Memᴰ.head refl)) ∙ ap (λ (b : Bool). q x || b) (any_map f p q xs (λ y n. h y (Memᴰ.tail n)))

-- what a list of images gives in turn
turn_map : {X Y Z : Type 0} (f : X → Y) (p : Y → List Z) (q : X → List Z) (xs : List X) → ((x : X) → Memᴰ x xs → p (f x) ≡ q x) → in_turn p (map f xs) ≡ in_turn q xs
turn_map f p q [] h = refl
turn_map {Z = Z} f p q (x ∷ xs) h = ap (λ (b : List Z). b ++ in_turn p (map f xs)) (h x (Memᴰ.head refl)) ∙ ap (λ (b : List Z). q x ++ b) (turn_map f p q xs (λ y n. h y (Memᴰ.tail n)))

-- ---- what edges cover
-- floor and ceil are both c where the place is c
stands_is : (m c : ℤ) (e : Side) → live m e ≡ true → (same_z (floor_at m e) c && same_z (ceil_at m e) c) ≡ place_at m c e
stands_is m c e h = go (ℤ_discrete (over e m) (c *ℤ span e))
  where
    r : (e.m0 ≤ℤ m) × (m <ℤ e.m1)
    r = live_out m e h

    apart : (over e m ≡ c *ℤ span e → ⊥) → (same_z (floor_at m e) c && same_z (ceil_at m e) c ≡ true) ⊎ (same_z (floor_at m e) c && same_z (ceil_at m e) c ≡ false) → (same_z (floor_at m e) c && same_z (ceil_at m e) c) ≡ false
    apart f (inl t) =
        let p = and_parts (same_z (floor_at m e) c) (same_z (ceil_at m e) c) t in
        let a = same_out (floor_at m e) c p.0 in
        let b = same_out (ceil_at m e) c p.1 in
        absurd (f (at_whole m e r.0 r.1 (a ∙ sym b) ∙ ap (λ (z : ℤ). z *ℤ span e) a))
    apart f (inr t) = t

    go : Dec (over e m ≡ c *ℤ span e) → (same_z (floor_at m e) c && same_z (ceil_at m e) c) ≡ place_at m c e
    go (yes f) =
        and_from (same_z (floor_at m e) c) (same_z (ceil_at m e) c) (same_in (floor_at m e) c (at_floor m e r.0 r.1 c f)) (same_in (ceil_at m e) c (at_ceil m e r.0 r.1 c f))
        ∙ sym (same_in (over e m) (c *ℤ span e) f)
    go (no f) = apart f (cases_Bool (same_z (floor_at m e) c && same_z (ceil_at m e) c)) ∙ sym (not_same (over e m) (c *ℤ span e) f)

-- the edges of live sides cover what the sides cover
pub covering_is : (es : List Side) (m c : ℤ) → ((e : Side) → Memᴰ e es → live m e ≡ true) → covering (map (edge_at m) es) c ≡ covered es m c
covering_is es m c alive =
    ap (λ (b : Bool). b || any (stands_at c) (map (edge_at m) es)) (odd_map (edge_at m) (λ e. lt_z (eF e) c) (place_below m c) es passes)
    ∙ ap (λ (b : Bool). odd (count_by (place_below m c) es) || b) (any_map (edge_at m) (stands_at c) (place_at m c) es stands)
  where
    passes : (e : Side) → Memᴰ e es → lt_z (eF (edge_at m e)) c ≡ place_below m c e
    passes e n = let l = live_out m e (alive e n) in ap (λ (z : ℤ). lt_z z c) (floor_is m e (alive e n)) ∙ sym (below_floor m e l.0 l.1 c)

    stands : (e : Side) → Memᴰ e es → stands_at c (edge_at m e) ≡ place_at m c e
    stands e n =
        ap (λ (z : ℤ). same_z z c && same_z (eC (edge_at m e)) c) (floor_is m e (alive e n))
        ∙ ap (λ (z : ℤ). same_z (floor_at m e) c && same_z z c) (ceil_is m e (alive e n))
        ∙ stands_is m c e (alive e n)

-- ---- where edges lie
-- numbers within the limits make a sound edge
sound_from : (x : Edge) → 0 < x.total_epoch → x.total_epoch ≤ 65534 → x.epoch ≤ x.total_epoch → nat_abs x.slave_begin ≤ 32767 → nat_abs x.slave_end ≤ 32767 → Sound x
sound_from x some few done b e =
    let b0 = le_yes (negsuc 32766) x.slave_begin (omega (arith, ints)) in
    let b1 = le_yes x.slave_begin (pos 32767) (omega (arith, ints)) in
    let e0 = le_yes (negsuc 32766) x.slave_end (omega (arith, ints)) in
    let e1 = le_yes x.slave_end (pos 32767) (omega (arith, ints)) in
    and_from _ _ (lt-ltb 0 x.total_epoch some) (and_from _ _ (le-leb x.total_epoch 65534 few) (and_from _ _ (le-leb x.epoch x.total_epoch done) (and_from _ _ b0 (and_from _ _ b1 (and_from _ _ e0 e1)))))

module _ (m low high : ℤ) (e : Side) (alive : live m e ≡ true) (a0 : nat_abs e.m0 ≤ 32767) (a1 : nat_abs e.m1 ≤ 32767) (al : nat_abs low ≤ 32767) (ah : nat_abs high ≤ 32767) (l0 : low ≤ℤ e.s0) (h0 : e.s0 ≤ℤ high) (l1 : low ≤ℤ e.s1) (h1 : e.s1 ≤ℤ high) where
  -- a live side makes a sound edge
  edge_sound : Sound (edge_at m e)
  edge_sound =
      let l = live_out m e alive in
      let from = l.0 in
      let to = l.1 in
      sound_from (edge_at m e) (omega (arith, ints)) (omega (arith, ints)) (omega (arith, ints)) (omega (arith, ints)) (omega (arith, ints))

  -- its floor is not past the greater end of the box
  pub floor_high : eF (edge_at m e) ≤ℤ high
  floor_high = let l = live_out m e alive in subst (λ (z : ℤ). z ≤ℤ high) (sym (floor_is m e alive)) (floor_upto m e l.0 l.1 high h0 h1)

  -- nor is its ceil
  pub ceil_high : eC (edge_at m e) ≤ℤ high
  ceil_high = let l = live_out m e alive in subst (λ (z : ℤ). z ≤ℤ high) (sym (ceil_is m e alive)) (ceil_upto m e l.0 l.1 high h0 h1)

  -- it lies among the marks of the box
  pub edge_among : Among low (natural (high -ℤ low) + 2) (edge_at m e)
  edge_among =
      let l = live_out m e alive in
      let n = natural_is (high -ℤ low) (omega (arith, ints)) in
      let h = floor_high in
      record { sound = edge_sound; from = subst (λ (z : ℤ). low ≤ℤ z) (sym (floor_is m e alive)) (floor_from m e l.0 l.1 low l0 l1); upto = omega (arith, ints) }

-- ---- the edge that comes first
-- what comes no later has no greater floor
no_greater : (a b : ℤ) (o : Ordering) → is_le (ordering_then (int_cmp a b) o) ≡ true → a ≤ℤ b
no_greater a b o h = by_lt_z b a (λ k. absurd (true≢false (sym h ∙ ap (λ (t : Bool). is_le (ordering_then (cond t Less (cond (lt_z b a) Greater Equal)) o)) (lt_no a b (omega (arith, ints))) ∙ ap (λ (t : Bool). is_le (ordering_then (cond t Greater Equal) o)) (lt_yes b a k)))) (λ k. k)

-- of two sound edges the one that comes no later has no greater floor
floor_first : (x y : Edge) → Sound x → Sound y → up_to edge_order x y ≡ true → eF x ≤ℤ eF y
floor_first x y p q h =
    let k : floor_key x ≤ℤ floor_key y = no_greater (floor_key x) (floor_key y) (ordering_then (int_cmp (ceil_key x) (ceil_key y)) (nan_last_cmp (place_key x) (place_key y))) h in
    let a : floor_key x ≡ eF x = ap (λ (b : Bool). cond b (eF x) (pos 0)) p in
    let b : floor_key y ≡ eF y = ap (λ (b : Bool). cond b (eF y) (pos 0)) q in
    subst (λ (z : ℤ). eF x ≤ℤ z) b (subst (λ (z : ℤ). z ≤ℤ floor_key y) a k)

-- the edge that comes first has the least floor
pub first_least : (es : List Edge) (k : ℕ) (d : Edge) → AllByRecursion Sound es → k < length es → ComesFirst (up_to edge_order) es (length es) k → AllByRecursion (λ e. eF (get_or es k d) ≤ℤ eF e) es
first_least es k d sound l first =
    All-from_get_or (λ e. eF (get_or es k d) ≤ℤ eF e) es d
    (λ j n. floor_first (get_or es k d) (get_or es j d) (All-get_or Sound es k d l sound) (All-get_or Sound es j d n sound) (first.no_later j d n))

-- ---- the pixels of edges
-- a mark of 1 for a covered cell and 0 for a bare one tells the bare ones
bare_is : (a : Axis) (m low s : ℤ) (ms : List ℕ) (k : BackendColor) (es : List Side) → get_or ms (index_of low s) 0 ≡ cond (covered es m s) 1 0 → bare_by a m low ms s k ≡ bare a es m s k
bare_is a m low s ms k es told = ap (λ (n : ℕ). cond (eqb n 0) ((turned a (m, s), k) ∷ []) []) told ∙ go (covered es m s)
  where
    go : (b : Bool) → ◌≡◌ {A = List Pixel} (cond (eqb (cond b 1 0) 0) ((turned a (m, s), k) ∷ []) []) (cond b [] ((turned a (m, s), k) ∷ []))
    go true = refl
    go false = refl

module _ (a : Axis) (m low high start : ℤ) (ms : List ℕ) (c : BackendColor) (es : List Side) (alive : (e : Side) → Memᴰ e es → live m e ≡ true) (told : (s : ℤ) → start ≤ℤ s → s ≤ℤ high → get_or ms (index_of low s) 0 ≡ cond (covered es m s) 1 0) where
  -- by marks of the covered cells the edge of a live side lays what the side does
  pub rim_is : (e : Side) → Memᴰ e es → start ≤ℤ floor_at m e → ceil_at m e ≤ℤ high → rim a m low ms c (edge_at m e) ≡ edge mixes a c es m e
  rim_is e n from to =
      ap (λ (z : ℤ). laid z (eC (edge_at m e))) (floor_is m e (alive e n))
      ∙ ap (laid (floor_at m e)) (ceil_is m e (alive e n))
      ∙ go (same_z (floor_at m e) (ceil_at m e)) refl
    where
      laid : ℤ → ℤ → List Pixel
      laid f t = cond (same_z f t) [] (bare_by a m low ms f (mixed c (mixes a m e).0) ++ bare_by a m low ms t (mixed c (mixes a m e).1))

      order : floor_at m e ≤ℤ ceil_at m e
      order = let l = live_out m e (alive e n) in floor_ceil m e l.0 l.1

      bare_at : (s : ℤ) (k : BackendColor) → floor_at m e ≤ℤ s → s ≤ℤ ceil_at m e → bare_by a m low ms s k ≡ bare a es m s k
      bare_at s k f t = bare_is a m low s ms k es (told s (omega (arith, ints)) (omega (arith, ints)))

      go : (b : Bool) → same_z (floor_at m e) (ceil_at m e) ≡ b → cond b [] (bare_by a m low ms (floor_at m e) (mixed c (mixes a m e).0) ++ bare_by a m low ms (ceil_at m e) (mixed c (mixes a m e).1)) ≡ edge mixes a c es m e
      go true w = sym (edge_whole mixes a c es m e n (alive e n) (same_out (floor_at m e) (ceil_at m e) w))
      go false w =
          let h = order in
          ap (λ (ps : List Pixel). ps ++ bare_by a m low ms (ceil_at m e) (mixed c (mixes a m e).1)) (bare_at (floor_at m e) (mixed c (mixes a m e).0) (omega (arith, ints)) h)
          ∙ ap (λ (ps : List Pixel). bare a es m (floor_at m e) (mixed c (mixes a m e).0) ++ ps) (bare_at (ceil_at m e) (mixed c (mixes a m e).1) h (omega (arith, ints)))

  -- so the edges lay in turn what the sides do
  pub rims_are : ((e : Side) → Memᴰ e es → (start ≤ℤ floor_at m e) × (ceil_at m e ≤ℤ high)) → in_turn (rim a m low ms c) (map (edge_at m) es) ≡ in_turn (edge mixes a c es m) es
  rims_are within = turn_map (edge_at m) (rim a m low ms c) (edge mixes a c es m) es (λ e n. rim_is e n (within e n).0 (within e n).1)

-- ---- the sides that are kept
-- the sides kept as live are live
pub kept_alive : (m : ℤ) (es : List Side) (e : Side) → Memᴰ e (filter (live m) es) → live m e ≡ true
kept_alive m es e n = (kept_in (live m) e es n).1
