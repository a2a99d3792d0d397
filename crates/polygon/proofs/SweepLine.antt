-- One sweep line: where its edges stand, what its marks say, and which pixels it lays.
use Rattle.std.proofs.Common.{◌≡◌, ℕ, zero, suc, ◌+◌, ◌-◌, ◌<◌, ◌≤◌, ◌⊎◌, inl, inr, Bool, cond, List, [], ◌∷◌, ◌++◌, map, length, get_or, take, drop, ℤ, pos, ◌+ℤ◌, ◌-ℤ◌, nat_abs, ◌≤ℤ◌, ◌<ℤ◌, Some, None, Ok, Err, filter, sym, refl, ap, ◌∙◌, subst, arith, w32, SFits, to_z, of_z, rules}
use mathlib.Core.List.{Memᴰ}
use borrow.Rule.Slice.PartMut.{put_mid}
use Rattle.std.specs.List.{AllByRecursion, ContainsAt}
use Rattle.std.proofs.lemmas.Int.{ints, to_z-of_z}
use Rattle.std.proofs.lemmas.List.{length-take, length-drop, places}
use Rattle.std.proofs.ByRecursion.{All-get_or, All-weaker, All-map, all-has, folded_min_z_bounds, folded_min_z_reached}
use lib.Ieee as Ieee
use Rattle.plotters_backend.specs.Color.{zero as none}
use Rattle.plotters_backend.specs.Surface.{Surface}
use Rattle.plotters_backend.specs.Run.{Answer, Pixel, all, run}
use Rattle.plotters_backend.specs.declared.error.DrawingErrorKind.{DrawingErrorKind}
use Rattle.plotters_backend.proofs.Runs.{join_ok, join_err}
use Rattle.plotters_backend.specs.declared.style.BackendColor.{BackendColor}
use Rattle.edges.specs.declared.side.Edge.{Edge}
use Rattle.edges.specs.Order.{edge_order}
use Rattle.edges.specs.Side.{Sound}
use Rattle.edges.specs.Side.{floor_at as eF}
use Rattle.search.specs.First.{ComesFirst, up_to}
use Rattle.outline.specs.Filling.{cells_in, covered, edge, sweep_line}
use Rattle.outline.specs.Lists.{from_to, in_turn, natural, rising}
use Rattle.outline.specs.Outline.{least}
use Rattle.outline.specs.Sweep.{live}
use Rattle.plotters_backend.specs.declared.axis.Axis.{Axis}
use Rattle.outline.specs.declared.sweep.Side.{Side}
use Rattle.outline.proofs.Boxes.{all_in}
use Rattle.outline.proofs.Counting.{kept_in}
use Rattle.outline.proofs.Rising.{natural_is, first_from}
use Rattle.polygon.specs.Live.{edge_at, live_edges}
use Rattle.polygon.specs.Marking.{Among, Marked, covers, index_of}
use Rattle.polygon.specs.Rims.{mixes, rim}
use Rattle.polygon.specs.Sweeping.{Between, Sweepable, least_floor}
use Rattle.polygon.specs.Walking.{Walkable, covered_cells, covered_from, inked}
use Rattle.polygon.proofs.Bridge.{floor_is, ceil_is, covering_is, edge_among, floor_high, ceil_high, first_least, rims_are, kept_alive}
use Rattle.polygon.proofs.MarkLaw.{covers_is, bare_before}

-- what holds of every member holds of each
pub all_from : {X : Type 0} (P : X → Type 0) (xs : List X) → ((x : X) → Memᴰ x xs → P x) → AllByRecursion P xs
all_from P [] f = tt
all_from P (x ∷ xs) f = (f x (Memᴰ.head refl), all_from P xs (λ y m. f y (Memᴰ.tail m)))

-- what holds of each edge made of a list holds of what it is made of
all_of_map : {X Y : Type 0} (P : Y → Type 0) (f : X → Y) (xs : List X) → AllByRecursion P (map f xs) → AllByRecursion (λ x. P (f x)) xs
all_of_map P f [] a = tt
all_of_map P f (x ∷ xs) a = (a.0, all_of_map P f xs a.1)

-- ---- where the walk starts
-- no edge has a smaller floor than the least one
floors_least : (es : List Edge) (start : ℤ) → Some start ≡ least_floor es → AllByRecursion (λ e. start ≤ℤ eF e) es
floors_least [] start from = absurd (let z : ◌≡◌ {A = ℕ} 0 1 = cc in omega arith)
floors_least (e ∷ es) start from = all_of_map (λ z. start ≤ℤ z) eF (e ∷ es) (folded_min_z_bounds (eF e) (map eF es) start (let same : start ≡ least (map eF (e ∷ es)) = cc in same))

-- what holds of each floor holds of the least one
floor_reached : (P : ℤ → Type 0) (es : List Edge) (start : ℤ) → Some start ≡ least_floor es → AllByRecursion (λ e. P (eF e)) es → P start
floor_reached P [] start from a = absurd (let z : ◌≡◌ {A = ℕ} 0 1 = cc in omega arith)
floor_reached P (e ∷ es) start from a = go (folded_min_z_reached (eF e) (map eF es) start (let same : start ≡ least (map eF (e ∷ es)) = cc in same))
  where
    go : (start ≡ eF e) ⊎ ContainsAt (map eF es) start → P start
    go (inl s) = subst P (sym s) a.0
    go (inr m) = all-has P (map eF es) start (All-map P eF es a.1) m

-- the floor of the edge that comes first is the least one
pub first_floor : (es : List Edge) (k : ℕ) (d : Edge) → AllByRecursion Sound es → (k < length es) × ComesFirst (up_to edge_order) es (length es) k → Some (eF (get_or es k d)) ≡ least_floor es
first_floor [] k d sound f = absurd (let l = f.0 in omega arith)
first_floor (e ∷ es) k d sound f =
    let all = first_least (e ∷ es) k d sound f.0 f.1 in
    let low = floor_reached (λ z. eF (get_or (e ∷ es) k d) ≤ℤ z) (e ∷ es) (least (map eF (e ∷ es))) refl all in
    let high = All-get_or (λ x. least (map eF (e ∷ es)) ≤ℤ eF x) (e ∷ es) k d f.0 (floors_least (e ∷ es) (least (map eF (e ∷ es))) refl) in
    let same : eF (get_or (e ∷ es) k d) ≡ least (map eF (e ∷ es)) = omega (arith, ints) in
    ap Some same

-- an element of the part that was written
mid_at : (i n : ℕ) (xs ys : List ℕ) (j : ℕ) → i ≤ length xs → j < length ys → get_or (put_mid i n xs ys) (i + j) 0 ≡ get_or ys j 0
mid_at i n xs ys j h l = search (rules, places)

-- a list is as long as it was when a part of it is written
pub written_long : (i : ℕ) (xs ys : List ℕ) → i ≤ length xs - 1 → length ys ≡ length xs - 1 - i → length (put_mid i (length xs - 1 - i) xs ys) ≡ length xs
written_long i xs ys h l = search (rules, places)

-- a filter by tests that agree on each number of a range
kept_same : (p q : ℤ → Bool) (n : ℕ) (a : ℤ) → ((z : ℤ) → a ≤ℤ z → z <ℤ (a +ℤ pos n) → p z ≡ q z) → filter p (rising a n) ≡ filter q (rising a n)
kept_same p q zero a f = refl
kept_same p q (suc n) a f =
    ap (λ (b : Bool). cond b (a ∷ filter p (rising (a +ℤ pos 1) n)) (filter p (rising (a +ℤ pos 1) n))) (f a (omega (arith, ints)) (omega (arith, ints)))
    ∙ ap (λ (zs : List ℤ). cond (q a) (a ∷ zs) zs) (kept_same p q n (a +ℤ pos 1) (λ z l h. f z (omega (arith, ints)) (omega (arith, ints))))

-- a filter that keeps nothing below start
kept_skip : (q : ℤ → Bool) (n : ℕ) (low start high : ℤ) → low +ℤ pos n ≡ start → start ≤ℤ high → ((z : ℤ) → z <ℤ start → q z ≡ mathlib.Core.Bool.false) → filter q (from_to low high) ≡ filter q (from_to start high)
kept_skip q zero low start high e h none = let f : low ≡ start = omega (arith, ints) in ap (λ (z : ℤ). filter q (from_to z high)) f
kept_skip q (suc n) low start high e h none =
    ap (filter q) (first_from low high (omega (arith, ints)))
    ∙ ap (λ (b : Bool). cond b (low ∷ filter q (from_to (low +ℤ pos 1) high)) (filter q (from_to (low +ℤ pos 1) high))) (none low (omega (arith, ints)))
    ∙ kept_skip q n (low +ℤ pos 1) start high (omega (arith, ints)) h none

-- no side covers anything
kept_none : (m : ℤ) (zs : List ℤ) → filter (covered [] m) zs ≡ []
kept_none m [] = refl
kept_none m (z ∷ zs) = kept_none m zs

no_cells : (a : Axis) (c : BackendColor) (m : ℤ) (b : Bool) → cond b [] (cells_in a m c []) ≡ []
no_cells a c m mathlib.Core.Bool.true = refl
no_cells a c m mathlib.Core.Bool.false = refl

-- a sweep line without a live side lays nothing
pub bare_line : (a : Axis) (c : BackendColor) (m low high : ℤ) (es : List Side) → None ≡ least_floor (map (edge_at m) es) → sweep_line mixes a c low high es m ≡ []
bare_line a c m low high [] e = ap (λ (ps : List Pixel). ps ++ []) (ap (λ (zs : List ℤ). cond (Ieee.eq c.alpha none) [] (cells_in a m c zs)) (kept_none m (from_to low high)) ∙ no_cells a c m (Ieee.eq c.alpha none))
bare_line a c m low high (s ∷ es) e = absurd (let z : ◌≡◌ {A = ℕ} 0 1 = cc in omega arith)

module _ (m low high : ℤ) (ss : List Side) (W : Sweepable low high ss) where
  abbrev lives : List Side
  lives = filter (live m) ss

  abbrev edges : List Edge
  edges = live_edges m ss

  alive : (e : Side) → Memᴰ e lives → live m e ≡ mathlib.Core.Bool.true
  alive = kept_alive m ss

  between : (e : Side) → Memᴰ e lives → Between low high e
  between e k = all_in (Between low high) e ss W.held (kept_in (live m) e ss k).0

  -- every edge has its marks among them
  pub among : (n : ℕ) → n ≡ natural (high -ℤ low) + 2 → AllByRecursion (Among low n) edges
  among n e = All-map (Among low n) (edge_at m) lives (all_from (λ s. Among low n (edge_at m s)) lives (λ s k.
      let b = between s k in
      subst (λ (j : ℕ). Among low j (edge_at m s)) (sym e) (edge_among m low high s (alive s k) b.begin_near b.end_near W.low_near W.high_near b.begin_low b.begin_high b.end_low b.end_high)))

  pub sound : AllByRecursion Sound edges
  sound = All-weaker (Among low (natural (high -ℤ low) + 2)) Sound (λ e a. a.sound) edges (among _ refl)

  -- and stands at high or before
  tops : AllByRecursion (λ e. eF e ≤ℤ high) edges
  tops = All-map (λ e. eF e ≤ℤ high) (edge_at m) lives (all_from (λ s. eF (edge_at m s) ≤ℤ high) lives (λ s k.
      let b = between s k in
      floor_high m low high s (alive s k) b.begin_near b.end_near W.low_near W.high_near b.begin_low b.begin_high b.end_low b.end_high))

  module _ (start : ℤ) (from : Some start ≡ least_floor edges) where
    lowest : AllByRecursion (λ e. start ≤ℤ eF e) edges
    lowest = floors_least edges start from

    -- the walk begins at the lowest cell or after it
    pub start_low : low ≤ℤ start
    start_low = floor_reached (λ z. low ≤ℤ z) edges start from (All-weaker (Among low (natural (high -ℤ low) + 2)) (λ e. low ≤ℤ eF e) (λ e a. a.from) edges (among _ refl))

    -- and at the greatest or before it
    pub start_high : start ≤ℤ high
    start_high = floor_reached (λ z. z ≤ℤ high) edges start from tops

    module _ (ms : List ℕ) (marked : Marked edges low ms) (long : length ms ≡ natural (high -ℤ low) + 2) (i n : ℕ) (at : low +ℤ pos i ≡ start) (some : n ≡ length ms - 1 - i) where
      abbrev part : List ℕ
      part = take n (drop i ms)

      width : natural (high -ℤ low) + 2 ≡ i + n + 1
      width = let a = start_low in let b = start_high in let w = natural_is (high -ℤ low) (omega (arith, ints)) in omega (arith, ints)

      long_part : length part ≡ n
      long_part = let w = width in simp (length-take, length-drop) (omega arith)

      last : (start +ℤ pos n) -ℤ pos 1 ≡ high
      last = let a = start_low in let b = start_high in let w = natural_is (high -ℤ low) (omega (arith, ints)) in let v = width in omega (arith, ints)

      -- the marks say of each cell whether it is covered
      said : (j : ℕ) → j < n → covers part j ≡ covered lives m (low +ℤ pos (i + j))
      said j l =
          let w = width in
          covers_is edges low ms i marked (subst (λ (z : ℤ). AllByRecursion (λ e. z ≤ℤ eF e) edges) (sym at) lowest) n j l (omega arith)
          ∙ covering_is lives m (low +ℤ pos (i + j)) alive

      cell_at : (z : ℤ) → start ≤ℤ z → z ≤ℤ high → (natural (z -ℤ start) < n) × (low +ℤ pos (i + natural (z -ℤ start)) ≡ z)
      cell_at z a b =
          let t = natural_is (z -ℤ start) (omega (arith, ints)) in
          let v = last in
          (omega (arith, ints), omega (arith, ints))

      said_at : (z : ℤ) → start ≤ℤ z → z ≤ℤ high → covered_from start part z ≡ covered lives m z
      said_at z a b = let r = cell_at z a b in said (natural (z -ℤ start)) r.0 ∙ ap (covered lives m) r.1

      before_none : (z : ℤ) → z <ℤ start → covered lives m z ≡ mathlib.Core.Bool.false
      before_none z l = sym (covering_is lives m z alive) ∙ bare_before edges start z lowest l

      -- so the walk goes over the covered cells of the whole line
      pub walk_cells : covered_cells start part ≡ filter (covered lives m) (from_to low high)
      walk_cells =
          ap (λ (j : ℕ). filter (covered_from start part) (from_to start ((start +ℤ pos j) -ℤ pos 1))) long_part
          ∙ ap (λ (z : ℤ). filter (covered_from start part) (from_to start z)) last
          ∙ kept_same (covered_from start part) (covered lives m) (natural ((high +ℤ pos 1) -ℤ start)) start (λ z a b. said_at z a (let t = natural_is ((high +ℤ pos 1) -ℤ start) (let c = start_high in omega (arith, ints)) in omega (arith, ints)))
          ∙ sym (kept_skip (covered lives m) i low start high at start_high before_none)

      -- what stands in the marks after the walk
      pub told : (walked : List ℕ) → length walked ≡ n → ((j : ℕ) → j < n → get_or walked j 0 ≡ cond (covers part j) 1 0) → (s : ℤ) → start ≤ℤ s → s ≤ℤ high → get_or (put_mid i n ms walked) (index_of low s) 0 ≡ cond (covered lives m s) 1 0
      told walked l f s a b =
          let r = cell_at s a b in
          let x = r.0 in
          let y = r.1 in
          let w = width in
          let c = start_low in
          let t = natural_is (s -ℤ low) (omega (arith, ints)) in
          let j = natural (s -ℤ start) in
          let e : natural (s -ℤ low) ≡ i + j = omega (arith, ints) in
          ap (λ (q : ℕ). get_or (put_mid i n ms walked) q 0) e
          ∙ mid_at i n ms walked j (omega arith) (omega arith)
          ∙ f j x
          ∙ ap (λ (q : Bool). cond q 1 0) (said j x ∙ ap (covered lives m) y)

      -- the pixels of the edges are those of the live sides
      pub rims : (a : Axis) (c : BackendColor) (walked : List ℕ) → length walked ≡ n → ((j : ℕ) → j < n → get_or walked j 0 ≡ cond (covers part j) 1 0) → in_turn (rim a m low (put_mid i n ms walked) c) edges ≡ in_turn (edge mixes a c lives m) lives
      rims a c walked l f = rims_are a m low high start (put_mid i n ms walked) c lives alive (told walked l f) (λ s k.
          let b = between s k in
          let u = all_in (λ e. start ≤ℤ eF (edge_at m e)) s lives (all_of_map (λ e. start ≤ℤ eF e) (edge_at m) lives lowest) k in
          let v = ceil_high m low high s (alive s k) b.begin_near b.end_near W.low_near W.high_near b.begin_low b.begin_high b.end_low b.end_high in
          (subst (λ (z : ℤ). start ≤ℤ z) (floor_is m s (alive s k)) u, subst (λ (z : ℤ). z ≤ℤ high) (ceil_is m s (alive s k)) v))

-- what is known of a sweep line once its edges es are marked in ms, and the walk is to start at the cell start
pub record Found (m low high : ℤ) (ss : List Side) (es : List Edge) (ms : List ℕ) (start : ℤ) : Type 0 where
  pub is : es ≡ live_edges m ss
  pub marked : Marked es low ms
  pub long : length ms ≡ natural (high -ℤ low) + 2
  pub from : Some start ≡ least_floor es

-- the live edges are the front of the pool, as a program names it
pub front : (m : ℤ) (ss : List Side) (count : ℕ) (pool : List Edge) → nat_abs m ≤ 32767 → take count pool ≡ live_edges (to_z w32 (of_z w32 m)) ss → take (count - 0) pool ≡ live_edges m ss
front m ss count pool near e = let n : count - 0 ≡ count = omega arith in ap (λ (j : ℕ). take j pool) n ∙ e ∙ ap (λ (z : ℤ). live_edges z ss) (to_z-of_z w32 m (omega (arith, ints)))

module _ (m low high : ℤ) (ss : List Side) (W : Sweepable low high ss) (es : List Edge) (ms : List ℕ) (start : ℤ) (f : Found m low high ss es ms start) where
  from_live : Some start ≡ least_floor (live_edges m ss)
  from_live = f.from ∙ ap least_floor f.is

  -- where the walk starts
  pub starts : (low ≤ℤ start) × (start ≤ℤ high)
  starts = (start_low m low high ss W start from_live, start_high m low high ss W start from_live)

  module _ (i : ℕ) (mark : i ≡ index_of low (to_z w32 (of_z w32 start))) where
    -- the start as a program hands it on
    same : to_z w32 (of_z w32 start) ≡ start
    same = let a = starts.0 in let b = starts.1 in let l = W.low_near in let h = W.high_near in to_z-of_z w32 start (omega (arith, ints))

    -- the marks that are walked over
    abbrev pub walked_over : List ℕ
    walked_over = take (length ms - 1 - i) (drop i ms)

    at : low +ℤ pos i ≡ start
    at = let s = starts.0 in let n = natural_is (start -ℤ low) (omega (arith, ints)) in let k = mark ∙ ap (index_of low) same in omega (arith, ints)

    -- and how many they are
    pub parts : (i ≤ length ms - 1) × (length walked_over ≡ length ms - 1 - i) × (start +ℤ pos (length ms - 1 - i) ≡ high +ℤ pos 1)
    parts =
        let s = starts in
        let a = s.0 in
        let b = s.1 in
        let l = f.long in
        let e = at in
        let w = natural_is (high -ℤ low) (omega (arith, ints)) in
        (omega (arith, ints), simp (length-take, length-drop) (omega (arith, ints)), omega (arith, ints))

    -- the walk stays within 32,767 of 0
    pub walks : nat_abs m ≤ 32767 → Walkable m (to_z w32 (of_z w32 start)) (length walked_over)
    walks near =
        let s = starts in
        let a = s.0 in
        let b = s.1 in
        let l = W.low_near in
        let h = W.high_near in
        let p = parts in
        let n = p.1 in
        let e = p.2 in
        subst (λ (z : ℤ). Walkable m z (length walked_over)) (sym same) (record { line = near; start = omega (arith, ints); stop = omega (arith, ints) })

    module _ {E : Type 0} (S : Surface E) (a : Axis) (c : BackendColor) where
      -- the line, as its two parts
      abbrev whole : List Pixel
      whole = sweep_line mixes a c low high (filter (live m) ss) m

      marked_live : Marked (live_edges m ss) low ms
      marked_live = subst (λ (xs : List Edge). Marked xs low ms) f.is f.marked

      cells : covered_cells start walked_over ≡ filter (covered (filter (live m) ss) m) (from_to low high)
      cells = walk_cells m low high ss W start from_live ms marked_live f.long i (length ms - 1 - i) at refl

      module _ (h h' : S.Held) (r : Answer E) (e : (r, h') ≡ run S h (all (inked a m c (covered_cells (to_z w32 (of_z w32 start)) walked_over)))) where
        walk : (r, h') ≡ run S h (all (inked a m c (filter (covered (filter (live m) ss) m) (from_to low high))))
        walk = e ∙ ap (λ (z : ℤ). run S h (all (inked a m c (covered_cells z walked_over)))) same ∙ ap (λ (zs : List ℤ). run S h (all (inked a m c zs))) cells

        -- a walk that was refused ends the line
        pub line_stop : (j : DrawingErrorKind E) → r ≡ Err j → (Err j, h') ≡ run S h (all whole)
        line_stop j bad = sym (join_err S h h' (inked a m c (filter (covered (filter (live m) ss) m) (from_to low high))) (in_turn (edge mixes a c (filter (live m) ss) m) (filter (live m) ss)) r j walk bad)

        -- after a walk the line goes on with the pixels of its edges
        pub line_laid : (walked : List ℕ) → length walked ≡ length walked_over → ((j : ℕ) → j < length walked_over → get_or walked j 0 ≡ cond (covers walked_over j) 1 0) → (h'' : S.Held) (q : Answer E) → r ≡ Ok tt → (q, h'') ≡ run S h' (all (in_turn (rim a m low (put_mid i (length ms - 1 - i) ms walked) c) es)) → (q, h'') ≡ run S h (all whole)
        line_laid walked l t h'' q ok u =
            let many = parts.1 in
            let v = rims m low high ss W start from_live ms marked_live f.long i (length ms - 1 - i) at refl a c walked (l ∙ many) (λ j b. t j (omega arith)) in
            u
            ∙ ap (λ (xs : List Edge). run S h' (all (in_turn (rim a m low (put_mid i (length ms - 1 - i) ms walked) c) xs))) f.is
            ∙ ap (λ (ps : List Pixel). run S h' (all ps)) v
            ∙ sym (join_ok S h h' (inked a m c (filter (covered (filter (live m) ss) m) (from_to low high))) (in_turn (edge mixes a c (filter (live m) ss) m) (filter (live m) ss)) r walk ok)

-- ---- numbers as a program has them
-- a near number fits 32 bits
pub near_fits : (z : ℤ) → nat_abs z ≤ 32767 → SFits w32 z
near_fits z h = omega (arith, ints)

pub near_upto : (z : ℤ) → nat_abs z ≤ 32767 → z ≤ℤ pos 32767
near_upto z h = omega (arith, ints)

-- and it is near
pub amid_near : (low high z : ℤ) → nat_abs low ≤ 32767 → nat_abs high ≤ 32767 → low ≤ℤ z → z ≤ℤ high → nat_abs z ≤ 32767
amid_near low high z a b l h = omega (arith, ints)
