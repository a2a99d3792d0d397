-- A whole fill: its box, its sweep lines, and when it is flat.
use Rattle.std.proofs.Common.{◌≡◌, ℕ, ◌+◌, ◌-◌, ◌≤◌, Bool, true, false, cond, ◌||◌, ltb, ◌⊎◌, List, [], ◌∷◌, ◌++◌, map, length, take, drop, ℤ, pos, ◌+ℤ◌, ◌-ℤ◌, nat_abs, ◌≤ℤ◌, ◌<ℤ◌, Some, None, Ok, Err, filter, Option, sym, refl, ap, ◌∙◌, subst, inl, inr, arith, T, w32, w64, Fits, SFits, to_z, of_z, ltb-false}
use mathlib.Core.List.{Memᴰ}
use Rattle.std.proofs.lemmas.List.{length-take}
use Rattle.std.proofs.lemmas.Slice.{drop-append-drop}
use lib.Signed.{le_z, lt_z, non_neg}
use Rattle.std.specs.List.{ContainsAt, AllByRecursion}
use Rattle.std.proofs.ByRecursion.{all-has, folded_min_z_reached, folded_max_z_reached}
use Rattle.std.proofs.lemmas.Bool.{and_from, or_left, or_parts, or_right}
use Rattle.std.proofs.lemmas.Int.{ints, by_lt_z, to_z-of_z}
use Rattle.plotters_backend.specs.Surface.{Surface, Lawful}
use Rattle.plotters_backend.specs.Run.{Answer, Pixel, all, refused, run}
use Rattle.plotters_backend.specs.declared.error.Refusal.TheVariants.{Far, Many, Pool}
use Rattle.plotters_backend.specs.declared.error.Refusal.{Refusal}
use Rattle.plotters_backend.specs.declared.style.BackendColor.{BackendColor}
use Rattle.plotters_backend.specs.declared.error.DrawingErrorKind.{DrawingErrorKind}
use Rattle.plotters_backend.proofs.Runs.{join_ok, join_err}
use Rattle.outline.specs.Filling.{NoHole, NoSpill, swept, swept_by, sweep_line}
use Rattle.outline.specs.Lists.{any, from_to, in_turn, natural}
use Rattle.outline.specs.Outline.{Point, Outline, least, greatest, least_corner, greatest_corner, width, height, flat}
use Rattle.outline.specs.Sweep.{axis, live, sides}
use Rattle.plotters_backend.specs.Axis.{turned}
use Rattle.plotters_backend.specs.declared.axis.Axis.{Axis}
use Rattle.plotters_backend.specs.declared.axis.Axis.TheVariants.{Columns, Rows}
use Rattle.outline.specs.declared.sweep.Side.{Side}
use Rattle.outline.proofs.Boxes.{boxed, side_held}
use Rattle.outline.proofs.HoleSpill.{no_hole, no_spill}
use Rattle.outline.proofs.Rising.{natural_is, first_from}
use Rattle.rasterizer.specs.Judge.{far, near}
use Rattle.rasterizer.specs.Line.{Near, inner_line, thin}
use Rattle.polygon.specs.Polygon.{Lent, Spared, box_of, fill, fill_pixels, fill_refusal, flat_line, judged}
use Rattle.polygon.specs.Rims.{mixes}
use Rattle.polygon.proofs.RunLines.{near_cell}
use Rattle.polygon.specs.Sweeping.{Between, Sweepable}
use Rattle.polygon.proofs.SweepLine.{all_from, amid_near, near_fits}

-- ---- one sweep line after the other
module _ {E : Type 0} (S : Surface E) (f : ℤ → List Pixel) (first last : ℤ) where
  -- what is left of the sweep lines when the loop comes to m
  pub record LinesLeft (m : ℤ) (h₀ h : S.Held) : Type 0 where
    pub low : first ≤ℤ m
    pub left : run S h₀ (all (in_turn f (from_to first last))) ≡ run S h (all (in_turn f (from_to m last)))

  pub lines_more : (m : ℤ) (h₀ h h' : S.Held) (r : Answer E) → LinesLeft m h₀ h → m ≤ℤ last → (r, h') ≡ run S h (all (f m)) → r ≡ Ok tt → LinesLeft (m +ℤ pos 1) h₀ h'
  lines_more m h₀ h h' r l le e ok =
      let low = l.low in
      record {
        low = omega (arith, ints);
        left = l.left ∙ ap (λ (zs : List ℤ). run S h (all (in_turn f zs))) (first_from m last le) ∙ join_ok S h h' (f m) (in_turn f (from_to (m +ℤ pos 1) last)) r e ok;
      }

  pub lines_stop : (m : ℤ) (h₀ h h' : S.Held) (r : Answer E) (k : DrawingErrorKind E) → LinesLeft m h₀ h → m ≤ℤ last → (r, h') ≡ run S h (all (f m)) → r ≡ Err k → (Err k, h') ≡ run S h₀ (all (in_turn f (from_to first last)))
  lines_stop m h₀ h h' r k l le e bad = sym (l.left ∙ ap (λ (zs : List ℤ). run S h (all (in_turn f zs))) (first_from m last le) ∙ join_err S h h' (f m) (in_turn f (from_to (m +ℤ pos 1) last)) r k e bad)

-- ---- the box
-- a number of a list of near ones, found by its place, is near
reached : (z r : ℤ) (zs : List ℤ) → nat_abs z ≤ 32767 → AllByRecursion (λ y. nat_abs y ≤ 32767) zs → (r ≡ z) ⊎ ContainsAt zs r → nat_abs r ≤ 32767
reached z r zs h a (inl e) = subst (λ (y : ℤ). nat_abs y ≤ 32767) (sym e) h
reached z r zs h a (inr e) = all-has (λ y. nat_abs y ≤ 32767) zs r a e

least_near : (z : ℤ) (zs : List ℤ) → nat_abs z ≤ 32767 → AllByRecursion (λ y. nat_abs y ≤ 32767) zs → nat_abs (least (z ∷ zs)) ≤ 32767
least_near z zs h a = reached z (least (z ∷ zs)) zs h a (folded_min_z_reached z zs (least (z ∷ zs)) refl)

greatest_near : (z : ℤ) (zs : List ℤ) → nat_abs z ≤ 32767 → AllByRecursion (λ y. nat_abs y ≤ 32767) zs → nat_abs (greatest (z ∷ zs)) ≤ 32767
greatest_near z zs h a = reached z (greatest (z ∷ zs)) zs h a (folded_max_z_reached z zs (greatest (z ∷ zs)) refl)

-- one coordinate of near corners
coordinates : (part : Point → ℤ) → ((p : Point) → Near p → nat_abs (part p) ≤ 32767) → (o : Outline) → AllByRecursion Near o → AllByRecursion (λ y. nat_abs y ≤ 32767) (map part o)
coordinates part f [] a = tt
coordinates part f (p ∷ o) a = (f p a.0, coordinates part f o a.1)

-- the box of near corners is near
pub record NearBox (o : Outline) : Type 0 where
  pub least_is : Near (least_corner o)
  pub greatest_is : Near (greatest_corner o)
  pub across : (least_corner o).0 ≤ℤ (greatest_corner o).0
  pub down : (least_corner o).1 ≤ℤ (greatest_corner o).1

pub near_box : (p : Point) (ps : Outline) → AllByRecursion Near (p ∷ ps) → NearBox (p ∷ ps)
near_box p ps a =
    let xs = coordinates (λ q. q.0) (λ q n. n.0) ps a.1 in
    let ys = coordinates (λ q. q.1) (λ q n. n.1) ps a.1 in
    let b = boxed Columns (p ∷ ps) p (Memᴰ.head refl) in
    let l = b.m_low in
    let h = b.m_high in
    let t = b.s_low in
    let u = b.s_high in
    record {
      least_is = (least_near p.0 (map (λ q. q.0) ps) a.0.0 xs, least_near p.1 (map (λ q. q.1) ps) a.0.1 ys);
      greatest_is = (greatest_near p.0 (map (λ q. q.0) ps) a.0.0 xs, greatest_near p.1 (map (λ q. q.1) ps) a.0.1 ys);
      across = omega (arith, ints);
      down = omega (arith, ints);
    }

-- the sides of such an outline can be swept
pub sweepable : (a : Axis) (o : Outline) → NearBox o → Sweepable (turned a (least_corner o)).1 (turned a (greatest_corner o)).1 (sides a o)
sweepable a o b = record { low_near = (lows a).0; high_near = (lows a).1; held = all_from (Between (turned a (least_corner o)).1 (turned a (greatest_corner o)).1) (sides a o) side_between }
  where
    lows : (x : Axis) → (nat_abs (turned x (least_corner o)).1 ≤ 32767) × (nat_abs (turned x (greatest_corner o)).1 ≤ 32767)
    lows Columns = (b.least_is.1, b.greatest_is.1)
    lows Rows = (b.least_is.0, b.greatest_is.0)

    lines : (x : Axis) → (nat_abs (turned x (least_corner o)).0 ≤ 32767) × (nat_abs (turned x (greatest_corner o)).0 ≤ 32767)
    lines Columns = (b.least_is.0, b.greatest_is.0)
    lines Rows = (b.least_is.1, b.greatest_is.1)

    side_between : (e : Side) → Memᴰ e (sides a o) → Between (turned a (least_corner o)).1 (turned a (greatest_corner o)).1 e
    side_between e m =
        let h = side_held a o e m in
        record {
          begin_near = amid_near _ _ e.m0 (lines a).0 (lines a).1 h.m0_low h.m0_high;
          end_near = amid_near _ _ e.m1 (lines a).0 (lines a).1 h.m1_low h.m1_high;
          begin_low = h.s0_low;
          begin_high = h.s0_high;
          end_low = h.s1_low;
          end_high = h.s1_high;
        }

-- ---- flat or not
-- a box with equal ends is flat
pub flat_is : (o : Outline) → ((least_corner o).0 ≡ (greatest_corner o).0) ⊎ ((least_corner o).1 ≡ (greatest_corner o).1) → flat o ≡ true
flat_is o (inl e) = let t : le_z (width o) (pos 0) ≡ true = grind (arith, ints) in or_left (le_z (width o) (pos 0)) (le_z (height o) (pos 0)) t
flat_is o (inr e) = let t : le_z (height o) (pos 0) ≡ true = grind (arith, ints) in or_right (le_z (width o) (pos 0)) (le_z (height o) (pos 0)) t

-- and one that rises both ways is not
pub not_flat : (o : Outline) → (least_corner o).0 <ℤ (greatest_corner o).0 → (least_corner o).1 <ℤ (greatest_corner o).1 → flat o ≡ false
not_flat o x y =
    let s : le_z (width o) (pos 0) ≡ false = grind (arith, ints) in
    let t : le_z (height o) (pos 0) ≡ false = grind (arith, ints) in
    ap (λ (b : Bool). b || le_z (height o) (pos 0)) s ∙ t

-- ---- the pixels of a fill
-- what the box that was found says of its outline
pub record Boxing (o : Outline) (l g : Point) : Type 0 where
  pub is : box_of o ≡ Some (l, g)
  pub least_at : l ≡ least_corner o
  pub greatest_at : g ≡ greatest_corner o
  pub near : NearBox o

pub box_found : (o : Outline) (l g : Point) → AllByRecursion Near o → Some (l, g) ≡ box_of o → Boxing o l g
box_found [] l g a e = absurd (let z : ◌≡◌ {A = ℕ} 0 1 = cc in omega arith)
box_found (p ∷ ps) l g a e =
    let b : ◌≡◌ {A = Point × Point} (l, g) (least_corner (p ∷ ps), greatest_corner (p ∷ ps)) = cc in
    record { is = sym e; least_at = ap (λ (q : Point × Point). q.0) b; greatest_at = ap (λ (q : Point × Point). q.1) b; near = near_box p ps a }

-- its corners are near
pub corners_near : (o : Outline) (l g : Point) → Boxing o l g → Near l × Near g
corners_near o l g b = (subst Near (sym b.least_at) b.near.least_is, subst Near (sym b.greatest_at) b.near.greatest_is)

-- numbers with the same bits are the same
same_bits : (a b : ℤ) → SFits w32 a → SFits w32 b → of_z w32 a ≡ of_z w32 b → a ≡ b
same_bits a b f h e = sym (to_z-of_z w32 a f) ∙ ap (to_z w32) e ∙ to_z-of_z w32 b h

-- what the tests for a flat box say
pub same_side : (l g : Point) → Near l × Near g → (of_z w32 l.0 ≡ of_z w32 g.0) ⊎ ((of_z w32 l.0 ≡ of_z w32 g.0 → ⊥) × (of_z w32 l.1 ≡ of_z w32 g.1)) → (l.0 ≡ g.0) ⊎ (l.1 ≡ g.1)
same_side l g n (inl h) = inl (same_bits l.0 g.0 (near_fits l.0 n.0.0) (near_fits g.0 n.1.0) h)
same_side l g n (inr h) = inr (same_bits l.1 g.1 (near_fits l.1 n.0.1) (near_fits g.1 n.1.1) h.1)

-- a flat outline is a line
pub flat_pixels : (c : BackendColor) (o : Outline) (l g : Point) → Boxing o l g → (l.0 ≡ g.0) ⊎ (l.1 ≡ g.1) → inner_line l g c ≡ all (fill_pixels c o)
flat_pixels c o l g b w =
    let n = corners_near o l g b in
    let f = flat_is o (same w) in
    ap (λ (t : Bool). cond t (all (thin l g c)) (refused Far)) (and_from (near l) (near g) (near_cell Columns l.0 l.1 n.0.0 n.0.1) (near_cell Columns g.0 g.1 n.1.0 n.1.1))
    ∙ sym (ap (λ (t : Bool). all (cond t (flat_line c o) (swept mixes c o))) f ∙ ap (λ (x : Option (Point × Point)). all (elim x [ None ↦ [] | Some q ↦ thin q.0 q.1 c ])) b.is)
  where
    same : (l.0 ≡ g.0) ⊎ (l.1 ≡ g.1) → ((least_corner o).0 ≡ (greatest_corner o).0) ⊎ ((least_corner o).1 ≡ (greatest_corner o).1)
    same (inl e) = inl (sym (ap (λ (q : Point). q.0) b.least_at) ∙ e ∙ ap (λ (q : Point). q.0) b.greatest_at)
    same (inr e) = inr (sym (ap (λ (q : Point). q.1) b.least_at) ∙ e ∙ ap (λ (q : Point). q.1) b.greatest_at)

-- the sweep lines between two turned corners, by some sides
abbrev pub lines_by : Axis → BackendColor → Point → Point → List Side → List Pixel
lines_by a c u v ss = in_turn (λ m. sweep_line mixes a c u.1 v.1 (filter (live m) ss) m) (from_to u.0 v.0)

-- any other outline is swept along its axis
pub swept_pixels : (c : BackendColor) (o : Outline) (l g : Point) → Boxing o l g → (l.0 ≡ g.0 → ⊥) → (l.1 ≡ g.1 → ⊥) → (a : Axis) (u v : Point) (ss : List Side) → a ≡ cond (lt_z (g.1 -ℤ l.1) (g.0 -ℤ l.0)) Columns Rows → u ≡ turned a l → v ≡ turned a g → ss ≡ sides a o → lines_by a c u v ss ≡ fill_pixels c o
swept_pixels c o l g b x y a u v ss e p q s =
    ap (λ (z : Point). lines_by a c z v ss) (p ∙ ap (turned a) b.least_at)
    ∙ ap (λ (z : Point). lines_by a c (turned a (least_corner o)) z ss) (q ∙ ap (turned a) b.greatest_at)
    ∙ ap (lines_by a c (turned a (least_corner o)) (turned a (greatest_corner o))) s
    ∙ ap (λ (z : Axis). swept_by mixes z c o) by_axis
    ∙ sym (ap (λ (t : Bool). cond t (flat_line c o) (swept mixes c o)) flat_no)
  where
    across : l.0 ≤ℤ g.0
    across = subst (λ (z : Point). z.0 ≤ℤ g.0) (sym b.least_at) (subst (λ (z : Point). (least_corner o).0 ≤ℤ z.0) (sym b.greatest_at) b.near.across)

    down : l.1 ≤ℤ g.1
    down = subst (λ (z : Point). z.1 ≤ℤ g.1) (sym b.least_at) (subst (λ (z : Point). (least_corner o).1 ≤ℤ z.1) (sym b.greatest_at) b.near.down)

    rises : (n k : ℤ) → n ≤ℤ k → (n ≡ k → ⊥) → n <ℤ k
    rises n k h d = by_lt_z n k (λ t. t) (λ t. absurd (d (omega (arith, ints))))

    flat_no : flat o ≡ false
    flat_no = not_flat o (subst (λ (z : Point). z.0 <ℤ (greatest_corner o).0) b.least_at (subst (λ (z : Point). l.0 <ℤ z.0) b.greatest_at (rises l.0 g.0 across x))) (subst (λ (z : Point). z.1 <ℤ (greatest_corner o).1) b.least_at (subst (λ (z : Point). l.1 <ℤ z.1) b.greatest_at (rises l.1 g.1 down y)))

    by_axis : a ≡ axis o
    by_axis =
        e
        ∙ ap (λ (z : Point). cond (lt_z (g.1 -ℤ z.1) (g.0 -ℤ z.0)) Columns Rows) b.least_at
        ∙ ap (λ (z : Point). cond (lt_z (z.1 -ℤ (least_corner o).1) (z.0 -ℤ (least_corner o).0)) Columns Rows) b.greatest_at
        ∙ sym (ap (λ (t : Bool). cond t Rows (cond (lt_z (height o) (width o)) Columns Rows)) flat_no)

-- what a sweep of turned corners asks
pub record Area (a : Axis) (o : Outline) (u v : Point) (ss : List Side) : Type 0 where
  pub lines : (nat_abs u.0 ≤ 32767) × (nat_abs v.0 ≤ 32767)
  pub held : Sweepable u.1 v.1 ss
  pub rises : u.1 ≤ℤ v.1

pub area_of : (a : Axis) (o : Outline) (l g u v : Point) (ss : List Side) → Boxing o l g → u ≡ turned a l → v ≡ turned a g → ss ≡ sides a o → Area a o u v ss
area_of a o l g u v ss b p q s =
    let p' = p ∙ ap (turned a) b.least_at in
    let q' = q ∙ ap (turned a) b.greatest_at in
    subst (λ (z : Point). Area a o z v ss) (sym p') (subst (λ (z : Point). Area a o (turned a (least_corner o)) z ss) (sym q') (subst (Area a o (turned a (least_corner o)) (turned a (greatest_corner o))) (sym s) (go a)))
  where
    go : (x : Axis) → Area x o (turned x (least_corner o)) (turned x (greatest_corner o)) (sides x o)
    go Columns = record { lines = (b.near.least_is.0, b.near.greatest_is.0); held = sweepable Columns o b.near; rises = b.near.down }
    go Rows = record { lines = (b.near.least_is.1, b.near.greatest_is.1); held = sweepable Rows o b.near; rises = b.near.across }

-- ---- the marks of a box
-- how far high lies after low, as a program works it out
abbrev pub gap : ℤ → ℤ → ℤ
gap low high = to_z w32 (of_z w32 high) -ℤ to_z w32 (of_z w32 low)

-- and as it casts it
abbrev pub cast_gap : ℤ → ℤ → ℤ
cast_gap low high = to_z w32 (of_z w32 (gap low high))

-- a mark for each cell and one more are taken from 65,536
pub record Counted (low high : ℤ) (ms : List ℕ) : Type 0 where
  pub fits : SFits w32 (gap low high)
  pub casts : T (non_neg (cast_gap low high)) × Fits w64 (nat_abs (cast_gap low high))
  pub among : nat_abs (cast_gap low high) + 2 ≤ length ms
  pub long : length (take (nat_abs (cast_gap low high) + 2 - 0) ms) ≡ natural (high -ℤ low) + 2

pub counted : (low high : ℤ) (ms : List ℕ) → nat_abs low ≤ 32767 → nat_abs high ≤ 32767 → low ≤ℤ high → length ms ≡ 65536 → Counted low high ms
counted low high ms a b l e = let n = natural_is (high -ℤ low) (omega (arith, ints)) in record { fits = omega (arith, ints); casts = (omega (arith, ints), omega (arith, ints)); among = omega (arith, ints); long = simp length-take (omega (arith, ints)) }

-- ---- the judged fill
-- corners that are not too far are near
pub all_near : (o : Outline) → any far o ≡ false → AllByRecursion Near o
all_near [] e = tt
all_near (p ∷ o) e = let r = or_parts (far p) (any far o) e in (close p r.0, all_near o r.1)
  where
    close : (q : Point) → far q ≡ false → Near q
    close q h = (grind (arith, ints), grind (arith, ints))

-- what a fill that is not refused asks of its outline and its pools
pub record Allowed (o : Outline) (s e k : ℕ) : Type 0 where
  pub near : AllByRecursion Near o
  pub sides_fit : length o ≤ s
  pub live_fit : length o ≤ e
  pub marks_fit : 65536 ≤ k

pub allowed : (o : Outline) (s e k : ℕ) → fill_refusal o (s, e, k) ≡ None → Allowed o s e k
allowed o s e k h = go (any far o) (ltb 1024 (length o)) (ltb s (length o)) (ltb e (length o)) (ltb k 65536) refl refl refl refl refl h
  where
    no : (x : Refusal) → ◌≡◌ {A = Option Refusal} (Some x) None → ⊥
    no x z = let q : ◌≡◌ {A = ℕ} 0 1 = cc in omega arith

    go : (a b c d f : Bool) → any far o ≡ a → ltb 1024 (length o) ≡ b → ltb s (length o) ≡ c → ltb e (length o) ≡ d → ltb k 65536 ≡ f → cond a (Some Far) (cond b (Some Many) (cond (c || (d || f)) (Some Pool) None)) ≡ None → Allowed o s e k
    go true b c d f p q r t u z = absurd (no Far z)
    go false true c d f p q r t u z = absurd (no Many z)
    go false false true d f p q r t u z = absurd (no Pool z)
    go false false false true f p q r t u z = absurd (no Pool z)
    go false false false false true p q r t u z = absurd (no Pool z)
    go false false false false false p q r t u z = record { near = all_near o p; sides_fit = omega (arith, ltb-false, r); live_fit = omega (arith, ltb-false, t); marks_fit = omega (arith, ltb-false, u) }

-- a judge that lets a fill pass has found no refusal
pub passed : (x : Option Refusal) → Ok tt ≡ judged x → x ≡ None
passed None e = refl
passed (Some k) e = absurd (let z : ◌≡◌ {A = ℕ} 0 1 = cc in omega arith)

-- what a fill is where it is not refused, and where it is
pub fill_allowed : (o : Outline) (c : BackendColor) (lent : Lent) → fill_refusal o lent ≡ None → all (fill_pixels c o) ≡ fill o c lent
fill_allowed o c lent n = ap (λ (x : Option Refusal). elim x [ None ↦ all (fill_pixels c o) | Some k ↦ refused k ]) (sym n)

module _ {E : Type 0} (S : Surface E) (L : Lawful S) (o : Outline) (c : BackendColor) (lent : Lent) (h h' : S.Held) (r : Answer E) (e : (r, h') ≡ run S h (fill o c lent)) where
  -- an accepted fill in an opaque colour leaves no hole
  pub hole : NoHole S o c h (r, h')
  hole = subst (NoHole S o c h) (sym e) (go (fill_refusal o lent))
    where
      go : (x : Option Refusal) → NoHole S o c h (run S h (elim x [ None ↦ all (fill_pixels c o) | Some k ↦ refused k ]))
      go None = no_hole S L (flat_line c o) mixes c o h
      go (Some k) = λ opaque ok. absurd (let z : ◌≡◌ {A = ℕ} 0 1 = cc in omega arith)

  -- and no fill of an outline that is not flat spills
  pub spill : flat o ≡ false → NoSpill S o h (r, h')
  spill f = subst (NoSpill S o h) (sym e) (go (fill_refusal o lent))
    where
      go : (x : Option Refusal) → NoSpill S o h (run S h (elim x [ None ↦ all (fill_pixels c o) | Some k ↦ refused k ]))
      go None = no_spill S L (flat_line c o) mixes c o h f
      go (Some k) = λ x y w changed. absurd (changed refl)

-- the front of a pool is as long as is asked, where the pool is
pub front_long : {X : Type 0} (n : ℕ) (xs : List X) → n ≤ length xs → length (take (n - 0) xs) ≡ n
front_long n xs h = simp length-take (omega arith)

-- and the rest of the pool stays
pub spared : {X : Type 0} {x : Option Refusal} → x ≡ None → (n : ℕ) (xs ys : List X) → n ≤ length xs → length ys ≡ length (take (n - 0) xs) → Spared x n xs (ys ++ drop (n - 0) xs)
spared {X} e n xs ys h l =
    let z : n - 0 ≡ n = omega arith in
    subst (λ (y : Option Refusal). Spared y n xs (ys ++ drop (n - 0) xs)) (sym e)
    (ap (λ (k : ℕ). drop n (ys ++ drop k xs)) z ∙ drop-append-drop n xs ys n (omega arith) (l ∙ front_long n xs h))
