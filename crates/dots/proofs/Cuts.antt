-- Edits of a list, and where an offset stands among pairs.
use Rattle.std.proofs.Common.{◌≡◌, ℕ, zero, suc, ◌+◌, ◌-◌, ◌<◌, ◌≤◌, Bool, true, false, ◌||◌, eqb, ltb, leb, List, [], ◌∷◌, ◌++◌, map, length, get_or, take, drop, set, replicate, sym, refl, ap, ◌∙◌, subst, ⊎_elim, one-add, arith}
use Rattle.std.specs.List.{range_with_len}
use Rattle.std.specs.List.Sorted.{IsNonDecreasingBy, IsPartitionPoint}
use Rattle.std.proofs.lemmas.List.{take_more, get_or_append_left, get_or-take, get_or_default, length-append, set_split, drop_all, take-append-le, take-take, drop_at, length-take-le, drop_more, take-append-drop}
use Rattle.std.proofs.lemmas.Bool.{eqb-true, eqb-false, false≢true, cases_lt, lt-ltb, le-ltb, le-leb}
use Rattle.std.proofs.lemmas.List.FromFn.{get_or-map-range_with_len}
use Rattle.std.proofs.lemmas.Bool.Decides.{nat_tests}
use Rattle.dots.specs.declared.pair.Pair.{Pair}
use Rattle.dots.specs.Dots.{covers, dark, dots_of, Canon}
use Rattle.dots.specs.Finding.{reach, starts_at, up_to}
use Rattle.dots.proofs.Pairs.{canon_raise, dark_below}
use Rattle.dots.proofs.Laying.{Laid, splice, canon_back, canon_front, dark_above, dark_append}

-- setting the element before the i-th, where what stands from there on was changed
pub set_cut : {X : Type 0} (xs ys zs : List X) (i : ℕ) (x : X) → 0 < i → i ≤ length xs → ys ≡ take i xs ++ zs → set ys (i - 1) x ≡ take (i - 1) xs ++ x ∷ zs
set_cut xs ys zs i x p l e =
    let n : length (take i xs) ≡ i = length-take-le i xs l in
    let q : suc (i - 1) ≡ i = omega arith in
    let a : take (i - 1) (take i xs ++ zs) ≡ take (i - 1) xs = take-append-le (i - 1) (take i xs) zs (omega arith) ∙ take-take (i - 1) i xs (omega arith) in
    let b : drop i (take i xs ++ zs) ≡ zs = drop_at (take i xs) zs i n in
    let m : i - 1 < length ys = rw e (omega (arith, length-append (take i xs) zs)) in
    set_split ys (i - 1) x m ∙ rw (q, e) (simp (a, b))

-- with no pairs every dot is light
pub light_dots : (n a : ℕ) → map (dark []) (range_with_len a n) ≡ replicate n false
light_dots zero a = refl
light_dots (suc n) a = ap (λ (l : List Bool). false ∷ l) (light_dots n (a + 1))

-- the pairs from the place of an offset on begin after it
pub rest_canon : (n low o : ℕ) (rs : List Pair) → Canon n low rs → Canon n (o + 1) (drop (up_to rs o) rs)
rest_canon n low o [] h = tt
rest_canon n low o (r ∷ rs) h =
    ⊎_elim
    (λ l. let e : ltb o r.offset ≡ true = lt-ltb _ _ l in simp e (canon_raise n low (o + 1) r rs h (omega arith)))
    (λ g. let e : ltb o r.offset ≡ false = le-ltb _ _ g in simp (e, one-add) (rest_canon n (r.offset + r.len + 1) o rs h.3))
    (cases_lt o r.offset)

-- and those before it begin at the offset or before
pub up_to_at : (rs : List Pair) (o j : ℕ) (d : Pair) → j < up_to rs o → (get_or rs j d).offset ≤ o
up_to_at [] o j d l = absurd (omega arith)
up_to_at (r ∷ rs) o zero d l = grind (arith, nat_tests)
up_to_at (r ∷ rs) o (suc j) d l = let t = up_to_at rs o j d in grind (arith, nat_tests)

-- that place is at most the number of pairs
pub up_to_le : (rs : List Pair) (o : ℕ) → up_to rs o ≤ length rs
up_to_le [] o = omega arith
up_to_le (r ∷ rs) o = let t = up_to_le rs o in grind (arith, nat_tests)

-- a pair in the list begins at the least offset or later
pub canon_at : (n low m : ℕ) (rs : List Pair) (d : Pair) → Canon n low rs → m < length rs → low ≤ (get_or rs m d).offset
canon_at n low m [] d h l = absurd (omega arith)
canon_at n low zero (r ∷ rs) d h l = h.0
canon_at n low (suc m) (r ∷ rs) d h l = let t = canon_at n (r.offset + r.len + 1) m rs d h.3 (omega arith) in omega arith

-- so pairs in their form begin one behind the other
pub canon_rises : (n low : ℕ) (rs : List Pair) → Canon n low rs → IsNonDecreasingBy (λ (r : Pair). r.offset) rs
canon_rises n low [] h i j d l m = absurd (omega arith)
canon_rises n low (r ∷ rs) h zero zero d l m = omega arith
canon_rises n low (r ∷ rs) h zero (suc j) d l m = let k = canon_at n (r.offset + r.len + 1) j rs d h.3 (omega arith) in omega arith
canon_rises n low (r ∷ rs) h (suc i) zero d l m = absurd (omega arith)
canon_rises n low (r ∷ rs) h (suc i) (suc j) d l m = canon_rises n (r.offset + r.len + 1) rs h.3 i j d (omega arith) (omega arith)

-- the place of an offset is where those that begin at it or before end
pub up_to_point : (rs : List Pair) (o i : ℕ) → i ≤ length rs → IsPartitionPoint (λ (r : Pair). leb r.offset o ≡ true) (λ (r : Pair). leb r.offset o ≡ false) rs i → i ≡ up_to rs o
up_to_point [] o i l p = omega arith
up_to_point (r ∷ rs) o zero l p = let e = p.1 0 r (omega arith) (omega arith) in grind (arith, nat_tests)
up_to_point (r ∷ rs) o (suc i) l p =
    let e = p.0 0 r (omega arith) (omega arith) in
    let t = up_to_point rs o i (omega arith) ((λ k d a b. p.0 (suc k) d (omega arith) (omega arith)), (λ k d a b. p.1 (suc k) d (omega arith) (omega arith))) in
    grind (arith, nat_tests)

-- The pair r stands last among the i that begin at the offset o or before: what is known there.
pub record Beside (n o i : ℕ) (rs : List Pair) (r : Pair) : Type 0 where
  pub some : 0 < i
  pub there : i ≤ length rs
  pub read : r ≡ get_or rs (i - 1) r
  pub split : rs ≡ take (i - 1) rs ++ r ∷ drop i rs
  pub by : r.offset ≤ o
  pub filled : 0 < r.len
  pub inside : r.offset + r.len ≤ n
  pub whole : Canon n 0 (take (i - 1) rs ++ r ∷ drop i rs)
  pub back : Canon n (reach 0 (take (i - 1) rs)) (r ∷ drop i rs)
  pub rest : Canon n (o + 1) (drop i rs)

-- it is so of the pair that stands before the place of the offset
pub beside : (n o i : ℕ) (rs : List Pair) (r : Pair) → Canon n 0 rs → i ≡ up_to rs o → 0 < i → r ≡ get_or rs (i - 1) r → Beside n o i rs r
beside n o i rs r h e p g =
    let l : i ≤ length rs = rw e (up_to_le rs o) in
    let q : i - 1 + 1 ≡ i = omega arith in
    let d : drop (i - 1) rs ≡ get_or rs (i - 1) r ∷ drop (i - 1 + 1) rs = drop_more rs (i - 1) r (omega arith) in
    let d' : drop (i - 1) rs ≡ r ∷ drop i rs = rw (← g, q) at d in
    let s : rs ≡ take (i - 1) rs ++ r ∷ drop i rs = sym (take-append-drop (i - 1) rs) ∙ ap (λ (z : List Pair). take (i - 1) rs ++ z) d' in
    let w : Canon n 0 (take (i - 1) rs ++ r ∷ drop i rs) = subst (λ (z : List Pair). Canon n 0 z) s h in
    let v = canon_back n 0 (take (i - 1) rs) (r ∷ drop i rs) w in
    let u : (get_or rs (i - 1) r).offset ≤ o = up_to_at rs o (i - 1) r (omega arith) in
    let t : Canon n (o + 1) (drop (up_to rs o) rs) = rest_canon n 0 o rs h in
    record {
      some = p;
      there = l;
      read = g;
      split = s;
      by = rw (← g) at u;
      filled = v.1;
      inside = v.2;
      whole = w;
      back = v;
      rest = rw (← e) at t;
    }

-- the dot at the offset is dark where that pair covers it
pub beside_dark : {n o i : ℕ} {rs : List Pair} {r : Pair} → Beside n o i rs r → dark rs o ≡ ltb o (r.offset + r.len)
beside_dark {n} {o} {i} {rs} {r} b =
    let a : dark (take (i - 1) rs ++ r ∷ drop i rs) o ≡ (dark (take (i - 1) rs) o || (covers r o || dark (drop i rs) o)) = dark_append (take (i - 1) rs) (r ∷ drop i rs) o in
    let f : dark (take (i - 1) rs) o ≡ false = dark_above n 0 (take (i - 1) rs) (canon_front n 0 (take (i - 1) rs) _ b.whole) o (omega (arith, b.back.0, b.by)) in
    let g : dark (drop i rs) o ≡ false = dark_below n (o + 1) _ b.rest o (omega arith) in
    let s : dark rs o ≡ dark (take (i - 1) rs ++ r ∷ drop i rs) o = ap (λ (z : List Pair). dark z o) b.split in
    let e : leb r.offset o ≡ true = le-leb _ _ b.by in
    grind (arith, nat_tests)

-- where no pair begins at the offset or before it, the dot is light
pub none_dark : (n o : ℕ) (rs : List Pair) → Canon n 0 rs → 0 ≡ up_to rs o → dark rs o ≡ false
none_dark n o rs h e =
    let t : Canon n (o + 1) (drop (up_to rs o) rs) = rest_canon n 0 o rs h in
    dark_below n (o + 1) rs (rw (← e) at t) o (omega arith)

-- the dot at an offset
pub dot_at_lem : (n o : ℕ) (rs : List Pair) → o < n → get_or (dots_of n rs) o false ≡ dark rs o
dot_at_lem n o rs l = get_or-map-range_with_len (dark rs) 0 n o o false l (omega arith)

-- what comes after a last pair
pub reach_push : (low : ℕ) (xs : List Pair) (r : Pair) → reach low (xs ++ r ∷ []) ≡ r.offset + r.len + 1
reach_push low [] r = refl
reach_push low (x ∷ xs) r = reach_push (x.offset + x.len + 1) xs r

-- the pairs from the i-th on keep the form
pub canon_cut : (n i : ℕ) (rs : List Pair) → Canon n 0 rs → Canon n (reach 0 (take i rs)) (drop i rs)
canon_cut n i rs h = canon_back n 0 (take i rs) (drop i rs) (subst (λ (z : List Pair). Canon n 0 z) (sym (take-append-drop i rs)) h)

-- a change behind the first i pairs
pub free_laid : (n o i : ℕ) (b : Bool) (rs zs : List Pair) → Canon n 0 rs → reach 0 (take i rs) ≤ o → Laid n (reach 0 (take i rs)) o b (drop i rs) zs → Laid n 0 o b rs (take i rs ++ zs)
free_laid n o i b rs zs h l d =
    let s : take i rs ++ drop i rs ≡ rs = take-append-drop i rs in
    let w : Canon n 0 (take i rs ++ drop i rs) = subst (λ (z : List Pair). Canon n 0 z) (sym s) h in
    subst (λ (z : List Pair). Laid n 0 o b z (take i rs ++ zs)) s (splice n 0 o b (take i rs) (drop i rs) zs w l d)

-- a change from the pair r on
pub beside_laid : {n o i : ℕ} {b : Bool} {rs zs : List Pair} {r : Pair} → Beside n o i rs r → Laid n (reach 0 (take (i - 1) rs)) o b (r ∷ drop i rs) zs → Laid n 0 o b rs (take (i - 1) rs ++ zs)
beside_laid {n} {o} {i} {b} {rs} {zs} {r} a d =
    subst (λ (z : List Pair). Laid n 0 o b z (take (i - 1) rs ++ zs)) (sym a.split) (splice n 0 o b (take (i - 1) rs) (r ∷ drop i rs) zs a.whole (omega (arith, a.back.0, a.by)) d)

-- a change that sets the pair r to x, and has zs behind it
pub beside_set : {n o i : ℕ} {b : Bool} {rs ys zs : List Pair} {r x : Pair} → Beside n o i rs r → ys ≡ take i rs ++ zs → Laid n (reach 0 (take (i - 1) rs)) o b (r ∷ drop i rs) (x ∷ zs) → Laid n 0 o b rs (set ys (i - 1) x)
beside_set {n} {o} {i} {b} {rs} {ys} {zs} {r} {x} a e d = subst (λ (z : List Pair). Laid n 0 o b rs z) (sym (set_cut rs ys zs i x a.some a.there e)) (beside_laid a d)

-- no pair begins at the next offset
pub not_next : (n o : ℕ) (zs : List Pair) → Canon n (o + 1) zs → starts_at zs (o + 1) ≡ false → Canon n (o + 2) zs
not_next n o [] h e = tt
not_next n o (z ∷ zs) h e = let q = eqb-false z.offset (o + 1) e in (omega arith, h.1, h.2, h.3)

-- where one does, there is such a pair
pub next_there : (i o : ℕ) (rs : List Pair) → starts_at (drop i rs) o ≡ true → i < length rs
next_there i o rs e =
    ⊎_elim
    (λ (l : i < length rs). l)
    (λ (g : length rs ≤ i). let d : drop i rs ≡ [] = drop_all i rs g in let f : false ≡ true = rw d at e in absurd (false≢true f))
    (cases_lt i (length rs))

-- and it is the one that is read there
pub next_at : (i o : ℕ) (rs : List Pair) (r : Pair) → starts_at (drop i rs) o ≡ true → r ≡ get_or rs i r → (drop i rs ≡ r ∷ drop (i + 1) rs) × (r.offset ≡ o)
next_at i o rs r e g =
    let l = next_there i o rs e in
    let d : drop i rs ≡ get_or rs i r ∷ drop (i + 1) rs = drop_more rs i r l in
    let d' : drop i rs ≡ r ∷ drop (i + 1) rs = rw (← g) at d in
    let f : eqb r.offset o ≡ true = rw d' at e in
    (d', eqb-true _ _ f)

-- a pair that is found ends within the sheet
pub next_within : (n i o : ℕ) (rs : List Pair) (r : Pair) → Canon n 0 rs → starts_at (drop i rs) o ≡ true → r ≡ get_or rs i r → o + r.len ≤ n
next_within n i o rs r h e g =
    let w = next_at i o rs r e g in
    let t : Canon n (reach 0 (take i rs)) (r ∷ drop (i + 1) rs) = rw w.0 at (canon_cut n i rs h) in
    omega (arith, t.2, w.1)

-- the pairs before a dot that does not touch the last of them
pub apart_reach : {n o i : ℕ} {rs : List Pair} {r : Pair} → Beside n o i rs r → reach 0 (take i rs) ≡ r.offset + r.len + 1
apart_reach {n} {o} {i} {rs} {r} b =
    let g = b.read in
    let q : i - 1 + 1 ≡ i = omega (arith, b.some) in
    let t : take (i - 1 + 1) rs ≡ take (i - 1) rs ++ get_or rs (i - 1) r ∷ [] = take_more rs (i - 1) r (omega (arith, b.some, b.there)) in
    let t' : take i rs ≡ take (i - 1) rs ++ r ∷ [] = rw (← g, q) at t in
    ap (λ (z : List Pair). reach 0 z) t' ∙ reach_push 0 (take (i - 1) rs) r

-- what is read at its place is that pair, also where the list was changed behind it
pub read_again : {n o i : ℕ} {rs : List Pair} {r : Pair} → Beside n o i rs r → (ys zs : List Pair) (x : Pair) → ys ≡ take i rs ++ zs → x ≡ get_or ys (i - 1) x → x ≡ r
read_again {n} {o} {i} {rs} {r} b ys zs x e g =
    let q : length (take i rs) ≡ i = length-take-le i rs b.there in
    let p = b.some in
    g
    ∙ ap (λ (z : List Pair). get_or z (i - 1) x) e
    ∙ get_or_append_left (take i rs) zs x (i - 1) (omega arith)
    ∙ get_or-take i rs (i - 1) x (omega arith)
    ∙ get_or_default rs (i - 1) x r (omega (arith, b.there))
    ∙ sym b.read
