-- The marks tell which cells of a sweep line are covered.
use Rattle.std.proofs.Common.{◌≡◌, ℕ, zero, suc, ◌+◌, ◌%◌, ◌<◌, ◌≤◌, Bool, true, false, cond, ◌||◌, eqb, ltb, List, [], ◌∷◌, ◌++◌, length, get_or, take, drop, ℤ, pos, ◌+ℤ◌, ◌≤ℤ◌, ◌<ℤ◌, count_by, sym, refl, ap, ◌∙◌, arith}
use lib.Signed.{lt_z}
use Rattle.std.specs.List.{AllByRecursion}
use Rattle.std.proofs.ByRecursion.{All-weaker}
use Rattle.std.proofs.lemmas.List.{length-drop, length-take-le, get_or-take, get_or-drop, take_more}
use Rattle.std.proofs.lemmas.Int.{ints}
use Rattle.std.proofs.lemmas.List.Sums.{sum_by_push}
use Rattle.std.proofs.lemmas.Bool.{and_left, or_from}
use Rattle.edges.specs.declared.side.Edge.{Edge}
use Rattle.edges.specs.Side.{floor_at, ceil_at}
use Rattle.outline.specs.Lists.{odd, any, unlike}
use Rattle.outline.specs.Outline.{same_z}
use Rattle.outline.proofs.Counting.{odd_cons, odd_same}
use Rattle.outline.proofs.Products.{lt_no}
use Rattle.outline.proofs.Lying.{not_same}
use Rattle.polygon.specs.Marking.{turns, stands_at, notes, mark, Marked, covering, covers}

-- ---- odd counts
-- whether the count is odd with one more element at the end
pub odd_push : {X : Type 0} (p : X → Bool) (xs : List X) (x : X) → odd (count_by p (xs ++ x ∷ [])) ≡ unlike (p x) (odd (count_by p xs))
odd_push p xs x = ap odd (sum_by_push (λ y. cond (p y) 1 0) xs x) ∙ go (p x) (count_by p xs)
  where
    go : (b : Bool) (n : ℕ) → odd (n + cond b 1 0) ≡ unlike b (odd n)
    go true n = let e : n + 1 ≡ suc n = omega arith in ap odd e
    go false n = let e : n + 0 ≡ n = omega arith in ap odd e

-- whether just one of two tests holds oddly often
odd_unlike : {X : Type 0} (p q : X → Bool) (xs : List X) → odd (count_by (λ x. unlike (p x) (q x)) xs) ≡ unlike (odd (count_by p xs)) (odd (count_by q xs))
odd_unlike p q [] = refl
odd_unlike p q (x ∷ xs) =
    odd_cons (λ y. unlike (p y) (q y)) x xs
    ∙ ap (unlike (unlike (p x) (q x))) (odd_unlike p q xs)
    ∙ mingle (p x) (q x) (odd (count_by p xs)) (odd (count_by q xs))
    ∙ sym (ap (λ (b : Bool). unlike b (odd (count_by q (x ∷ xs)))) (odd_cons p x xs) ∙ ap (unlike (unlike (p x) (odd (count_by p xs)))) (odd_cons q x xs))
  where
    mingle : (a b c d : Bool) → unlike (unlike a b) (unlike c d) ≡ unlike (unlike a c) (unlike b d)
    mingle a b c d = grind arith

-- a test that fails of each element counts none
odd_none : {X : Type 0} (p : X → Bool) (xs : List X) → AllByRecursion (λ x. p x ≡ false) xs → odd (count_by p xs) ≡ false
odd_none p [] h = refl
odd_none p (x ∷ xs) h = odd_cons p x xs ∙ ap (λ (b : Bool). unlike b (odd (count_by p xs))) h.0 ∙ odd_none p xs h.1

-- and holds of none
any_none : {X : Type 0} (p : X → Bool) (xs : List X) → AllByRecursion (λ x. p x ≡ false) xs → any p xs ≡ false
any_none p [] h = refl
any_none p (x ∷ xs) h = or_from (p x) (any p xs) h.0 (any_none p xs h.1)

-- ---- what a mark says
-- a mark is odd if it is turned
turn_of : (t n : Bool) → eqb (mark t n % 2) 1 ≡ t
turn_of true true = refl
turn_of true false = refl
turn_of false true = refl
turn_of false false = refl

-- and above 1 if it is noted
note_of : (t n : Bool) → ltb 1 (mark t n) ≡ n
note_of true true = refl
note_of true false = refl
note_of false true = refl
note_of false false = refl

-- ---- the running parity
-- a floor before the cell is one before it, or further before
apart : (f c : ℤ) → lt_z f c ≡ unlike (same_z (f +ℤ pos 1) c) (lt_z (f +ℤ pos 1) c)
apart f c = grind (arith, ints)

-- an odd number of edges have their floor before the cell c
abbrev passed : List Edge → ℤ → Bool
passed es c = odd (count_by (λ e. lt_z (floor_at e) c) es)

-- an odd number of edges have their floor further before the cell c than the cell next to it
abbrev further : List Edge → ℤ → Bool
further es c = odd (count_by (λ e. lt_z (floor_at e +ℤ pos 1) c) es)

-- the parity turns where the mark is turned
passed_step : (es : List Edge) (c : ℤ) → passed es c ≡ unlike (turns es c) (further es c)
passed_step es c =
    odd_same (λ e. lt_z (floor_at e) c) (λ e. unlike (same_z (floor_at e +ℤ pos 1) c) (lt_z (floor_at e +ℤ pos 1) c)) es (λ e n. apart (floor_at e) c)
    ∙ odd_unlike (λ e. same_z (floor_at e +ℤ pos 1) c) (λ e. lt_z (floor_at e +ℤ pos 1) c) es

-- what has passed a cell is further before the next
further_next : (es : List Edge) (c d : ℤ) → c +ℤ pos 1 ≡ d → further es d ≡ passed es c
further_next es c d h = odd_same (λ e. lt_z (floor_at e +ℤ pos 1) d) (λ e. lt_z (floor_at e) c) es (λ e n. next (floor_at e))
  where
    next : (f : ℤ) → lt_z (f +ℤ pos 1) d ≡ lt_z f c
    next f = grind (arith, ints)

-- before every floor no edge has passed
further_none : (es : List Edge) (c : ℤ) → AllByRecursion (λ e. c ≤ℤ floor_at e) es → further es c ≡ false
further_none es c least = odd_none (λ e. lt_z (floor_at e +ℤ pos 1) c) es (All-weaker (λ e. c ≤ℤ floor_at e) (λ e. lt_z (floor_at e +ℤ pos 1) c ≡ false) (λ e h. lt_no (floor_at e +ℤ pos 1) c (omega (arith, ints))) es least)

-- ---- reading the marks
module _ (es : List Edge) (low : ℤ) (ms : List ℕ) (k : ℕ) (marked : Marked es low ms) (least : AllByRecursion (λ e. (low +ℤ pos k) ≤ℤ floor_at e) es) (n : ℕ) (fits : k + n ≤ length ms) where
  -- the marks that are read
  abbrev ws : List ℕ
  ws = take n (drop k ms)

  -- there are n of them
  long : length ws ≡ n
  long = length-take-le n (drop k ms) (simp length-drop (omega arith))

  -- each is the mark of its cell
  at : (i : ℕ) → i < n → get_or ws i 0 ≡ mark (turns es (low +ℤ pos (k + i))) (notes es (low +ℤ pos (k + i)))
  at i h = get_or-take n (drop k ms) i 0 h ∙ get_or-drop k ms i 0 ∙ marked (k + i) (omega arith)

  -- whether it is turned
  turned : (i : ℕ) → i < n → eqb (get_or ws i 0 % 2) 1 ≡ turns es (low +ℤ pos (k + i))
  turned i h = ap (λ (w : ℕ). eqb (w % 2) 1) (at i h) ∙ turn_of (turns es (low +ℤ pos (k + i))) (notes es (low +ℤ pos (k + i)))

  -- whether it is noted
  noted : (i : ℕ) → i < n → ltb 1 (get_or ws i 0) ≡ notes es (low +ℤ pos (k + i))
  noted i h = ap (ltb 1) (at i h) ∙ note_of (turns es (low +ℤ pos (k + i))) (notes es (low +ℤ pos (k + i)))

  -- one more mark
  count_step : (i : ℕ) → i < n → odd (count_by (λ w. eqb (w % 2) 1) (take (suc i) ws)) ≡ unlike (turns es (low +ℤ pos (k + i))) (odd (count_by (λ w. eqb (w % 2) 1) (take i ws)))
  count_step i h =
      let l : i < length ws = omega (arith, long) in
      let s : suc i ≡ i + 1 = omega arith in
      ap (λ (j : ℕ). odd (count_by (λ w. eqb (w % 2) 1) (take j ws))) s
      ∙ ap (λ (xs : List ℕ). odd (count_by (λ w. eqb (w % 2) 1) xs)) (take_more ws i 0 l)
      ∙ odd_push (λ w. eqb (w % 2) 1) (take i ws) (get_or ws i 0)
      ∙ ap (λ (b : Bool). unlike b (odd (count_by (λ w. eqb (w % 2) 1) (take i ws)))) (turned i h)

  -- the parity with the mark of a cell, from that before it
  with_mark : (i : ℕ) → i < n → odd (count_by (λ w. eqb (w % 2) 1) (take i ws)) ≡ further es (low +ℤ pos (k + i)) → odd (count_by (λ w. eqb (w % 2) 1) (take (suc i) ws)) ≡ passed es (low +ℤ pos (k + i))
  with_mark i h r = count_step i h ∙ ap (unlike (turns es (low +ℤ pos (k + i)))) r ∙ sym (passed_step es (low +ℤ pos (k + i)))

  -- the parity of the turned marks before a cell
  running : (i : ℕ) → i ≤ n → odd (count_by (λ w. eqb (w % 2) 1) (take i ws)) ≡ further es (low +ℤ pos (k + i))
  running zero h = let z : k + 0 ≡ k = omega arith in sym (ap (λ (j : ℕ). further es (low +ℤ pos j)) z ∙ further_none es (low +ℤ pos k) least)
  running (suc i) h = with_mark i (omega arith) (running i (omega arith)) ∙ sym (further_next es (low +ℤ pos (k + i)) (low +ℤ pos (k + suc i)) (omega (arith, ints)))

  -- and with the mark of the cell
  parity : (i : ℕ) → i < n → odd (count_by (λ w. eqb (w % 2) 1) (take (suc i) ws)) ≡ passed es (low +ℤ pos (k + i))
  parity i h = with_mark i h (running i (omega arith))

-- the marks from the k-th on, before which no edge has its floor, say of each cell whether it is covered
pub covers_is : (es : List Edge) (low : ℤ) (ms : List ℕ) (k : ℕ) → Marked es low ms → AllByRecursion (λ e. (low +ℤ pos k) ≤ℤ floor_at e) es → (n i : ℕ) → i < n → k + n ≤ length ms → covers (take n (drop k ms)) i ≡ covering es (low +ℤ pos (k + i))
covers_is es low ms k marked least n i h fits =
    ap (λ (b : Bool). b || ltb 1 (get_or (take n (drop k ms)) i 0)) (parity es low ms k marked least n fits i h)
    ∙ ap (λ (b : Bool). passed es (low +ℤ pos (k + i)) || b) (noted es low ms k marked least n fits i h)

-- before every floor no cell is covered
pub bare_before : (es : List Edge) (f c : ℤ) → AllByRecursion (λ e. f ≤ℤ floor_at e) es → c <ℤ f → covering es c ≡ false
bare_before es f c least h =
    or_from (passed es c) (notes es c)
    (odd_none (λ e. lt_z (floor_at e) c) es (All-weaker (λ e. f ≤ℤ floor_at e) (λ e. lt_z (floor_at e) c ≡ false) (λ e l. lt_no (floor_at e) c (omega (arith, ints))) es least))
    (any_none (stands_at c) es (All-weaker (λ e. f ≤ℤ floor_at e) (λ e. stands_at c e ≡ false) (λ e l. and_left (same_z (floor_at e) c) (same_z (ceil_at e) c) (not_same (floor_at e) c (λ s. omega (arith, ints)))) es least))
