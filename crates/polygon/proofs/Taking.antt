-- Taking up an edge: it turns one mark, and notes one if its place is whole.
use Rattle.std.proofs.Common.{◌≡◌, ℕ, ◌+◌, ◌<◌, Bool, true, false, cond, not, ◌&&◌, ◌||◌, ◌≢◌, ◌⊎◌, List, [], ◌∷◌, ◌++◌, length, get_or, take, ℤ, pos, negsuc, ◌+ℤ◌, ◌-ℤ◌, ◌≤ℤ◌, sym, refl, ap, ◌∙◌, subst, inl, inr, true≢false, arith, length-set, get_or-set_other, get_or-set_same}
use lib.Bits.{bit_xor, bit_or}
use Rattle.std.proofs.Math.Bool.{or-false, or-true}
use Rattle.std.specs.List.{AllByRecursion}
use Rattle.std.proofs.ByRecursion.{All-get_or}
use Rattle.std.proofs.lemmas.List.{take_more}
use Rattle.std.proofs.lemmas.Int.{ints}
use Rattle.std.proofs.lemmas.Bool.{cases_eq, cases_Bool, and_left, and_right}
use Rattle.edges.specs.declared.side.Edge.{Edge}
use Rattle.edges.specs.Side.{floor_at, ceil_at}
use Rattle.outline.specs.Lists.{unlike, natural}
use Rattle.outline.specs.Outline.{same_z}
use Rattle.outline.proofs.Counting.{any_push}
use Rattle.outline.proofs.Lying.{same_in, same_out, not_same}
use Rattle.polygon.specs.Marking.{turns, stands_at, notes, mark, Marked, Among, index_of, turned_at, noted_at, taken_up}
use Rattle.polygon.proofs.MarkLaw.{odd_push}

-- ---- whole places
-- an edge whose place is not whole stands nowhere
stands_part : (e : Edge) → (floor_at e ≡ ceil_at e → ⊥) → (c : ℤ) → stands_at c e ≡ false
stands_part e w c = go (cases_Bool (same_z (floor_at e) c)) (cases_Bool (same_z (ceil_at e) c))
  where
    go : (same_z (floor_at e) c ≡ true) ⊎ (same_z (floor_at e) c ≡ false) → (same_z (ceil_at e) c ≡ true) ⊎ (same_z (ceil_at e) c ≡ false) → stands_at c e ≡ false
    go (inr f) g = and_left (same_z (floor_at e) c) (same_z (ceil_at e) c) f
    go (inl f) (inr g) = and_right (same_z (floor_at e) c) (same_z (ceil_at e) c) g
    go (inl f) (inl g) = absurd (w (same_out (floor_at e) c f ∙ sym (same_out (ceil_at e) c g)))

-- one whose place is whole stands at its floor
stands_whole : (e : Edge) → floor_at e ≡ ceil_at e → (c : ℤ) → stands_at c e ≡ same_z (floor_at e) c
stands_whole e w c = ap (λ (z : ℤ). same_z (floor_at e) c && same_z z c) (sym w) ∙ twice (same_z (floor_at e) c)
  where
    twice : (b : Bool) → (b && b) ≡ b
    twice true = refl
    twice false = refl

-- ---- a mark as a byte
-- turned once more
turned_mark : (t n : Bool) → bit_xor (mark t n) 1 ≡ mark (not t) n
turned_mark true true = refl
turned_mark true false = refl
turned_mark false true = refl
turned_mark false false = refl

-- noted
noted_mark : (t n : Bool) → bit_or (mark t n) 2 ≡ mark t true
noted_mark true true = refl
noted_mark true false = refl
noted_mark false true = refl
noted_mark false false = refl

-- ---- marks by any two tests
-- the marks, counted from low, say what the tests t and n say
abbrev By : ℤ → (ℤ → Bool) → (ℤ → Bool) → List ℕ → Type 0
By low t n ms = (i : ℕ) → i < length ms → get_or ms i 0 ≡ mark (t (low +ℤ pos i)) (n (low +ℤ pos i))

-- the cell of another mark is another cell
other : (low f : ℤ) (i k : ℕ) → low +ℤ pos i ≡ f → k ≢ i → same_z f (low +ℤ pos k) ≡ false
other low f i k e d = not_same f (low +ℤ pos k) (λ g. d (omega (arith, ints)))

-- to turn the mark of the cell f
turn : (low f : ℤ) (t n : ℤ → Bool) (ms : List ℕ) (i : ℕ) → low +ℤ pos i ≡ f → i < length ms → By low t n ms → By low (λ c. unlike (same_z f c) (t c)) n (turned_at i ms)
turn low f t n ms i e h b k l = go (cases_eq k i)
  where
    inside : k < length ms
    inside = simp length-set at l

    go : (k ≡ i) ⊎ (k ≡ i → ⊥) → get_or (turned_at i ms) k 0 ≡ mark (unlike (same_z f (low +ℤ pos k)) (t (low +ℤ pos k))) (n (low +ℤ pos k))
    go (inl d) =
        subst (λ (j : ℕ). get_or (turned_at i ms) j 0 ≡ mark (unlike (same_z f (low +ℤ pos j)) (t (low +ℤ pos j))) (n (low +ℤ pos j))) (sym d)
        (get_or-set_same ms i (bit_xor (get_or ms i 0) 1) 0 h
        ∙ ap (λ (z : ℕ). bit_xor z 1) (b i h)
        ∙ turned_mark (t (low +ℤ pos i)) (n (low +ℤ pos i))
        ∙ sym (ap (λ (s : Bool). mark (unlike s (t (low +ℤ pos i))) (n (low +ℤ pos i))) (same_in f (low +ℤ pos i) (sym e))))
    go (inr d) =
        get_or-set_other ms i k (bit_xor (get_or ms i 0) 1) 0 d
        ∙ b k inside
        ∙ sym (ap (λ (s : Bool). mark (unlike s (t (low +ℤ pos k))) (n (low +ℤ pos k))) (other low f i k e d))

-- to note the mark of the cell f
note : (low f : ℤ) (t n : ℤ → Bool) (ms : List ℕ) (i : ℕ) → low +ℤ pos i ≡ f → i < length ms → By low t n ms → By low t (λ c. n c || same_z f c) (noted_at i ms)
note low f t n ms i e h b k l = go (cases_eq k i)
  where
    inside : k < length ms
    inside = simp length-set at l

    go : (k ≡ i) ⊎ (k ≡ i → ⊥) → get_or (noted_at i ms) k 0 ≡ mark (t (low +ℤ pos k)) (n (low +ℤ pos k) || same_z f (low +ℤ pos k))
    go (inl d) =
        subst (λ (j : ℕ). get_or (noted_at i ms) j 0 ≡ mark (t (low +ℤ pos j)) (n (low +ℤ pos j) || same_z f (low +ℤ pos j))) (sym d)
        (get_or-set_same ms i (bit_or (get_or ms i 0) 2) 0 h
        ∙ ap (λ (z : ℕ). bit_or z 2) (b i h)
        ∙ noted_mark (t (low +ℤ pos i)) (n (low +ℤ pos i))
        ∙ sym (ap (λ (s : Bool). mark (t (low +ℤ pos i)) (n (low +ℤ pos i) || s)) (same_in f (low +ℤ pos i) (sym e)) ∙ ap (mark (t (low +ℤ pos i))) (or-true (n (low +ℤ pos i)))))
    go (inr d) =
        get_or-set_other ms i k (bit_or (get_or ms i 0) 2) 0 d
        ∙ b k inside
        ∙ sym (ap (λ (s : Bool). mark (t (low +ℤ pos k)) (n (low +ℤ pos k) || s)) (other low f i k e d) ∙ ap (mark (t (low +ℤ pos k))) (or-false (n (low +ℤ pos k))))

-- ---- the marks of the edges taken up so far
module _ (es : List Edge) (e : Edge) (low : ℤ) (ms : List ℕ) (taken : Marked es low ms) (i : ℕ) (here : low +ℤ pos i ≡ floor_at e +ℤ pos 1) (fits : i < length ms) where
  -- the mark one past the floor is turned
  flipped : By low (turns (es ++ e ∷ [])) (notes es) (turned_at i ms)
  flipped k l = turn low (floor_at e +ℤ pos 1) (turns es) (notes es) ms i here fits taken k l ∙ sym (ap (λ (t : Bool). mark t (notes es (low +ℤ pos k))) (odd_push (λ f. same_z (floor_at f +ℤ pos 1) (low +ℤ pos k)) es e))

  -- an edge whose place is not whole
  marked_part : (floor_at e ≡ ceil_at e → ⊥) → Marked (es ++ e ∷ []) low (turned_at i ms)
  marked_part w k l =
      flipped k l
      ∙ ap (mark (turns (es ++ e ∷ []) (low +ℤ pos k))) (sym (any_push (stands_at (low +ℤ pos k)) es e ∙ ap (λ (b : Bool). notes es (low +ℤ pos k) || b) (stands_part e w (low +ℤ pos k)) ∙ or-false (notes es (low +ℤ pos k))))

  -- an edge whose place is whole
  marked_whole : floor_at e ≡ ceil_at e → (j : ℕ) → low +ℤ pos j ≡ floor_at e → j < length ms → Marked (es ++ e ∷ []) low (noted_at j (turned_at i ms))
  marked_whole w j at inside k l =
      note low (floor_at e) (turns (es ++ e ∷ [])) (notes es) (turned_at i ms) j at (simp length-set inside) flipped k l
      ∙ ap (mark (turns (es ++ e ∷ []) (low +ℤ pos k))) (sym (any_push (stands_at (low +ℤ pos k)) es e ∙ ap (λ (b : Bool). notes es (low +ℤ pos k) || b) (stands_whole e w (low +ℤ pos k))))

-- where the marks of the floor and of the cell after it stand
index_is : (low f : ℤ) → low ≤ℤ f → (low +ℤ pos (index_of low f) ≡ f) × (low +ℤ pos (index_of low f + 1) ≡ f +ℤ pos 1)
index_is low f h = let e = go (f -ℤ low) (omega (arith, ints)) in (omega (arith, ints), omega (arith, ints))
  where
    go : (z : ℤ) → pos 0 ≤ℤ z → pos (natural z) ≡ z
    go (pos n) k = refl
    go (negsuc n) k = absurd (omega (arith, ints))

-- as `take_up` leaves them, the marks are those with one edge more
pub taken_marked : (es : List Edge) (e : Edge) (low : ℤ) (ms : List ℕ) → Marked es low ms → Among low (length ms) e → Marked (es ++ e ∷ []) low (taken_up low e ms)
taken_marked es e low ms marked among = go (same_z (floor_at e) (ceil_at e)) refl
  where
    i : ℕ
    i = index_of low (floor_at e)

    at : (low +ℤ pos i ≡ floor_at e) × (low +ℤ pos (i + 1) ≡ floor_at e +ℤ pos 1)
    at = index_is low (floor_at e) among.from

    fits : i + 1 < length ms
    fits = let a = at.1 in let u = among.upto in omega (arith, ints)

    go : (b : Bool) → same_z (floor_at e) (ceil_at e) ≡ b → Marked (es ++ e ∷ []) low (cond b (noted_at i (turned_at (i + 1) ms)) (turned_at (i + 1) ms))
    go true w = marked_whole es e low ms marked (i + 1) at.1 fits (same_out (floor_at e) (ceil_at e) w) i at.0 (omega (arith, fits))
    go false w = marked_part es e low ms marked (i + 1) at.1 fits (λ s. true≢false (sym (same_in (floor_at e) (ceil_at e) s) ∙ w))

-- an edge of those that lie among n marks lies among as many
pub among_at : (es : List Edge) (low : ℤ) (n m i : ℕ) (d : Edge) → AllByRecursion (Among low n) es → i < length es → m ≡ n → Among low m (get_or es i d)
among_at es low n m i d all h e = subst (λ (k : ℕ). Among low k (get_or es i d)) (sym e) (All-get_or (Among low n) es i d h all)

-- a loop's step
pub marked_more : (es : List Edge) (low : ℤ) (ms ns : List ℕ) (i : ℕ) (d : Edge) → i < length es → Among low (length ms) (get_or es i d) → Marked (take i es) low ms → ns ≡ taken_up low (get_or es i d) ms → Marked (take (i + 1) es) low ns
marked_more es low ms ns i d h among marked e =
    subst (λ (xs : List Edge). Marked xs low ns) (sym (take_more es i d h))
    (subst (λ (xs : List ℕ). Marked (take i es ++ get_or es i d ∷ []) low xs) (sym e) (taken_marked (take i es) (get_or es i d) low ms marked among))
