-- Reading the marks of a sweep line one after the other.
use Rattle.std.proofs.Common.{◌≡◌, ℕ, ◌+◌, ◌%◌, ◌<◌, Bool, true, false, ◌||◌, eqb, ltb, List, length, get_or, take, ℤ, pos, ◌+ℤ◌, ◌-ℤ◌, count_by, sym, refl, ap, ◌∙◌, add-one, arith}
use Rattle.std.proofs.lemmas.Int.{ints}
use Rattle.std.proofs.lemmas.List.Sums.{count_by_more_no, count_by_more_yes}
use Rattle.outline.specs.Lists.{odd, natural, unlike}
use Rattle.polygon.specs.Marking.{covers, parity_at}
use Rattle.polygon.specs.Walking.{covered_from}

-- a mark is turned
abbrev turn : ℕ → Bool
turn n = eqb (n % 2) 1

-- an odd number of the first i marks are turned
abbrev pub odd_before : List ℕ → ℕ → Bool
odd_before ms i = odd (count_by turn (take i ms))

-- the mark at i turns the parity of those before it, if it is turned
parity_more : (ms : List ℕ) (i : ℕ) → i < length ms → parity_at ms i ≡ unlike (turn (get_or ms i 0)) (odd_before ms i)
parity_more ms i h = by (turn (get_or ms i 0)) refl
  where
    by : (t : Bool) → turn (get_or ms i 0) ≡ t → parity_at ms i ≡ unlike t (odd_before ms i)
    by true e = ap odd (ap (λ (j : ℕ). count_by turn (take j ms)) (sym (add-one i)) ∙ count_by_more_yes turn ms i 0 h e ∙ add-one (count_by turn (take i ms)))
    by false e = ap odd (ap (λ (j : ℕ). count_by turn (take j ms)) (sym (add-one i)) ∙ count_by_more_no turn ms i 0 h e)

-- the marks up to i are those before i + 1
pub parity_next : (ms : List ℕ) (i : ℕ) → parity_at ms i ≡ odd_before ms (i + 1)
parity_next ms i = ap (λ (j : ℕ). odd_before ms j) (sym (add-one i))

-- what `read_mark` answers of the mark at i, after the marks before it
module _ (ms : List ℕ) (i : ℕ) (before : Bool) (mark : ℕ) (r : Bool × Bool) (short : i < length ms) (was : before ≡ odd_before ms i) (is : mark ≡ get_or ms i 0) (read : r ≡ (unlike (eqb (mark % 2) 1) before, unlike (eqb (mark % 2) 1) before || ltb 1 mark)) where
  -- the parity that it works out
  told : unlike (eqb (mark % 2) 1) before ≡ parity_at ms i
  told = ap (λ (n : ℕ). unlike (turn n) before) is ∙ ap (unlike (turn (get_or ms i 0))) was ∙ sym (parity_more ms i short)

  -- the parity of the marks up to i
  pub read_parity : r.0 ≡ parity_at ms i
  read_parity = ap (λ (z : Bool × Bool). z.0) read ∙ told

  -- whether the cell of the mark i is covered
  pub read_covers : r.1 ≡ covers ms i
  read_covers = ap (λ (z : Bool × Bool). z.1) read ∙ ap (λ (b : Bool). b || ltb 1 mark) told ∙ ap (λ (n : ℕ). parity_at ms i || ltb 1 n) is

-- the cell that lies i after the first is covered as its mark says
pub covered_at : (first z : ℤ) (ms : List ℕ) (i : ℕ) → z ≡ first +ℤ pos i → covered_from first ms z ≡ covers ms i
covered_at first z ms i e = let n : z -ℤ first ≡ pos i = omega (arith, ints) in ap (λ (y : ℤ). covers ms (natural y)) n
