-- The walk lays each covered cell once, in rising order.
use Rattle.std.proofs.Common.{◌≡◌, ◌≤◌, Bool, true, false, cond, List, [], ◌∷◌, ◌++◌, ℤ, pos, ◌+ℤ◌, ◌-ℤ◌, nat_abs, ◌≤ℤ◌, ◌<ℤ◌, Some, None, filter, Option, sym, refl, ap, ◌∙◌, append_assoc, append-nil, arith}
use Rattle.std.proofs.lemmas.Int.{ints}
use Rattle.outline.specs.Lists.{from_to}
use Rattle.polygon.specs.Walking.{Begun, laid_at, next}
use Rattle.outline.proofs.Rising.{first_from, last_from, none_from, one_from}

-- one on and one back
back_one : (c : ℤ) → c ≡ (c +ℤ pos 1) -ℤ pos 1
back_one c = omega (arith, ints)

-- a run in hand has begun before the next cell too
pub begun_more : (b : Bool) (hand : Option ℤ) (c : ℤ) → nat_abs c ≤ 32767 → Begun hand c → Begun (next hand b c) (c +ℤ pos 1)
begun_more true None c n g = (n, omega (arith, ints))
begun_more false None c n g = tt
begun_more true (Some a) c n g = let l = g.1 in (g.0, omega (arith, ints))
begun_more false (Some a) c n g = tt

module _ (cov : ℤ → Bool) (high : ℤ) where
  -- what is still to be laid at the cell c: the run in hand, and the covered cells from c to high
  abbrev pub left : Option ℤ → ℤ → List ℤ
  left hand c = laid_at hand false c ++ filter cov (from_to c high)

  -- the covered cells from c on are c, if it is covered, and those after it
  rest : (c : ℤ) → c ≤ℤ high → filter cov (from_to c high) ≡ cond (cov c) (c ∷ []) [] ++ filter cov (from_to (c +ℤ pos 1) high)
  rest c h = ap (filter cov) (first_from c high h) ∙ go (cov c)
    where
      go : (b : Bool) → cond b (c ∷ filter cov (from_to (c +ℤ pos 1) high)) (filter cov (from_to (c +ℤ pos 1) high)) ≡ cond b (c ∷ []) [] ++ filter cov (from_to (c +ℤ pos 1) high)
      go true = refl
      go false = refl

  -- the cell c goes to the run in hand, or ends it
  moved : (b : Bool) (hand : Option ℤ) (c : ℤ) (more : List ℤ) → Begun hand c → laid_at hand false c ++ (cond b (c ∷ []) [] ++ more) ≡ laid_at hand b c ++ (laid_at (next hand b c) false (c +ℤ pos 1) ++ more)
  moved true None c more g = ap (λ (zs : List ℤ). zs ++ more) (sym (one_from c) ∙ ap (from_to c) (back_one c))
  moved false None c more g = refl
  moved true (Some a) c more g = let l = g.1 in sym (append_assoc (from_to a (c -ℤ pos 1)) (c ∷ []) more) ∙ ap (λ (zs : List ℤ). zs ++ more) (sym (last_from a c (omega (arith, ints))) ∙ ap (from_to a) (back_one c))
  moved false (Some a) c more g = refl

  -- one cell of the walk
  pub left_more : (hand : Option ℤ) (c : ℤ) → c ≤ℤ high → Begun hand c → left hand c ≡ laid_at hand (cov c) c ++ left (next hand (cov c) c) (c +ℤ pos 1)
  left_more hand c h g = ap (λ (zs : List ℤ). laid_at hand false c ++ zs) (rest c h) ∙ moved (cov c) hand c (filter cov (from_to (c +ℤ pos 1) high)) g

  -- past the last cell the run in hand is left
  pub left_all : (hand : Option ℤ) (c : ℤ) → high <ℤ c → left hand c ≡ laid_at hand false c
  left_all hand c h = ap (λ (zs : List ℤ). laid_at hand false c ++ filter cov zs) (none_from c high h) ∙ append-nil (laid_at hand false c)
