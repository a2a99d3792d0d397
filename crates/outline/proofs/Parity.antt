-- A closed outline has an even number of live sides on every sweep line.
use Rattle.std.proofs.Common.{◌≡◌, Bool, true, false, [], ◌∷◌, map, ℤ, count_by, refl, ap, ◌∙◌, arith}
use lib.Signed.{le_z}
use Rattle.std.proofs.lemmas.Int.{ints}
use Rattle.outline.specs.Lists.{odd, unlike}
use Rattle.outline.specs.Outline.{Point, Outline, joined_from}
use Rattle.plotters_backend.specs.declared.axis.Axis.{Axis}
use Rattle.outline.specs.declared.sweep.Side.{Side}
use Rattle.outline.specs.Sweep.{side, sides, live}
use Rattle.plotters_backend.specs.Axis.{turned}
use Rattle.outline.proofs.Counting.{odd_cons}

-- a side is live where just one of its ends is at m or before
live_is : (m : ℤ) (p q : Point) → live m (side (p, q)) ≡ unlike (le_z p.0 m) (le_z q.0 m)
live_is m p q = grind (arith, ints)

-- a middle one falls out
chain : (a b c : Bool) → unlike (unlike a b) (unlike b c) ≡ unlike a c
chain true true true = refl
chain true true false = refl
chain true false true = refl
chain true false false = refl
chain false true true = refl
chain false true false = refl
chain false false true = refl
chain false false false = refl

-- nothing is unlike itself
same : (a : Bool) → unlike a a ≡ false
same true = refl
same false = refl

-- unlike false is the same
unlike_none : (a : Bool) → unlike a false ≡ a
unlike_none true = refl
unlike_none false = refl

module _ (a : Axis) (m : ℤ) where
  -- a point is at the sweep line or before it
  abbrev before : Point → Bool
  before p = le_z (turned a p).0 m

  -- the side of a join
  abbrev side_of : Point × Point → Side
  side_of j = side (turned a j.0, turned a j.1)

  -- the live sides along the outline, by where it begins and ends
  along : (first p : Point) (ps : Outline) → odd (count_by (live m) (map side_of (joined_from first p ps))) ≡ unlike (before p) (before first)
  along first p [] = odd_cons (live m) (side_of (p, first)) [] ∙ unlike_none (live m (side_of (p, first))) ∙ live_is m (turned a p) (turned a first)
  along first p (q ∷ qs) =
      odd_cons (live m) (side_of (p, q)) (map side_of (joined_from first q qs))
      ∙ ap (λ (b : Bool). unlike b (odd (count_by (live m) (map side_of (joined_from first q qs))))) (live_is m (turned a p) (turned a q))
      ∙ ap (unlike (unlike (before p) (before q))) (along first q qs)
      ∙ chain (before p) (before q) (before first)

  -- an outline ends where it begins, so an even number of its sides is live
  pub even_live : (o : Outline) → odd (count_by (live m) (sides a o)) ≡ false
  even_live [] = refl
  even_live (p ∷ ps) = along p p ps ∙ same (before p)
