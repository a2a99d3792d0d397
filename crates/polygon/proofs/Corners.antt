-- Going over the corners of an outline: its box, and its sides.
use Rattle.std.proofs.Common.{◌≡◌, ℕ, zero, suc, ◌+◌, ◌<◌, Bool, ◌||◌, List, [], ◌∷◌, ◌++◌, length, get_or, take, set, sym, refl, ap, ◌∙◌, arith, add-one}
use Rattle.std.specs.List.{list_any}
use Rattle.std.proofs.lemmas.List.{take_more, take_more_set, length-map, get_or-map}
use Rattle.outline.specs.Lists.{any}
use Rattle.outline.specs.Outline.{Point, Outline, joined, joined_from}
use Rattle.outline.specs.Sweep.{side, sides}
use Rattle.plotters_backend.specs.Axis.{turned}
use Rattle.plotters_backend.specs.declared.axis.Axis.{Axis}
use Rattle.outline.specs.declared.sweep.Side.{Side}

-- ---- a corner that passes a test

-- a test of some corner, as a chain answers it
pub any_is : {X : Type 0} (p : X → Bool) (xs : List X) → list_any p xs ≡ any p xs
any_is p [] = refl
any_is p (x ∷ xs) = ap (λ (b : Bool). p x || b) (any_is p xs)

-- ---- the sides

-- the join at i of a way that began at first: the corner there, and the next one or at the end the first
next_from : (first p : Point) (qs : Outline) (i : ℕ) (d : Point × Point) (z : Point) → i < length (p ∷ qs) → get_or (joined_from first p qs) i d ≡ (get_or (p ∷ qs) i z, get_or qs i first)
next_from first p [] zero d z h = refl
next_from first p [] (suc i) d z h = absurd (omega arith)
next_from first p (q ∷ qs) zero d z h = refl
next_from first p (q ∷ qs) (suc i) d z h = next_from first q qs i d z (omega arith)

length_from : (first p : Point) (qs : Outline) → length (joined_from first p qs) ≡ suc (length qs)
length_from first p [] = refl
length_from first p (q ∷ qs) = ap suc (length_from first q qs)

length_joined : (o : Outline) → length (joined o) ≡ length o
length_joined [] = refl
length_joined (p ∷ ps) = length_from p p ps

-- there are as many sides as corners
pub length_sides : (a : Axis) (o : Outline) → length (sides a o) ≡ length o
length_sides a o = length-map (joined o) (λ j. side (turned a j.0, turned a j.1)) ∙ length_joined o

-- the join at i: the corner there and the one after it, which at the end is the first
joined_at : (o : Outline) (i : ℕ) (d : Point × Point) (z : Point) → i < length o → get_or (joined o) i d ≡ (get_or o i z, get_or o (i + 1) (get_or o 0 z))
joined_at [] i d z h = absurd (omega arith)
joined_at (p ∷ ps) i d z h = next_from p p ps i d z h ∙ ap {B = Point × Point} (λ (k : ℕ). (get_or (p ∷ ps) i z, get_or (p ∷ ps) k p)) (sym (add-one i))

-- the side at i joins the corner there to the one after it
pub side_at : (a : Axis) (o : Outline) (i : ℕ) (d : Side) (z : Point) → i < length o → get_or (sides a o) i d ≡ side (turned a (get_or o i z), turned a (get_or o (i + 1) (get_or o 0 z)))
side_at a o i d z h =
    get_or-map (λ j. side (turned a j.0, turned a j.1)) (joined o) i (z, z) d (let e = length_joined o in omega arith)
    ∙ ap (λ (j : Point × Point). side (turned a j.0, turned a j.1)) (joined_at o i (z, z) z h)

-- one side more lies in the pool
pub sides_more : (a : Axis) (o : Outline) (pool : List Side) (i : ℕ) (v : Side) → i < length o → length pool ≡ length o → take i pool ≡ take i (sides a o) → get_or (sides a o) i v ≡ v → take (i + 1) (set pool i v) ≡ take (i + 1) (sides a o)
sides_more a o pool i v h l e w =
    let n = length_sides a o in
    take_more_set pool i v (omega arith)
    ∙ ap (λ (xs : List Side). xs ++ v ∷ []) e
    ∙ sym (take_more (sides a o) i v (omega arith) ∙ ap (λ (x : Side). take i (sides a o) ++ x ∷ []) w)
