-- The dots of a sheet and its pairs. A dot is dark where it is `true`.
use Rattle.std.specs.Prelude.{ℕ, ◌+◌, ◌<◌, ◌≤◌, Bool, true, false, cond, ◌&&◌, ◌||◌, List, [], ◌∷◌, map, ◌==◌, nat_le, nat_lt}
use Rattle.std.specs.List.{range_with_len}
use Rattle.dots.specs.declared.pair.Pair.{Pair}

abbrev pub pair : ℕ → ℕ → Pair
pair o l = record { offset = o; len = l }

-- whether the pair r covers the offset k
abbrev pub covers : Pair → ℕ → Bool
covers r k = nat_le r.offset k && nat_lt k (r.offset + r.len)

-- whether some pair covers the offset k
abbrev pub dark : List Pair → ℕ → Bool
dark [] k = false
dark (r ∷ rs) k = covers r k || dark rs k

-- the dots of n places
abbrev pub dots_of : ℕ → List Pair → List Bool
dots_of n rs = map (dark rs) (range_with_len 0 n)

-- the pairs in rising order, none empty or past the last of n dots, with a light dot between two; the first begins at `low` or later
abbrev pub Canon : ℕ → ℕ → List Pair → Type 0
Canon n low [] = Unit {0}
Canon n low (r ∷ rs) = (low ≤ r.offset) × (0 < r.len) × (r.offset + r.len ≤ n) × Canon n (r.offset + r.len + 1) rs

-- the same as a test
abbrev pub canonical : ℕ → ℕ → List Pair → Bool
canonical n low [] = true
canonical n low (r ∷ rs) = nat_le low r.offset && (nat_lt 0 r.len && (nat_le (r.offset + r.len) n && canonical n (r.offset + r.len + 1) rs))

-- the pairs of the dots from o on, where the dot o is dark and `rs` are those of the dots after it
abbrev pub begun : ℕ → List Pair → List Pair
begun o [] = pair o 1 ∷ []
begun o (r ∷ rs) = cond (r.offset == o + 1) (pair o (r.len + 1) ∷ rs) (pair o 1 ∷ r ∷ rs)

-- the pairs of dots of which the first has the offset o
abbrev pub pairs_from : ℕ → List Bool → List Pair
pairs_from o [] = []
pairs_from o (d ∷ ds) = cond d (begun o (pairs_from (o + 1) ds)) (pairs_from (o + 1) ds)

abbrev pub pairs_of : List Bool → List Pair
pairs_of ds = pairs_from 0 ds
