-- Where an offset lies among the pairs of a sheet.
use Rattle.std.specs.Prelude.{ℕ, ◌+◌, Bool, false, cond, List, [], ◌∷◌, ◌==◌, nat_lt}
use Rattle.dots.specs.declared.pair.Pair.{Pair}

-- how many pairs, from the first on, begin at the offset o or before it
abbrev pub up_to : List Pair → ℕ → ℕ
up_to [] o = 0
up_to (r ∷ rs) o = cond (nat_lt o r.offset) 0 (1 + up_to rs o)

-- whether the first of some pairs begins at the offset o
abbrev pub starts_at : List Pair → ℕ → Bool
starts_at [] o = false
starts_at (r ∷ rs) o = r.offset == o

-- the least offset at which a pair may begin after the pairs xs
abbrev pub reach : ℕ → List Pair → ℕ
reach low [] = low
reach low (r ∷ rs) = reach (r.offset + r.len + 1) rs
