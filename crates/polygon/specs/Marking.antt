-- The marks of a sweep line, a byte for each cell, counted from the box's least cell.
use Rattle.std.specs.Prelude.{◌≡◌, ℕ, suc, ◌+◌, ◌%◌, ◌<◌, Bool, cond, ◌&&◌, ◌||◌, List, length, take, ℤ, pos, ◌+ℤ◌, ◌-ℤ◌, ◌≤ℤ◌, ◌<ℤ◌, count_by, bit_or, bit_xor, int_lt, nat_eq, nat_lt, slice_index, slice_set}
use Rattle.edges.specs.declared.side.Edge.{Edge}
use Rattle.edges.specs.Side.{Sound, floor_at, ceil_at}
use Rattle.outline.specs.Lists.{odd, any, natural}
use Rattle.outline.specs.Outline.{same_z}

-- an odd number of edges turn the mark of c, that is, have c one past their floor
abbrev pub turns : List Edge → ℤ → Bool
turns es c = odd (count_by (λ e. same_z (floor_at e +ℤ pos 1) c) es)

-- the place of an edge is the whole number c
abbrev pub stands_at : ℤ → Edge → Bool
stands_at c e = same_z (floor_at e) c && same_z (ceil_at e) c

-- an edge notes the mark of c
abbrev pub notes : List Edge → ℤ → Bool
notes es c = any (stands_at c) es

-- a mark as a byte: 1 if it is turned, and 2 more if it is noted
abbrev pub mark : Bool → Bool → ℕ
mark turn note = cond turn 1 0 + cond note 2 0

-- the marks, counted from low, are those of the edges
abbrev pub Marked : List Edge → ℤ → List ℕ → Type 0
Marked es low ms = (i : ℕ) → i < length ms → slice_index ms i ≡ mark (turns es (low +ℤ pos i)) (notes es (low +ℤ pos i))

-- a sound edge whose place, and the cell after its floor, lie among n marks counted from low
pub record Among (low : ℤ) (n : ℕ) (e : Edge) : Type 0 where
  pub sound : Sound e
  pub from : low ≤ℤ floor_at e
  pub upto : (floor_at e +ℤ pos 1) <ℤ (low +ℤ pos n)

-- where the mark of the cell c stands
abbrev pub index_of : ℤ → ℤ → ℕ
index_of low c = natural (c -ℤ low)

-- the marks after an edge is taken up: the one past its floor is turned, and the one at a whole place is noted
abbrev pub turned_at : ℕ → List ℕ → List ℕ
turned_at i ms = slice_set ms i (bit_xor (slice_index ms i) 1)

abbrev pub noted_at : ℕ → List ℕ → List ℕ
noted_at i ms = slice_set ms i (bit_or (slice_index ms i) 2)

abbrev pub taken_up : ℤ → Edge → List ℕ → List ℕ
taken_up low e ms = cond (same_z (floor_at e) (ceil_at e)) (noted_at (index_of low (floor_at e)) (turned_at (index_of low (floor_at e) + 1) ms)) (turned_at (index_of low (floor_at e) + 1) ms)

-- what edges cover: an odd number of them have a place smaller than c, or one stands at c
abbrev pub covering : List Edge → ℤ → Bool
covering es c = odd (count_by (λ e. int_lt (floor_at e) c) es) || notes es c

-- ---- reading marks

-- an odd number of the first i + 1 marks are turned
abbrev pub parity_at : List ℕ → ℕ → Bool
parity_at ms i = odd (count_by (λ n. nat_eq (n % 2) 1) (take (suc i) ms))

-- the marks say that the cell of the mark i is covered
abbrev pub covers : List ℕ → ℕ → Bool
covers ms i = parity_at ms i || nat_lt 1 (slice_index ms i)
