-- A written sheet.
use Rattle.std.specs.Prelude.{ℕ, ◌+◌, ◌*◌, ◌/◌, ◌%◌, cond, List, [], ◌∷◌, ◌++◌, length, drop, Ok, Err, Result, nat_lt}
use Rattle.plotters_backend.specs.declared.error.Refusal.{Refusal}
use Rattle.plotters_backend.specs.declared.error.Refusal.TheVariants.{Pool}
use Rattle.std.specs.List.{flat_map}
use Rattle.dots.specs.declared.pair.Pair.{Pair}
use Rattle.dots.specs.Dots.{pairs_of}
use Rattle.dots.specs.Grid.{Grid}

-- 32 bits, the lowest byte first
abbrev pub word : ℕ → List ℕ
word n = n % 256 ∷ n / 256 % 256 ∷ n / 65536 % 256 ∷ n / 16777216 % 256 ∷ []

abbrev pub pair_bytes : Pair → List ℕ
pair_bytes r = word r.offset ++ word r.len

-- width, height and number of pairs
abbrev pub head_bytes : ℕ → ℕ → ℕ → List ℕ
head_bytes w h c = word w ++ word h ++ word c

-- a sheet of w by h with these pairs
abbrev pub sheet_bytes : ℕ → ℕ → List Pair → List ℕ
sheet_bytes w h rs = head_bytes w h (length rs) ++ flat_map pair_bytes rs

-- a written grid
abbrev pub written : Grid → List ℕ
written g = sheet_bytes g.size.0 g.size.1 (pairs_of g.dots)

-- how many bytes that takes
abbrev pub written_length : Grid → ℕ
written_length g = 12 + 8 * length (pairs_of g.dots)

-- what writing a grid into a buffer answers, and what the buffer then holds
abbrev pub writes : Grid → List ℕ → Result ℕ Refusal × List ℕ
writes g out = cond (nat_lt (length out) (written_length g)) (Err Pool, out) (Ok (written_length g), written g ++ drop (written_length g) out)
