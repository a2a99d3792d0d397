-- A sheet as text.
use Rattle.std.specs.Prelude.{ℕ, List, [], ◌∷◌, ◌++◌, length}
use Rattle.std.specs.Fmt.{decimal}
use Rattle.std.specs.List.{flat_map}
use Rattle.dots.specs.declared.pair.Pair.{Pair}
use Rattle.dots.specs.Dots.{pairs_of}
use Rattle.dots.specs.Grid.{Grid}

-- two numbers in decimal with a space between them, and the end of the line
abbrev pub line_text : ℕ → ℕ → List ℕ
line_text m n = decimal m ++ (32 ∷ (decimal n ++ (10 ∷ [])))

-- a pair: its offset and its length
abbrev pub pair_text : Pair → List ℕ
pair_text r = line_text r.offset r.len

-- width, height and number of pairs
abbrev pub head_text : ℕ → ℕ → ℕ → List ℕ
head_text w h c = decimal w ++ (32 ∷ line_text h c)

-- a sheet of w by h with these pairs: the head, and then a line for each pair
abbrev pub sheet_text : ℕ → ℕ → List Pair → List ℕ
sheet_text w h rs = head_text w h (length rs) ++ flat_map pair_text rs

-- the text of a grid
abbrev pub grid_text : Grid → List ℕ
grid_text g = sheet_text g.size.0 g.size.1 (pairs_of g.dots)
