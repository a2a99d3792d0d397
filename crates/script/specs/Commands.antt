-- What the lines of a script ask for. Assumes nothing.
use Rattle.std.specs.Prelude.{ℕ, cond, List, [], ◌∷◌, length, drop, ℤ, Some, None, codes, Option, ◌==◌, nat_le, slice_index_or}
use Rattle.std.specs.Option.{option_map, option_zip}
use Rattle.std.specs.Str.{bytes_eq}
use Rattle.arrayvec.specs.ArrayVec.{ArrayVec}
use Rattle.script.specs.Numbers.{number, coordinate}
use Rattle.script.specs.Text.{pieces}
use Rattle.script.specs.declared.Command.{Command}
use Rattle.script.specs.declared.Command.TheVariants.{Line}

-- what f makes of the words after the first, where the first is n
abbrev pub after_name : {X : Type 0} → List ℕ → (List (List ℕ) → Option X) → List (List ℕ) → Option X
after_name n f ws = cond (bytes_eq (slice_index_or ws 0 []) n) (f (drop 1 ws)) None

-- the words w h as a size
abbrev pub size_of : List (List ℕ) → Option (ℕ × ℕ)
size_of ws = cond (length ws == 2) (option_zip (number (slice_index_or ws 0 [])) (number (slice_index_or ws 1 []))) None

-- the size that a line `S w h` asks for
abbrev pub size_line : List ℕ → Option (ℕ × ℕ)
size_line line = after_name (codes "S") size_of (pieces 32 line)

-- the point that the first two words write
abbrev pub point_of : List (List ℕ) → Option (ℤ × ℤ)
point_of ws = option_zip (coordinate (slice_index_or ws 0 [])) (coordinate (slice_index_or ws 1 []))

-- the words x y x y as two points
abbrev pub ends_of : List (List ℕ) → Option ((ℤ × ℤ) × (ℤ × ℤ))
ends_of ws = cond (length ws == 4) (option_zip (point_of ws) (point_of (drop 2 ws))) None

-- the words width x y x y as a command
abbrev pub draw_of : List (List ℕ) → Option Command
draw_of ws = option_map (λ c. Line c.0 c.1.0 c.1.1) (option_zip (number (slice_index_or ws 0 [])) (ends_of (drop 1 ws)))

-- what a line `L width x y x y` asks for
abbrev pub draw_line : List ℕ → Option Command
draw_line line = after_name (codes "L") draw_of (pieces 32 line)

-- the words x y x y .. as points
abbrev pub points_of : List (List ℕ) → Option (List (ℤ × ℤ))
points_of [] = Some []
points_of (x ∷ []) = None
points_of (x ∷ y ∷ ws) = option_map (λ p. p.0 ∷ p.1) (option_zip (point_of (x ∷ y ∷ ws)) (points_of ws))

-- at most 128 words as points, of which there are at most 64
abbrev pub outline_of : List (List ℕ) → Option (List (ℤ × ℤ))
outline_of ws = cond (nat_le (length ws) 128) (points_of ws) None

-- the words width x y x y .. as a width and points
abbrev pub fill_of : List (List ℕ) → Option (ℕ × List (ℤ × ℤ))
fill_of ws = option_zip (number (slice_index_or ws 0 [])) (outline_of (drop 1 ws))

-- the width and the points that a line `F width x y ..` asks for
abbrev pub fill_line : List ℕ → Option (ℕ × List (ℤ × ℤ))
fill_line line = after_name (codes "F") fill_of (pieces 32 line)

-- the width and the points of an answer
abbrev pub width_and_points : Option (ℕ × ArrayVec (ℤ × ℤ)) → Option (ℕ × List (ℤ × ℤ))
width_and_points r = option_map (λ a. (a.0, a.1.items)) r
