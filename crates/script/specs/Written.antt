-- How the lines of a script are written. Assumes nothing.
use Rattle.std.specs.Prelude.{◌≡◌, ℕ, ◌≤◌, ◌⊎◌, List, [], ◌∷◌, ◌++◌, length, ℤ, pos, neg_ℤ, codes}
use Rattle.std.specs.Str.Parse.{digits_value}
use Rattle.std.specs.Int.{IsInRange}
use Rattle.std.specs.List.{AllByRecursion}
use Rattle.script.specs.declared.Command.{Command}
use Rattle.script.specs.declared.Command.TheVariants.{Line}

-- the words with one space between each two
abbrev pub spaced : List (List ℕ) → List ℕ
spaced [] = []
spaced (w ∷ []) = w
spaced (w ∷ v ∷ ws) = w ++ 32 ∷ spaced (v ∷ ws)

-- the digits ds write the number n
abbrev pub Writes : List ℕ → ℕ → Type 0
Writes ds n = (1 ≤ length ds) × (length ds ≤ 6) × AllByRecursion (IsInRange 48 57) ds × (digits_value 10 ds ≡ n)

-- the word ds writes the coordinate z
abbrev pub Places : List ℕ → ℤ → Type 0
Places ds z = ((n : ℕ) × Writes ds n × (z ≡ pos n)) ⊎ ((es : List ℕ) × (n : ℕ) × (ds ≡ 45 ∷ es) × Writes es n × (z ≡ neg_ℤ (pos n)))

-- the line is written `S w h`
abbrev pub IsSize : List ℕ → ℕ × ℕ → Type 0
IsSize line s = (a : List ℕ) × (b : List ℕ) × (line ≡ spaced (codes "S" ∷ a ∷ b ∷ [])) × Writes a s.0 × Writes b s.1

-- the line is written `L width x y x y`
abbrev pub IsLine : List ℕ → Command → Type 0
IsLine line (Line n p q) =
    (w : List ℕ) × (a : List ℕ) × (b : List ℕ) × (c : List ℕ) × (d : List ℕ) × (line ≡ spaced (codes "L" ∷ w ∷ a ∷ b ∷ c ∷ d ∷ []))
    × Writes w n
    × Places a p.0
    × Places b p.1
    × Places c q.0
    × Places d q.1

-- the words write the coordinates of the points, x before y, in order
abbrev pub Outlines : List (List ℕ) → List (ℤ × ℤ) → Type 0
Outlines ws [] = ws ≡ []
Outlines ws (p ∷ ps) = (x : List ℕ) × (y : List ℕ) × (vs : List (List ℕ)) × (ws ≡ x ∷ y ∷ vs) × Places x p.0 × Places y p.1 × Outlines vs ps

-- the line is written `F width x y ..`, with at most 64 points
abbrev pub IsFill : List ℕ → ℕ × List (ℤ × ℤ) → Type 0
IsFill line f = (w : List ℕ) × (ws : List (List ℕ)) × (line ≡ spaced (codes "F" ∷ w ∷ ws)) × Writes w f.0 × Outlines ws f.1 × (length f.1 ≤ 64)
