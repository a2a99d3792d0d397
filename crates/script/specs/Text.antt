-- A text as lines, and a line as words. Assumes nothing.
use Rattle.std.specs.Prelude.{◌≡◌, ℕ, ◌<◌, cond, ◌⊎◌, List, [], ◌∷◌, ◌++◌, length, Some, None, Option, ◌==◌, ◌≢◌, slice_index}
use Rattle.std.specs.Borrow.{Bor}

-- the byte b put onto the front of the first piece
abbrev pub on_first : ℕ → List (List ℕ) → List (List ℕ)
on_first b [] = (b ∷ []) ∷ []
on_first b (p ∷ ps) = (b ∷ p) ∷ ps

-- the pieces of a text that lie between the bytes c
abbrev pub pieces : ℕ → List ℕ → List (List ℕ)
pieces c [] = [] ∷ []
pieces c (b ∷ bs) = cond (b == c) ([] ∷ pieces c bs) (on_first b (pieces c bs))

-- the pieces of what follows a separator: none where there is no separator
abbrev pub pieces_after : ℕ → Option (Bor (List ℕ)) → List (List ℕ)
pieces_after c None = []
pieces_after c (Some rest) = pieces c rest.now

-- the pieces less an empty last one
abbrev pub less_last : List (List ℕ) → List (List ℕ)
less_last [] = []
less_last ([] ∷ []) = []
less_last ((b ∷ bs) ∷ []) = (b ∷ bs) ∷ []
less_last (p ∷ q ∷ ps) = p ∷ less_last (q ∷ ps)

-- the lines of a text: its pieces between line ends, less an empty last piece
abbrev pub lines_of : List ℕ → List (List ℕ)
lines_of text = less_last (pieces 10 text)

-- the text is a line without a line end in it, and then a line end and the rest, or nothing, which leaves no rest
abbrev pub Splits : List ℕ → List ℕ → List ℕ → Type 0
Splits text line rest = ((k : ℕ) → k < length line → slice_index line k ≢ 10) × ((text ≡ line ++ 10 ∷ rest) ⊎ ((text ≡ line) × (rest ≡ [])))
