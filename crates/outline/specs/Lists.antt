-- Words on lists and numbers.
use Rattle.std.specs.Prelude.{ℕ, zero, suc, Bool, true, false, not, ◌||◌, List, [], ◌∷◌, ◌++◌, ℤ, pos, negsuc, ◌+ℤ◌, ◌-ℤ◌}

-- whether a number is odd
abbrev pub odd : ℕ → Bool
odd zero = false
odd (suc n) = not (odd n)

-- just one of the two
abbrev pub unlike : Bool → Bool → Bool
unlike true b = not b
unlike false b = b

-- whether a test holds of some element
abbrev pub any : {X : Type 0} → (X → Bool) → List X → Bool
any test [] = false
any test (x ∷ xs) = test x || any test xs

-- what each element gives, one after the other
abbrev pub in_turn : {X Y : Type 0} → (X → List Y) → List X → List Y
in_turn f [] = []
in_turn f (x ∷ xs) = f x ++ in_turn f xs

-- n whole numbers from a on
abbrev pub rising : ℤ → ℕ → List ℤ
rising a zero = []
rising a (suc n) = a ∷ rising (a +ℤ pos 1) n

-- a whole number from 0 on; one below 0 counts as 0
abbrev pub natural : ℤ → ℕ
natural (pos n) = n
natural (negsuc _) = 0

-- the whole numbers from a to b, both included, in rising order
abbrev pub from_to : ℤ → ℤ → List ℤ
from_to a b = rising a (natural ((b +ℤ pos 1) -ℤ a))
