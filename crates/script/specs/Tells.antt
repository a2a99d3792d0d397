-- An answer that tells all there is to know. Assumes nothing.
use Rattle.std.specs.Prelude.{◌≡◌, Some, None, Option}

-- an answer that tells which x has P: the one there is, or none where there is none
abbrev pub Tells : {X : Type 0} → (X → Type 0) → Option X → Type 0
Tells {X} P None = (x : X) → P x → ⊥
Tells {X} P (Some x) = P x × ((y : X) → P y → y ≡ x)
