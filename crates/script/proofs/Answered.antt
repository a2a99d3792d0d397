-- What an answer that is there says of its parts. Assumes nothing.
use Rattle.std.proofs.Common.{◌≡◌, Bool, true, false, cond, Some, None, Option, refl, ap}
use Rattle.std.specs.Option.{option_map, option_zip}
use Rattle.std.proofs.lemmas.Option.{none-some}
use Rattle.script.specs.Tells.{Tells}

-- an answer under a test came where the test passed
pub cond_some : {X : Type 0} (t : Bool) (o : Option X) (x : X) → cond t o None ≡ Some x → (t ≡ true) × (o ≡ Some x)
cond_some true o x e = (refl, e)
cond_some false o x e = absurd (none-some _ e)

-- an answer under a function came from an answer
pub mapped_some : {X Y : Type 0} (f : X → Y) (o : Option X) (y : Y) → option_map f o ≡ Some y → (x : X) × (o ≡ Some x) × (f x ≡ y)
mapped_some f None y e = absurd (none-some _ e)
mapped_some f (Some x) y e = (x, refl, cc)

-- an answer in two parts has both
pub zipped_some : {X Y : Type 0} (o : Option X) (p : Option Y) (z : X × Y) → option_zip o p ≡ Some z → (o ≡ Some z.0) × (p ≡ Some z.1)
zipped_some None p z e = absurd (none-some _ e)
zipped_some (Some x) None z e = absurd (none-some _ e)
zipped_some (Some x) (Some y) z e = let same : (x, y) ≡ z = cc in (ap (λ s. Some s.0) same, ap (λ s. Some s.1) same)

-- an answer that has P, and that each x with P is, tells which x has P
pub tells_from : {X : Type 0} (P : X → Type 0) (o : Option X) → ((x : X) → o ≡ Some x → P x) → ((x : X) → P x → o ≡ Some x) → Tells P o
tells_from P None to from = λ x p. none-some _ (from x p)
tells_from P (Some x) to from = (to x refl, λ y p. let e = from y p in cc)
