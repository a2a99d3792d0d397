-- Pieces less an empty last one. Assumes nothing.
use Rattle.std.proofs.Common.{◌≡◌, ℕ, ◌<◌, List, [], ◌∷◌, length, refl, ap, ◌∙◌, arith}
use Rattle.script.specs.Text.{pieces, less_last}
use Rattle.script.proofs.Pieces.{pieces_some}

-- a piece before others stays
less_more : (p : List ℕ) (ps : List (List ℕ)) → 0 < length ps → less_last (p ∷ ps) ≡ p ∷ less_last ps
less_more p [] h = absurd (omega arith)
less_more [] (q ∷ ps) h = refl
less_more (b ∷ bs) (q ∷ ps) h = refl

-- a last piece that is not empty stays
less_one : (p : List ℕ) → 0 < length p → less_last (p ∷ []) ≡ p ∷ []
less_one [] h = absurd (omega arith)
less_one (b ∷ bs) h = refl

-- the first piece and the others, less an empty last one
pub less_cut : (c : ℕ) (text first rest : List ℕ) → pieces c text ≡ first ∷ pieces c rest → less_last (pieces c text) ≡ first ∷ less_last (pieces c rest)
less_cut c text first rest e = ap less_last e ∙ less_more first (pieces c rest) (pieces_some c rest)

-- the only piece of a text that is not empty stays
pub less_alone : (c : ℕ) (text : List ℕ) → 0 < length text → pieces c text ≡ text ∷ [] → less_last (pieces c text) ≡ text ∷ []
less_alone c text some e = ap less_last e ∙ less_one text some
