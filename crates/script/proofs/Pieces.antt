-- How a text falls into pieces at a byte. Assumes nothing.
use Rattle.std.proofs.Common.{◌≡◌, ℕ, ◌<◌, eqb, List, [], ◌∷◌, ◌++◌, length, get_or, refl, ap, ◌∙◌, arith}
use Rattle.std.specs.List.{AllByRecursion}
use Rattle.std.proofs.ByRecursion.{All-from_get_or}
use Rattle.std.proofs.lemmas.Bool.{eq-eqb, ne_eqb, cond-true, cond-false, cond_both}
use Rattle.script.specs.Text.{on_first, pieces}

-- no byte of xs is c
abbrev pub Lacks : ℕ → List ℕ → Type 0
Lacks c xs = AllByRecursion (λ b. b ≡ c → ⊥) xs

-- a text without c is one piece
pub pieces_alone : (c : ℕ) (xs : List ℕ) → Lacks c xs → pieces c xs ≡ xs ∷ []
pieces_alone c [] h = refl
pieces_alone c (x ∷ xs) h = cond-false _ _ _ (ne_eqb x c h.0) ∙ ap (on_first x) (pieces_alone c xs h.1)

-- what stands before the first c is the first piece
pub pieces_cut : (c : ℕ) (xs ys : List ℕ) → Lacks c xs → pieces c (xs ++ c ∷ ys) ≡ xs ∷ pieces c ys
pieces_cut c [] ys h = cond-true _ _ _ (eq-eqb c c refl)
pieces_cut c (x ∷ xs) ys h = cond-false _ _ _ (ne_eqb x c h.0) ∙ ap (on_first x) (pieces_cut c xs ys h.1)

-- a text none of whose bytes is c is one piece
pub pieces_whole : (c : ℕ) (text : List ℕ) → ((k : ℕ) → k < length text → get_or text k 0 ≡ c → ⊥) → pieces c text ≡ text ∷ []
pieces_whole c text lacks = pieces_alone c text (All-from_get_or (λ b. b ≡ c → ⊥) text 0 lacks)

-- where a text is bytes other than c, then c and the rest, those bytes are the first piece
pub pieces_first : (c : ℕ) (text first rest : List ℕ) → ((k : ℕ) → k < length first → get_or first k 0 ≡ c → ⊥) → text ≡ first ++ c ∷ rest → pieces c text ≡ first ∷ pieces c rest
pieces_first c text first rest lacks whole = ap (pieces c) whole ∙ pieces_cut c first rest (All-from_get_or (λ b. b ≡ c → ⊥) first 0 lacks)

-- to put a byte onto the first of some pieces leaves some
on_first_some : (b : ℕ) (ps : List (List ℕ)) → 0 < length (on_first b ps)
on_first_some b [] = omega arith
on_first_some b (p ∷ ps) = omega arith

-- every text has a piece
pub pieces_some : (c : ℕ) (text : List ℕ) → 0 < length (pieces c text)
pieces_some c [] = omega arith
pieces_some c (b ∷ bs) = cond_both (eqb b c) _ _ (λ ps. 0 < length ps) (λ e. omega arith) (λ e. on_first_some b (pieces c bs))
