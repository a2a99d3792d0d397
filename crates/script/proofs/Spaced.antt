-- A line is its words with a space between each two. Assumes nothing.
use Rattle.std.proofs.Common.{◌≡◌, ℕ, ◌<◌, eqb, List, [], ◌∷◌, length, sym, refl, ap, ◌∙◌, ⊎_elim, arith}
use Rattle.std.specs.List.{AllByRecursion}
use Rattle.std.proofs.lemmas.Bool.{eqb-true, cases_Bool, cond-true, cond-false}
use Rattle.script.specs.Text.{on_first, pieces}
use Rattle.script.specs.Written.{spaced}
use Rattle.script.proofs.Pieces.{Lacks, pieces_some, pieces_alone, pieces_cut}

-- a byte put onto the first word stands in front of the line
spaced_first : (b : ℕ) (ws : List (List ℕ)) → spaced (on_first b ws) ≡ b ∷ spaced ws
spaced_first b [] = refl
spaced_first b (w ∷ []) = refl
spaced_first b (w ∷ v ∷ ws) = refl

-- an empty word before others puts a space in front of the line
spaced_next : (ws : List (List ℕ)) → 0 < length ws → spaced ([] ∷ ws) ≡ 32 ∷ spaced ws
spaced_next [] h = absurd (omega arith)
spaced_next (w ∷ ws) h = refl

-- the words of a line, with spaces between them, are the line
pub spaced_pieces : (line : List ℕ) → spaced (pieces 32 line) ≡ line
spaced_pieces [] = refl
spaced_pieces (b ∷ bs) =
    ⊎_elim
    (λ e. ap spaced (cond-true (eqb b 32) _ _ e) ∙ spaced_next (pieces 32 bs) (pieces_some 32 bs) ∙ ap (λ l. 32 ∷ l) (spaced_pieces bs) ∙ ap (λ x. x ∷ bs) (sym (eqb-true b 32 e)))
    (λ e. ap spaced (cond-false (eqb b 32) _ _ e) ∙ spaced_first b (pieces 32 bs) ∙ ap (λ l. b ∷ l) (spaced_pieces bs))
    (cases_Bool (eqb b 32))

-- words that hold no space are the words of the line that they make
pub pieces_spaced : (w : List ℕ) (ws : List (List ℕ)) → Lacks 32 w → AllByRecursion (Lacks 32) ws → pieces 32 (spaced (w ∷ ws)) ≡ w ∷ ws
pieces_spaced w [] h hs = pieces_alone 32 w h
pieces_spaced w (v ∷ ws) h hs = pieces_cut 32 w (spaced (v ∷ ws)) h ∙ ap (λ l. w ∷ l) (pieces_spaced v ws hs.0 hs.1)
