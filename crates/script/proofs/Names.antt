-- The first word of a line, which names what the line asks for. Assumes nothing.
use Rattle.std.proofs.Common.{◌≡◌, ℕ, ◌<◌, List, [], ◌∷◌, length, Some, Option, sym, ap, ◌∙◌, arith}
use Rattle.std.specs.Str.{bytes_eq}
use Rattle.std.proofs.lemmas.Slice.Eq.{bytes_eq-Decides}
use Rattle.script.specs.Commands.{after_name}
use Rattle.script.specs.Text.{pieces}
use Rattle.script.specs.Written.{spaced}
use Rattle.script.proofs.Answered.{cond_some}
use Rattle.script.proofs.Pieces.{pieces_some}
use Rattle.script.proofs.Spaced.{spaced_pieces}

module _ {X : Type 0} (f : List (List ℕ) → Option X) where
  -- what words under the name c ask for comes from those after the name
  named_words : (c : ℕ) (ws : List (List ℕ)) (x : X) → 0 < length ws → after_name (c ∷ []) f ws ≡ Some x → (vs : List (List ℕ)) × (ws ≡ (c ∷ []) ∷ vs) × (f vs ≡ Some x)
  named_words c [] x some e = absurd (omega arith)
  named_words c (w ∷ vs) x some e =
      let both = cond_some (bytes_eq w (c ∷ [])) (f vs) x e in
      (vs, ap (λ n. n ∷ vs) ((bytes_eq-Decides w (c ∷ [])).0 both.0), both.1)

  -- what a line under the name c asks for comes from the words after the name
  pub named : (c : ℕ) (line : List ℕ) (x : X) → after_name (c ∷ []) f (pieces 32 line) ≡ Some x → (vs : List (List ℕ)) × (spaced ((c ∷ []) ∷ vs) ≡ line) × (f vs ≡ Some x)
  named c line x e =
      let found = named_words c (pieces 32 line) x (pieces_some 32 line) e in
      (found.0, ap spaced (sym found.1) ∙ spaced_pieces line, found.2)
