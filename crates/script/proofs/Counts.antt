-- What is left after the last word decides whether the words are a size or two points. Assumes nothing.
use Rattle.std.proofs.Common.{◌≡◌, ℕ, ◌+◌, ◌<◌, List, ◌∷◌, length, drop, ℤ, is_none, Some, None, Option, sym, ◌∙◌, arith, Bor}
use Rattle.std.specs.Option.{option_zip}
use Rattle.std.specs.Bool.{then_some}
use Rattle.std.proofs.lemmas.Bool.{ne_eqb, eq-eqb, cond-true, cond-false}
use Rattle.script.specs.Commands.{size_of, point_of, ends_of}
use Rattle.script.specs.Numbers.{number}
use Rattle.script.specs.Text.{pieces_after}
use Rattle.script.proofs.Pieces.{pieces_some}

-- more words than two are no size
pub size_more : (a b : List ℕ) (more : List (List ℕ)) → 0 < length more → size_of (a ∷ b ∷ more) ≡ None
size_more a b more some = cond-false _ _ _ (ne_eqb (length (a ∷ b ∷ more)) 2 (λ e. omega arith))

-- more words than four are no two points
pub ends_more : (ws : List (List ℕ)) → 4 < length ws → ends_of ws ≡ None
ends_more ws many = cond-false _ _ _ (ne_eqb (length ws) 4 (λ e. omega arith))

-- two numbers are a size where no word follows them
pub size_read : (a b : List ℕ) (after : Option (Bor (List ℕ))) (m n : ℕ) → Some m ≡ number a → Some n ≡ number b → then_some (is_none after) (m, n) ≡ size_of (a ∷ b ∷ pieces_after 32 after)
size_read a b None m n width height = λ i. option_zip (width i) (height i)
size_read a b (Some rest) m n width height = sym (size_more a b (pieces_after 32 (Some rest)) (pieces_some 32 rest.now))

-- two points are the ends where no word follows them
pub ends_read : (ws vs : List (List ℕ)) (after : Option (Bor (List ℕ))) (p q : ℤ × ℤ) → Some p ≡ point_of ws → length ws ≡ 2 + length vs → drop 2 ws ≡ vs → Some q ≡ point_of vs → length vs ≡ 2 + length (pieces_after 32 after) → then_some (is_none after) (p, q) ≡ ends_of ws
ends_read ws vs None p q from long two to last =
    sym (cond-true _ _ _ (eq-eqb (length ws) 4 (omega arith)) ∙ (λ i. option_zip (sym from i) (point_of (two i))) ∙ (λ i. option_zip (Some p) (sym to i)))
ends_read ws vs (Some rest) p q from long two to last = sym (ends_more ws (omega (arith, pieces_some 32 rest.now)))
