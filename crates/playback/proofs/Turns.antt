-- A line with its end, as the first line of a text.
use Rattle.std.proofs.Common.{◌≡◌, ℕ, ◌+◌, ◌<◌, ◌≤◌, min, eqb, List, [], ◌∷◌, ◌++◌, length, get_or, take, Some, None, Option, sym, refl, ap, ◌∙◌, ⊎_elim, arith, length-append, append_assoc, append-nil, Bor}
use Rattle.std.specs.List.{IsFirstMatchOrLen}
use Rattle.std.specs.Option.{MatchOption, unwrap_or}
use Rattle.std.proofs.lemmas.Bool.{eqb-false, eqb-true, cases_lt}
use Rattle.std.proofs.lemmas.List.{take_all, get_or_append_left, take_more}
use Rattle.script.specs.Text.{lines_of}
use Rattle.script.proofs.Pieces.{pieces_whole, pieces_first}
use Rattle.script.proofs.LessLast.{less_cut, less_alone}

-- before the first match there is no line end
none_before : (rest : List ℕ) (i : ℕ) → IsFirstMatchOrLen (λ b. eqb b 10) rest i → (k : ℕ) → k < i → get_or rest k 0 ≡ 10 → ⊥
none_before rest i first k low e = eqb-false (get_or rest k 0) 10 (first.0 k 0 (omega arith) low) e

no_items : (xs : List ℕ) → length xs ≡ 0 → xs ≡ []
no_items [] e = refl
no_items (x ∷ xs) e = absurd (omega arith)

pub first_line : (rest after : List ℕ) (x : Bor (List ℕ)) (i : ℕ) (r : Option (Bor (List ℕ))) → rest ≡ x.now ++ after → length x.now ≡ min (i + 1) (length rest) → IsFirstMatchOrLen (λ b. eqb b 10) rest i → 0 < length rest → MatchOption r ((front : List ℕ) → x.now ≡ front ++ 10 ∷ [] → ⊥) (λ l. x.now ≡ l.now ++ 10 ∷ []) → lines_of rest ≡ (unwrap_or r x).now ∷ lines_of after
first_line rest after x i (Some l) cut long first some end =
    let whole : rest ≡ l.now ++ 10 ∷ after = cut ∙ ap (λ z. z ++ after) end ∙ append_assoc l.now (10 ∷ []) after in
    let size : length x.now ≡ length l.now + 1 = ap length end ∙ length-append l.now (10 ∷ []) in
    let lacks = λ (k : ℕ) (low : k < length l.now) (e : get_or l.now k 0 ≡ 10). none_before rest i first k (omega arith) (ap (λ z. get_or z k 0) whole ∙ get_or_append_left l.now (10 ∷ after) 0 k low ∙ e) in
    less_cut 10 rest l.now after (pieces_first 10 rest l.now after lacks whole)
first_line rest after x i None cut long first some bare =
    ⊎_elim
    (λ (inside : i < length rest).
    let found : get_or rest i 0 ≡ 10 = eqb-true (get_or rest i 0) 10 (first.1 inside 0) in
    let at : get_or x.now i 0 ≡ 10 = sym (ap (λ z. get_or z i 0) cut ∙ get_or_append_left x.now after 0 i (omega arith)) ∙ found in
    absurd (bare (take i x.now) (sym (take_all (i + 1) x.now (omega arith)) ∙ take_more x.now i 0 (omega arith) ∙ ap (λ b. take i x.now ++ b ∷ []) at)))
    (λ (past : length rest ≤ i).
    let sizes : length rest ≡ length x.now + length after = ap length cut ∙ length-append x.now after in
    let empty : after ≡ [] = no_items after (omega arith) in
    let same : rest ≡ x.now = cut ∙ ap (λ z. x.now ++ z) empty ∙ append-nil x.now in
    let alone = less_alone 10 rest some (pieces_whole 10 rest (λ k low e. none_before rest i first k (omega arith) e)) in
    alone ∙ (λ j. same j ∷ lines_of (sym empty j)))
    (cases_lt i (length rest))
