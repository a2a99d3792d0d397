-- The words that write a number or a coordinate are those that are read as one. Assumes nothing.
use Rattle.std.proofs.Common.{◌≡◌, ℕ, ◌&&◌, eqb, leb, List, [], ◌∷◌, length, ℤ, pos, neg_ℤ, Some, Decides, sym, refl, ap, ◌∙◌, subst, inl, inr, ⊎_elim, arith}
use Rattle.std.specs.Option.{option_map}
use Rattle.std.specs.Str.Parse.{digits_value}
use Rattle.std.specs.Char.{is_ascii_digit}
use Rattle.std.specs.Int.{IsInRange}
use Rattle.std.specs.List.{AllByRecursion}
use Rattle.std.specs.Str.{all_ascii_digits}
use Rattle.std.proofs.ByRecursion.{All-weaker, Decides-by_and}
use Rattle.std.proofs.lemmas.Bool.{leb-true, le-leb, eqb-true, ne_eqb, and_parts, and_from, cases_Bool, cond-true, cond-false}
use Rattle.std.proofs.lemmas.Option.{none-some}
use Rattle.script.specs.Numbers.{number, coordinate}
use Rattle.script.specs.Written.{Writes, Places}
use Rattle.script.proofs.Answered.{cond_some, mapped_some}
use Rattle.script.proofs.Figures.{number_some}
use Rattle.script.proofs.Pieces.{Lacks}

-- the test for a digit passes from 48 to 57
digit_decides : (b : ℕ) → Decides (is_ascii_digit b) (IsInRange 48 57 b)
digit_decides b = (λ e. let p = and_parts (leb 48 b) (leb b 57) e in (leb-true 48 b p.0, leb-true b 57 p.1), λ h. and_from _ _ (le-leb 48 b h.0) (le-leb b 57 h.1))

-- the test of a word passes where each byte is a digit
digits_decide : (ds : List ℕ) → Decides (all_ascii_digits ds) (AllByRecursion (IsInRange 48 57) ds)
digits_decide ds = Decides-by_and is_ascii_digit (IsInRange 48 57) all_ascii_digits digit_decides refl (λ _ _. refl) ds

-- a word that is read as a number writes it
pub number_writes : (ds : List ℕ) (n : ℕ) → number ds ≡ Some n → Writes ds n
number_writes ds n e =
    let c = cond_some (leb 1 (length ds) && leb (length ds) 6 && all_ascii_digits ds) (Some (digits_value 10 ds)) n e in
    let p = and_parts (leb 1 (length ds) && leb (length ds) 6) (all_ascii_digits ds) c.0 in
    let q = and_parts (leb 1 (length ds)) (leb (length ds) 6) p.0 in
    let same = c.1 in
    (leb-true 1 (length ds) q.0, leb-true (length ds) 6 q.1, (digits_decide ds).0 p.1, cc)

-- a word that writes a number is read as that number
pub writes_number : (ds : List ℕ) (n : ℕ) → Writes ds n → number ds ≡ Some n
writes_number ds n w = number_some ds w.0 w.1 ((digits_decide ds).1 w.2) ∙ ap Some w.3

-- digits are no spaces
pub writes_lacks : (ds : List ℕ) (n : ℕ) → Writes ds n → Lacks 32 ds
writes_lacks ds n w = All-weaker (IsInRange 48 57) (λ b. b ≡ 32 → ⊥) (λ b h e. omega arith) ds w.2

-- a word that is read as a coordinate writes it
pub coordinate_places : (ds : List ℕ) (z : ℤ) → coordinate ds ≡ Some z → Places ds z
coordinate_places [] z e = absurd (none-some _ e)
coordinate_places (b ∷ es) z e =
    ⊎_elim
    (λ is.
    let m = mapped_some (λ n. neg_ℤ (pos n)) (number es) z (sym (cond-true (eqb b 45) _ _ is) ∙ e) in
    inr (es, m.0, ap (λ x. x ∷ es) (eqb-true b 45 is), number_writes es m.0 m.1, sym m.2))
    (λ other.
    let m = mapped_some pos (number (b ∷ es)) z (sym (cond-false (eqb b 45) _ _ other) ∙ e) in
    inl (m.0, number_writes (b ∷ es) m.0 m.1, sym m.2))
    (cases_Bool (eqb b 45))

-- a word that writes a number is read as a coordinate that is not negative
plain_coordinate : (ds : List ℕ) (n : ℕ) → Writes ds n → coordinate ds ≡ Some (pos n)
plain_coordinate [] n w = absurd (omega arith)
plain_coordinate (b ∷ es) n w = cond-false (eqb b 45) _ _ (ne_eqb b 45 (λ e. omega (arith, w.2.0.0))) ∙ ap (option_map pos) (writes_number (b ∷ es) n w)

-- a word that writes a coordinate is read as that coordinate
pub places_coordinate : (ds : List ℕ) (z : ℤ) → Places ds z → coordinate ds ≡ Some z
places_coordinate ds z (inl p) = plain_coordinate ds p.0 p.1 ∙ ap Some (sym p.2)
places_coordinate ds z (inr p) = ap coordinate p.2 ∙ ap (option_map (λ n. neg_ℤ (pos n))) (writes_number p.0 p.1 p.3) ∙ ap Some (sym p.4)

-- a minus and digits are no spaces
pub places_lacks : (ds : List ℕ) (z : ℤ) → Places ds z → Lacks 32 ds
places_lacks ds z (inl p) = writes_lacks ds p.0 p.1
places_lacks ds z (inr p) = subst (Lacks 32) (sym p.2) ((λ e. omega arith), writes_lacks p.0 p.1 p.3)
