-- Draws on what is lent.
use Rattle.std.proofs.Common.{◌≡◌, List, [], ◌∷◌, Some, None, Ok, Option, sym, refl, ap, ◌∙◌}
use Rattle.plotters_backend.specs.Surface.{Surface}
use Rattle.plotters_backend.specs.Run.{Answer, Pixel, Drawing, Outcome, lay, run}
use Rattle.plotters_backend.specs.declared.error.Refusal.{Refusal}
use Rattle.plotters_backend.proofs.Runs.{next, lay_cons}
use Rattle.panel.specs.Lent.{lent}
use Rattle.panel.specs.Picture.{Picture, picture}

module _ {E : Type 0} (N : Type 0) (S : Surface E) (n : N) (end : Option Refusal) where
  -- an outcome, with the name of the loan
  abbrev pub on_loan : Outcome S → Outcome (lent N S)
  on_loan o = (o.0, (n, o.1))

  ended_lent : (h : S.Held) → lay (lent N S) end (n, h) [] ≡ on_loan (lay S end h [])
  ended_lent h = elim end as (λ o. lay (lent N S) o (n, h) [] ≡ ((lay S o h []).0, (n, (lay S o h []).1))) [ None ↦ refl | Some k ↦ refl ]

  next_lent : (o : Option E) (h : S.Held) (ps : List Pixel) → lay (lent N S) end (n, h) ps ≡ on_loan (lay S end h ps) → next (lent N S) end o (n, h) ps ≡ on_loan (next S end o h ps)
  next_lent None h ps ih = ih
  next_lent (Some e) h ps ih = refl

  lay_lent : (h : S.Held) (ps : List Pixel) → lay (lent N S) end (n, h) ps ≡ on_loan (lay S end h ps)
  lay_lent h [] = ended_lent h
  lay_lent h ((p, c) ∷ ps) = lay_cons (lent N S) end (n, h) p c ps ∙ next_lent (S.refuses h p c) (S.laid h p c) ps (lay_lent (S.laid h p c) ps) ∙ ap on_loan (sym (lay_cons S end h p c ps))

-- a draw on a loan is the draw on what it holds, and stays that loan
pub run_lent : {E : Type 0} (N : Type 0) (S : Surface E) (n : N) (h : S.Held) (d : Drawing) → run (lent N S) (n, h) d ≡ ((run S h d).0, (n, (run S h d).1))
run_lent N S n h d = lay_lent N S n d.end h d.pixels

-- what a draw on a loan answers and leaves is what the draw on its picture does, and the loan is the same
pub record Drawn {E : Type 0} (N : Type 0) (S : Surface E) (n n' : N) (h h' : S.Held) (r : Answer E) (d : Drawing) : Type 0 where
  pub answers : r ≡ (run S h d).0
  pub leaves : h' ≡ (run S h d).1
  pub same : n' ≡ n

pub drawn : {E : Type 0} (N : Type 0) (S : Surface E) (n n' : N) (h h' : S.Held) (r : Answer E) (d : Drawing) → (r, (n', h')) ≡ run (lent N S) (n, h) d → Drawn N S n n' h h' r d
drawn N S n n' h h' r d e =
    let f = e ∙ run_lent N S n h d in
    record {
      answers = ap (λ (o : Outcome (lent N S)). o.0) f;
      leaves = ap (λ (o : Outcome (lent N S)). o.1.1) f;
      same = ap (λ (o : Outcome (lent N S)). o.1.0) f;
    }

-- a picture refuses no pixel
pub picture_accepts : (h : Picture) (ps : List Pixel) → (lay picture None h ps).0 ≡ Ok tt
picture_accepts h [] = refl
picture_accepts h ((p, c) ∷ ps) = picture_accepts (picture.laid h p c) ps
