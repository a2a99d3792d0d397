-- Lines in turn.
use Rattle.std.proofs.Common.{◌≡◌, ℕ, ◌+◌, Bool, true, false, cond, ◌||◌, List, [], ◌∷◌, ◌++◌, Ok, Err, Result, sym, refl, ap, ◌∙◌, ⊎_elim}
use Rattle.std.proofs.lemmas.List.{append_assoc, map-append}
use Rattle.plotters_backend.specs.Run.{Answer, Outcome, Pixel, all, refused, run}
use Rattle.plotters_backend.specs.declared.error.DrawingErrorKind.{DrawingErrorKind}
use Rattle.plotters_backend.specs.declared.error.DrawingErrorKind.TheVariants.{DrawingError, Refused}
use Rattle.plotters_backend.specs.declared.error.Refusal.{Refusal}
use Rattle.plotters_backend.specs.declared.error.Refusal.TheVariants.{Far}
use Rattle.plotters_backend.specs.Refusals.{number, number_of, Refuses}
use Rattle.plotters_backend.proofs.Runs.{run_all_answers}
use Rattle.rasterizer.specs.Judge.{far}
use Rattle.rasterizer.specs.Line.{thin}
use Rattle.dots.specs.Faults.{fault_refusal}
use Rattle.dots.specs.Grid.{Grid, grid}
use Rattle.dots.specs.declared.fault.SheetFault.{SheetFault}
use Rattle.dots.specs.declared.fault.SheetFault.TheVariants.{Full}
use Rattle.dot_grid.specs.Answers.{answer_number}
use Rattle.dot_grid.specs.Replay.{drawn}
use Rattle.dot_grid.specs.declared.draw.Draw.{Draw}
use Rattle.dot_grid.specs.declared.draw.Draw.TheVariants.{Pixel as pixel, Line as lined}
use Rattle.playback.specs.Playback.{Kept, line_answer, lines_answers}
use Rattle.playback.specs.Reports.{numbered}

-- a fault of the sheet is that it is full
fault_number : (f : SheetFault) (r : Answer SheetFault) → r ≡ Err (DrawingError f) → answer_number r ≡ 10
fault_number Full r e = ap answer_number e

-- pixels alone succeed or fill the sheet
all_kept : (g : Grid) (ps : List Pixel) → Kept (answer_number (run grid g (all ps)).0) g (run grid g (all ps)).1
all_kept g ps no-success no-full =
    ⊎_elim
    (λ (e : (run grid g (all ps)).0 ≡ Ok tt). absurd (no-success (ap answer_number e)))
    (λ (e : (f : SheetFault) × ((run grid g (all ps)).0 ≡ Err (DrawingError f))). absurd (no-full (fault_number e.0 _ e.1)))
    (run_all_answers grid g ps)

line_kept : (g : Grid) (b : Bool) (ps : List Pixel) → Kept (answer_number (run grid g (cond b (refused Far) (all ps))).0) g (run grid g (cond b (refused Far) (all ps))).1
line_kept g true ps a b = refl
line_kept g false ps a b = all_kept g ps a b

-- a draw that neither succeeds nor fills the sheet leaves the dots
pub draw_kept : (g : Grid) (d : Draw) → Kept (answer_number (drawn [] g d).0) g (drawn [] g d).1
draw_kept g (pixel p c) a b = all_kept g ((p, c) ∷ []) a b
draw_kept g (lined p q c) a b = line_kept g (far p || far q) (thin p q c) a b

-- the same of what the code answers
pub outcome_kept : (g h : Grid) (d : Draw) (r : Answer SheetFault) (n : ℕ) → (r, h) ≡ drawn [] g d → n ≡ answer_number r → Kept n g h
outcome_kept g h d r n e f a b =
    let is : r ≡ (drawn [] g d).0 = ap (λ (o : Outcome grid). o.0) e in
    let at : h ≡ (drawn [] g d).1 = ap (λ (o : Outcome grid). o.1) e in
    let m : n ≡ answer_number (drawn [] g d).0 = f ∙ ap answer_number is in
    at ∙ draw_kept g d (λ z. a (m ∙ z)) (λ z. b (m ∙ z))

-- an error that is turned into a refusal keeps its number
pub same_number : (k : DrawingErrorKind SheetFault) (x : Refusal) (q : Result (Unit {0}) Refusal) (r : Answer SheetFault) → Refuses (λ f e. e ≡ fault_refusal f) k x → q ≡ Err x → r ≡ Err k → number_of q ≡ answer_number r
same_number (DrawingError Full) x q r h e g = ap number_of e ∙ ap number h ∙ sym (ap answer_number g)
same_number (Refused j) x q r h e g = ap number_of e ∙ ap number h ∙ sym (ap answer_number g)

-- Of the lines ls some have been played: from the grid g₀ they led to the grid g with the answers rs, and those from line n on are left.
pub record Playing (ls : List (List ℕ)) (g₀ g : Grid) (rs : List (ℕ × ℕ)) (n : ℕ) (left : List (List ℕ)) : Type 0 where
  pub answers : (lines_answers 2 g₀ ls).0 ≡ rs ++ (lines_answers n g left).0
  pub dots : (lines_answers 2 g₀ ls).1 ≡ (lines_answers n g left).1

-- one more
pub playing_more : (ls : List (List ℕ)) (g₀ g h : Grid) (rs rs' : List (ℕ × ℕ)) (n k : ℕ) (l : List ℕ) (left rest : List (List ℕ)) → Playing ls g₀ g rs n left → left ≡ l ∷ rest → (k, h) ≡ line_answer g l → rs' ≡ rs ++ (n, k) ∷ [] → Playing ls g₀ h rs' (n + 1) rest
playing_more ls g₀ g h rs rs' n k l left rest p cut e f =
    let is : (line_answer g l).0 ≡ k = ap (λ (o : ℕ × Grid). o.0) (sym e) in
    let at : (line_answer g l).1 ≡ h = ap (λ (o : ℕ × Grid). o.1) (sym e) in
    record {
      answers =
          p.answers
          ∙ ap (λ (xs : List (List ℕ)). rs ++ (lines_answers n g xs).0) cut
          ∙ ap (λ (z : ℕ). rs ++ (n, z) ∷ (lines_answers (n + 1) (line_answer g l).1 rest).0) is
          ∙ ap (λ (z : Grid). rs ++ (n, k) ∷ (lines_answers (n + 1) z rest).0) at
          ∙ sym (append_assoc rs ((n, k) ∷ []) (lines_answers (n + 1) h rest).0)
          ∙ ap (λ (xs : List (ℕ × ℕ)). xs ++ (lines_answers (n + 1) h rest).0) (sym f);
      dots =
          p.dots
          ∙ ap (λ (xs : List (List ℕ)). (lines_answers n g xs).1) cut
          ∙ ap (λ (z : Grid). (lines_answers (n + 1) z rest).1) at;
    }

-- one more answer, by its number
pub playing_next : (ls : List (List ℕ)) (g₀ g h : Grid) (qs qs' : List (ℕ × Result (Unit {0}) Refusal)) (n : ℕ) (a : Result (Unit {0}) Refusal) (l : List ℕ) (left rest : List (List ℕ)) → Playing ls g₀ g (numbered qs) n left → left ≡ l ∷ rest → (number_of a, h) ≡ line_answer g l → qs' ≡ qs ++ (n, a) ∷ [] → Playing ls g₀ h (numbered qs') (n + 1) rest
playing_next ls g₀ g h qs qs' n a l left rest p cut e f =
    playing_more ls g₀ g h (numbered qs) (numbered qs') n (number_of a) l left rest p cut e (ap numbered f ∙ map-append (λ r. (r.0, number_of r.1)) qs ((n, a) ∷ []))
