-- A whole script.
use Rattle.std.proofs.Common.{◌≡◌, ℕ, ◌<◌, ◌≤◌, Bool, true, false, cond, ltb, List, [], ◌∷◌, length, Some, None, Ok, Err, Option, Result, sym, refl, ap, ◌∙◌, arith}
use Rattle.std.proofs.lemmas.Bool.{le-ltb}
use Rattle.plotters_backend.specs.Refusals.{number}
use Rattle.plotters_backend.specs.Sizes.{proper, size_check}
use Rattle.plotters_backend.specs.declared.error.Refusal.{Refusal}
use Rattle.plotters_backend.specs.declared.error.Refusal.TheVariants.{Line, Size}
use Rattle.dots.specs.Grid.{Grid, light}
use Rattle.script.specs.Commands.{size_line}
use Rattle.script.specs.Text.{lines_of}
use Rattle.playback.specs.Playback.{begun, lines_answers, opened, played, stopped}

-- a script that is not too long
short : (text : List ℕ) → length text ≤ 32768 → played text ≡ begun (lines_of text)
short text l = let t : ltb 32768 (length text) ≡ false = le-ltb 32768 (length text) l in rw t

-- the first line is not in its form, or there is none
pub no_size : (text line : List ℕ) (rest : List (List ℕ)) → length text ≤ 32768 → (0 < length text → lines_of text ≡ line ∷ rest) → size_line line ≡ None → played text ≡ stopped 1 (number Line)
no_size [] line rest l cut e = refl
no_size (b ∷ bs) line rest l cut e = short (b ∷ bs) l ∙ ap begun (cut (omega arith)) ∙ ap (λ (o : Option (ℕ × ℕ)). elim o [ None ↦ stopped 1 (number Line) | Some s ↦ opened s rest ]) e

-- an empty line asks for no size
no_line : (line : List ℕ) (s : ℕ × ℕ) → length line ≡ 0 → size_line line ≡ Some s → ⊥
no_line [] s l e = let z : ◌≡◌ {A = ℕ} 0 1 = cc in omega arith
no_line (b ∷ bs) s l e = omega arith

-- the first line asks for a size
pub sized : (text line : List ℕ) (rest : List (List ℕ)) (s : ℕ × ℕ) → length text ≤ 32768 → (0 < length text → lines_of text ≡ line ∷ rest) → (length text ≡ 0 → length line ≡ 0) → size_line line ≡ Some s → played text ≡ opened s rest
sized [] line rest s l cut empty e = absurd (no_line line s (empty refl) e)
sized (b ∷ bs) line rest s l cut empty e = short (b ∷ bs) l ∙ ap begun (cut (omega arith)) ∙ ap (λ (o : Option (ℕ × ℕ)). elim o [ None ↦ stopped 1 (number Line) | Some s ↦ opened s rest ]) e

checked : (b : Bool) (k : Refusal) → cond {A = Result (Unit {0}) Refusal} b (Ok tt) (Err Size) ≡ Err k → (b ≡ false) × (k ≡ Size)
checked true k e = let z : ◌≡◌ {A = ℕ} 0 1 = cc in absurd (omega arith)
checked false k e = (refl, cc)

passed : (b : Bool) (u : Unit {0}) → cond {A = Result (Unit {0}) Refusal} b (Ok tt) (Err Size) ≡ Ok u → b ≡ true
passed true u e = refl
passed false u e = let z : ◌≡◌ {A = ℕ} 0 1 = cc in absurd (omega arith)

-- a size that is refused
pub bad_size : (s : ℕ × ℕ) (k : Refusal) (ls : List (List ℕ)) → size_check s ≡ Err k → opened s ls ≡ stopped 1 (number k)
bad_size s k ls e =
    let p = checked (proper s) k e in
    ap (λ (b : Bool). cond b ((lines_answers 2 (light s) ls).0, Some (lines_answers 2 (light s) ls).1) (stopped 1 (number Size))) p.0 ∙ ap (λ (j : Refusal). stopped 1 (number j)) (sym p.1)

-- a size that is not
pub good_size : (s : ℕ × ℕ) (u : Unit {0}) (ls : List (List ℕ)) → size_check s ≡ Ok u → opened s ls ≡ ((lines_answers 2 (light s) ls).0, Some (lines_answers 2 (light s) ls).1)
good_size s u ls e = ap (λ (b : Bool). cond b ((lines_answers 2 (light s) ls).0, Some (lines_answers 2 (light s) ls).1) (stopped 1 (number Size))) (passed (proper s) u e)

-- the lines played on the sheet that was made
pub on_sheet : (s : ℕ × ℕ) (g h : Grid) (rs : List (ℕ × ℕ)) (ls : List (List ℕ)) → g ≡ light s → (rs, h) ≡ lines_answers 2 g ls → ◌≡◌ {A = List (ℕ × ℕ) × Option Grid} (rs, Some h) ((lines_answers 2 (light s) ls).0, Some (lines_answers 2 (light s) ls).1)
on_sheet s g h rs ls e f = ap (λ (o : List (ℕ × ℕ) × Grid). (o.0, Some o.1)) (f ∙ ap (λ (k : Grid). lines_answers 2 k ls) e)
