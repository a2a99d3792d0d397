-- Written sheets.
use Rattle.std.proofs.Common.{◌≡◌, ℕ, ◌+◌, ◌*◌, ◌≤◌, Bool, true, false, cond, ltb, List, ◌++◌, length, take, drop, Ok, Err, Result, sym, refl, ap, ◌∙◌, arith}
use Rattle.std.proofs.lemmas.List.{take_at}
use Rattle.std.proofs.lemmas.Bool.{le-ltb}
use Rattle.plotters_backend.specs.declared.error.Refusal.{Refusal}
use Rattle.plotters_backend.specs.declared.error.Refusal.TheVariants.{Pool}
use Rattle.dots.specs.Bytes.{sheet_bytes, written, written_length, writes}
use Rattle.dots.specs.Dots.{pairs_of}
use Rattle.dots.specs.Grid.{Grid, whole}
use Rattle.dots.specs.declared.pair.Pair.{Pair}
use Rattle.dots.proofs.Writing.{length_pairs}
use Rattle.dots.proofs.Coded.{equal_bytes, grid_is}

abbrev Written : Type 0
Written = Result ℕ Refusal × List ℕ

length_written : (w h : ℕ) (ps : List Pair) → length (sheet_bytes w h ps) ≡ 12 + 8 * length ps
length_written w h ps = let e = length_pairs ps in omega arith

-- a buffer that is long enough holds the written sheet and then what it held
enough : (g : Grid) (old : List ℕ) (b : Bool) → ltb (length old) (written_length g) ≡ b → b ≡ false → (writes g old).1 ≡ written g ++ drop (written_length g) old
enough g old b e f = ap (λ (z : Bool). (cond {A = Written} z (Err Pool, old) (Ok (written_length g), written g ++ drop (written_length g) old)).1) (e ∙ f)

-- and cut to length it is the written sheet
pub cut_written : (g : Grid) (r : Result ℕ Refusal) (old new rest last : List ℕ) (n m : ℕ) → n ≡ written_length g → n ≤ length old → (r, new) ≡ writes g old → length new ≡ m → last ≡ take n (take m (new ++ rest)) → last ≡ written g
cut_written g r old new rest last n m e l w k t =
    let f : ltb (length old) (written_length g) ≡ false = le-ltb (length old) (written_length g) (omega arith) in
    let a : new ≡ written g ++ drop (written_length g) old = ap (λ (o : Written). o.1) w ∙ enough g old _ refl f in
    t ∙ ap (take n) (take_at new rest m k) ∙ ap (take n) a ∙ take_at (written g) (drop (written_length g) old) n (length_written g.size.0 g.size.1 (pairs_of g.dots) ∙ sym e)

same_grid : (g h : Grid) → g.size ≡ h.size → g.dots ≡ h.dots → g ≡ h
same_grid g h s d = grid_is g h (ap (λ (z : ℕ × ℕ). z.0) s) (ap (λ (z : ℕ × ℕ). z.1) s) d

-- equal bytes exactly when equal dots
pub told_apart : (g h : Grid) (bs cs : List ℕ) → whole g ≡ true → whole h ≡ true → bs ≡ written g → cs ≡ written h → (bs ≡ cs → (g.size ≡ h.size) × (g.dots ≡ h.dots)) × (g.size ≡ h.size → g.dots ≡ h.dots → bs ≡ cs)
told_apart g h bs cs p q a b = (
  (λ e. let f = equal_bytes g h p q (sym a ∙ e ∙ b) in (ap (λ (k : Grid). k.size) f, ap (λ (k : Grid). k.dots) f)),
  (λ s d. a ∙ ap written (same_grid g h s d) ∙ sym b),
)
