-- One turn of the walk, and its end.
use Rattle.std.proofs.Common.{◌≡◌, ℕ, ◌+◌, ◌<◌, ◌≤◌, Bool, true, false, cond, ◌%◌, ◌||◌, eqb, ltb, List, [], ◌++◌, length, get_or, set, ℤ, pos, ◌+ℤ◌, ◌-ℤ◌, nat_abs, ◌≤ℤ◌, Ok, Err, Option, sym, refl, ap, ◌∙◌, subst, arith, get_or-set_other, get_or-set_same, w32, SFits, below_more}
use mathlib.Core.List.{map-append}
use lib.Ieee as Ieee
use mir.Val.{bool_byte}
use Rattle.std.proofs.lemmas.Int.{ints}
use Rattle.plotters_backend.specs.Color.{zero}
use Rattle.plotters_backend.specs.Run.{Pixel, all, run}
use Rattle.plotters_backend.specs.Surface.{Surface}
use Rattle.plotters_backend.specs.declared.error.DrawingErrorKind.{DrawingErrorKind}
use Rattle.plotters_backend.specs.declared.style.BackendColor.{BackendColor}
use Rattle.plotters_backend.proofs.Runs.{join_ok, join_err}
use Rattle.outline.specs.Filling.{cells_in}
use Rattle.outline.specs.Lists.{unlike}
use Rattle.plotters_backend.specs.Axis.{turned}
use Rattle.plotters_backend.specs.declared.axis.Axis.{Axis}
use Rattle.polygon.specs.Marking.{covers}
use Rattle.polygon.specs.Walking.{Begun, Taken, Walkable, covered_cells, covered_from, inked, laid_at, next}
use Rattle.polygon.proofs.MarkReads.{covered_at, odd_before, parity_next, read_covers, read_parity}
use Rattle.polygon.proofs.WalkLaw.{begun_more, left, left_all, left_more}

-- cells before others are laid before them
inked_join : (a : Axis) (m : ℤ) (k : BackendColor) (xs ys : List ℤ) → inked a m k (xs ++ ys) ≡ inked a m k xs ++ inked a m k ys
inked_join a m k xs ys = by (Ieee.eq k.alpha zero)
  where
    by : (b : Bool) → cond b [] (cells_in a m k (xs ++ ys)) ≡ cond b [] (cells_in a m k xs) ++ cond b [] (cells_in a m k ys)
    by true = refl
    by false = map-append (λ s. (turned a (m, s), k)) xs ys

-- a test as a byte
byte_is : (b : Bool) → bool_byte b ≡ cond b 1 0
byte_is true = refl
byte_is false = refl

module _ {E : Type 0} (S : Surface E) (a : Axis) (m : ℤ) (k : BackendColor) (first : ℤ) (ms : List ℕ) (h₀ : S.Held) where
  -- which cells are covered
  abbrev cov : ℤ → Bool
  cov = covered_from first ms

  -- the last cell that has a mark
  abbrev high : ℤ
  high = (first +ℤ pos (length ms)) -ℤ pos 1

  -- The walk before the mark i: the marks before it say whether their cells are covered, the others are as they were, and laying from h what is left is laying from h₀ each covered cell.
  pub record Walked (i : ℕ) (before : Bool) (hand : Option ℤ) (cell : ℤ) (ns : List ℕ) (h : S.Held) : Type 0 where
    pub parity : before ≡ odd_before ms i
    pub begun : Begun hand cell
    pub at : cell ≡ first +ℤ pos i
    pub told : (j : ℕ) → j < i → get_or ns j 0 ≡ cond (covers ms j) 1 0
    pub same : (j : ℕ) → i ≤ j → get_or ns j 0 ≡ get_or ms j 0
    pub is : run S h₀ (all (inked a m k (covered_cells first ms))) ≡ run S h (all (inked a m k (left cov high hand cell)))

  module _ (i : ℕ) (before : Bool) (hand : Option ℤ) (cell : ℤ) (ns : List ℕ) (h : S.Held) (w : Walked i before hand cell ns h) where
    module _ (W : Walkable m first (length ms)) (short : i < length ms) (r : Bool × Bool) (read : r ≡ (unlike (eqb (get_or ns i 0 % 2) 1) before, unlike (eqb (get_or ns i 0 % 2) 1) before || ltb 1 (get_or ns i 0))) where
      -- whether the cell is covered, as it was read
      abbrev b : Bool
      b = r.1

      mark : get_or ns i 0 ≡ get_or ms i 0
      mark = w.same i (omega arith)

      told : b ≡ covers ms i
      told = read_covers ms i before (get_or ns i 0) r short w.parity mark read

      -- the cell is covered as its mark says
      covered_told : b ≡ cov cell
      covered_told = told ∙ sym (covered_at first cell ms i w.at)

      -- it is one of the cells that have a mark
      before_high : cell ≤ℤ high
      before_high = let at = w.at in omega (arith, ints)

      -- and near 0
      near_cell : nat_abs cell ≤ 32767
      near_cell = let at = w.at in let start = W.start in let stop = W.stop in omega (arith, ints)

      -- the next cell's number fits its type
      pub next_fits : SFits w32 (cell +ℤ pos 1)
      next_fits = let near = near_cell in omega (arith, ints)

      -- the cells laid at this cell come first
      first_laid : inked a m k (left cov high hand cell) ≡ inked a m k (laid_at hand b cell) ++ inked a m k (left cov high (next hand b cell) (cell +ℤ pos 1))
      first_laid =
          ap (inked a m k) (left_more cov high hand cell before_high w.begun)
          ∙ ap (λ (t : Bool). inked a m k (laid_at hand t cell ++ left cov high (next hand t cell) (cell +ℤ pos 1))) (sym covered_told)
          ∙ inked_join a m k (laid_at hand b cell) (left cov high (next hand b cell) (cell +ℤ pos 1))

      -- after a cell that was taken
      pub walked_more : (hand' : Option ℤ) (byte : ℕ) (h' : S.Held) → length ns ≡ length ms → byte ≡ bool_byte b → Taken S a m k hand b cell h h' (Ok hand') → Walked (i + 1) r.0 hand' (cell +ℤ pos 1) (set ns i byte) h'
      walked_more hand' byte h' len put t =
          let at = w.at in
          let lt : i < length ns = omega arith in
          record {
            parity = read_parity ms i before (get_or ns i 0) r short w.parity mark read ∙ parity_next ms i;
            begun = subst (λ (o : Option ℤ). Begun o (cell +ℤ pos 1)) (sym t.0) (begun_more b hand cell near_cell w.begun);
            at = omega (arith, ints);
            told = below_more (λ (j : ℕ). get_or (set ns i byte) j 0 ≡ cond (covers ms j) 1 0) i (λ j l. get_or-set_other ns i j byte 0 (omega arith) ∙ w.told j l) (get_or-set_same ns i byte 0 lt ∙ put ∙ byte_is b ∙ ap (λ (t : Bool). cond t 1 0) told);
            same = λ j l. get_or-set_other ns i j byte 0 (omega arith) ∙ w.same j (omega arith);
            is = w.is ∙ ap (λ (ps : List Pixel). run S h (all ps)) first_laid ∙ join_ok S h h' (inked a m k (laid_at hand b cell)) (inked a m k (left cov high (next hand b cell) (cell +ℤ pos 1))) (Ok tt) (sym t.1) refl ∙ ap (λ (o : Option ℤ). run S h' (all (inked a m k (left cov high o (cell +ℤ pos 1))))) (sym t.0);
          }

      -- a fault there ends the draw
      pub walked_stop : (h' : S.Held) (f : DrawingErrorKind E) → Taken S a m k hand b cell h h' (Err f) → (Err f, h') ≡ run S h₀ (all (inked a m k (covered_cells first ms)))
      walked_stop h' f t = sym (w.is ∙ ap (λ (ps : List Pixel). run S h (all ps)) first_laid ∙ join_err S h h' (inked a m k (laid_at hand b cell)) (inked a m k (left cov high (next hand b cell) (cell +ℤ pos 1))) (Err f) f (sym t) refl)

    module _ (done : length ms ≤ i) where
      -- past the last mark the run in hand is all that is left
      last_laid : run S h₀ (all (inked a m k (covered_cells first ms))) ≡ run S h (all (inked a m k (laid_at hand false cell)))
      last_laid = let at = w.at in w.is ∙ ap (λ (zs : List ℤ). run S h (all (inked a m k zs))) (left_all cov high hand cell (omega (arith, ints)))

      -- it is laid
      pub walked_all : (n : Option ℤ) (h' : S.Held) → Taken S a m k hand false cell h h' (Ok n) → (Ok tt, h') ≡ run S h₀ (all (inked a m k (covered_cells first ms)))
      walked_all n h' t = sym (last_laid ∙ t.1)

      -- or a fault ends the draw
      pub walked_last : (h' : S.Held) (f : DrawingErrorKind E) → Taken S a m k hand false cell h h' (Err f) → (Err f, h') ≡ run S h₀ (all (inked a m k (covered_cells first ms)))
      walked_last h' f t = sym (last_laid ∙ t)
