-- What `take_cell` lays where a run ends before the cell.
use Rattle.std.proofs.Common.{◌≡◌, Bool, false, ℤ, pos, ◌-ℤ◌, Some, None, Ok, Err, Option, Result, sym, ap, ◌∙◌, subst, arith}
use Rattle.std.proofs.lemmas.Int.{ints}
use Rattle.plotters_backend.specs.Run.{Answer, all, run}
use Rattle.plotters_backend.specs.Surface.{Surface}
use Rattle.plotters_backend.specs.declared.error.DrawingErrorKind.{DrawingErrorKind}
use Rattle.plotters_backend.specs.declared.style.BackendColor.{BackendColor}
use Rattle.rasterizer.specs.Line.{inner_line}
use Rattle.plotters_backend.specs.Axis.{turned}
use Rattle.plotters_backend.specs.declared.axis.Axis.{Axis}
use Rattle.polygon.specs.Walking.{Begun, Reach, Taken, inked, laid_at, next}
use Rattle.polygon.proofs.RunLines.{run_inner}

module _ {E : Type 0} (S : Surface E) (a : Axis) (m : ℤ) (k : BackendColor) (hand : Option ℤ) (b : Bool) (c first : ℤ) (reach : Reach m hand c) (some : hand ≡ Some first) (ends : b ≡ false) where
  -- the draw of a line from the first cell in hand to the one before c
  line_taken : inner_line (turned a (m, first)) (turned a (m, c -ℤ pos 1)) k ≡ all (inked a m k (laid_at hand b c))
  line_taken =
      let begun : Begun (Some first) c = subst (λ (o : Option ℤ). Begun o c) some reach.begun in
      let near = begun.0 in
      let before = begun.1 in
      let upto = reach.upto in
      run_inner a m first (c -ℤ pos 1) k (omega (arith, ints)) reach.line near (omega (arith, ints))
      ∙ sym (ap (λ (o : Option ℤ). all (inked a m k (laid_at o b c))) some ∙ ap (λ (t : Bool). all (inked a m k (laid_at (Some first) t c))) ends)

  -- as `draw_inner_line` tells of it
  pub laid_taken : (h h' : S.Held) (p q : ℤ × ℤ) (r : Answer E) → p ≡ turned a (m, first) → q ≡ turned a (m, c -ℤ pos 1) → (r, h') ≡ run S h (inner_line p q k) → run S h (all (inked a m k (laid_at hand b c))) ≡ (r, h')
  laid_taken h h' p q r from to drawn = sym (drawn ∙ ap (λ (z : ℤ × ℤ). run S h (inner_line z q k)) from ∙ ap (λ (z : ℤ × ℤ). run S h (inner_line (turned a (m, first)) z k)) to ∙ ap (run S h) line_taken)

  module _ (h h' : S.Held) (r : Answer E) (laid : run S h (all (inked a m k (laid_at hand b c))) ≡ (r, h')) where
    -- a line that is drawn leaves no run in hand
    pub taken_ok : r ≡ Ok tt → Taken S a m k hand b c h h' (Ok None)
    taken_ok e = (sym (ap (λ (o : Option ℤ). next o b c) some ∙ ap (λ (t : Bool). next (Some first) t c) ends), laid ∙ ap (λ (z : Answer E). (z, h')) e)

    -- a fault ends the draw
    pub taken_err : (z : Result (Option ℤ) (DrawingErrorKind E)) (j f : DrawingErrorKind E) → z ≡ Err j → j ≡ f → r ≡ Err f → Taken S a m k hand b c h h' z
    taken_err z j f x y e = subst (Taken S a m k hand b c h h') (sym (x ∙ ap Err y)) (laid ∙ ap (λ (z : Answer E). (z, h')) e)
