-- The two pixels of a step.
use Rattle.std.proofs.Common.{◌≡◌, ◌≤◌, [], ◌∷◌, ℤ, pos, ◌+ℤ◌, nat_abs, Ok, Err, sym, ap, ◌∙◌, arith, w32, SFits, to_z, of_z}
use borrow.Author.Differences.{ints}
use Rattle.plotters_backend.specs.Surface.{Surface, answer}
use Rattle.plotters_backend.specs.Run.{Answer, Pixel, all, run}
use Rattle.plotters_backend.specs.declared.style.BackendColor.{BackendColor}
use Rattle.plotters_backend.specs.declared.error.DrawingErrorKind.{DrawingErrorKind}
use Rattle.plotters_backend.proofs.Runs.{one_pixel, step_ok, step_err}

-- a place and a colour that are equal make equal pixels
pub same_pixel : (p q : ℤ × ℤ) (c d : BackendColor) → p ≡ q → c ≡ d → ◌≡◌ {A = Pixel} (p, c) (q, d)
same_pixel p q c d e f = ap (λ (z : ℤ × ℤ). (z, c)) e ∙ ap (λ (k : BackendColor). (q, k)) f

-- the row after a row that is not far fits
pub next_row_fits : (z : ℤ) → nat_abs z ≤ 131072 → SFits w32 (to_z w32 (of_z w32 z) +ℤ pos 1)
next_row_fits z l = omega (arith, ints)

pub next_row_fits' : (z : ℤ) → nat_abs z ≤ 131072 → SFits w32 (z +ℤ pos 1)
next_row_fits' z l = omega (arith, ints)

module _ {E : Type 0} (S : Surface E) (a b : Pixel) where
  -- the first is refused
  pub two_stop : (h h' : S.Held) (p : ℤ × ℤ) (c : BackendColor) (r : Answer E) (k : DrawingErrorKind E) → ◌≡◌ {A = Pixel} (p, c) a → r ≡ answer (S.refuses h p c) → h' ≡ S.laid h p c → r ≡ Err k → (Err k, h') ≡ run S h (all (a ∷ b ∷ []))
  two_stop h h' p c r k e an ho bad = sym (step_err S h h' p c (b ∷ []) r k an ho bad) ∙ ap (λ (z : Pixel). run S h (all (z ∷ b ∷ []))) e

  -- the first is accepted, and the second decides
  pub two_done : (h h' h'' : S.Held) (p q : ℤ × ℤ) (c d : BackendColor) (r s : Answer E) → ◌≡◌ {A = Pixel} (p, c) a → ◌≡◌ {A = Pixel} (q, d) b → r ≡ answer (S.refuses h p c) → h' ≡ S.laid h p c → r ≡ Ok tt → s ≡ answer (S.refuses h' q d) → h'' ≡ S.laid h' q d → (s, h'') ≡ run S h (all (a ∷ b ∷ []))
  two_done h h' h'' p q c d r s e f an ho ok an' ho' =
      one_pixel S h' h'' q d s an' ho'
      ∙ sym (step_ok S h h' p c ((q, d) ∷ []) r an ho ok)
      ∙ ap (λ (z : Pixel). run S h (all ((p, c) ∷ z ∷ []))) f
      ∙ ap (λ (z : Pixel). run S h (all (z ∷ b ∷ []))) e
