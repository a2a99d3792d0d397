-- The loop over the steps of a slanting line.
use Rattle.std.proofs.Common.{◌≡◌, ℕ, ◌+◌, ◌≤◌, true, false, List, ℤ, pos, ◌+ℤ◌, ◌-ℤ◌, nat_abs, ◌≤ℤ◌, ◌<ℤ◌, Ok, Err, sym, ap, ◌∙◌, subst, arith, w32, SFits}
use borrow.Author.Differences.{ints}
use lib.Signed.{lt_z}
use lib.Ieee.{Float, binary64, add, of_int}
use Rattle.binary64.specs.Range.{Sized}
use Rattle.binary64.specs.Slope.{slope, walk}
use Rattle.binary64.proofs.Sizes.{sized_more}
use Rattle.binary64.proofs.Walks.{walk_more, walk_sized}
use Rattle.plotters_backend.specs.Surface.{Surface}
use Rattle.plotters_backend.specs.Run.{Answer, Pixel, all, run}
use Rattle.plotters_backend.specs.declared.axis.Axis.{Axis}
use Rattle.plotters_backend.specs.declared.style.BackendColor.{BackendColor}
use Rattle.plotters_backend.specs.declared.error.DrawingErrorKind.{DrawingErrorKind}
use Rattle.rasterizer.specs.Line.{blended, in_turn, sloped}
use Rattle.rasterizer.proofs.Turns.{Left, back_at, left_all, left_more, left_stop, left_none}

module _ {E : Type 0} (S : Surface E) (axis : Axis) (c : BackendColor) (first end : ℤ) (start grad : Float) where
  abbrev count : ℕ
  count = nat_abs (end -ℤ first)

  abbrev step : ℕ → List Pixel
  step k = blended axis c (first +ℤ pos k) (walk k start grad)

  -- what is left of the steps when the loop comes to x at the height y
  pub record StepsLeft (x : ℤ) (y : Float) (h₀ h : S.Held) : Type 0 where
    pub rises : first ≤ℤ end
    pub height : y ≡ walk (nat_abs (x -ℤ first)) start grad
    pub left : Left S count step first x h₀ h

  pub steps_all : (h : S.Held) → first ≤ℤ end → StepsLeft first start h h
  steps_all h r =
      let z : 0 ≡ nat_abs (first -ℤ first) = omega (arith, ints) in
      record { rises = r; height = ap (λ (k : ℕ). walk k start grad) z; left = left_all S count step first h }

  -- the height stays within the first end's and the number of steps
  pub height_sized : (x : ℤ) (y : Float) (h₀ h : S.Held) → StepsLeft x y h₀ h → count ≤ 65534 → Sized 32767 start → Sized 1 grad → Sized 131072 y
  height_sized x y h₀ h l few s g =
      let low = l.left.low in
      let high = l.left.high in
      let k : nat_abs (x -ℤ first) ≤ 65534 = omega (arith, ints) in
      subst (Sized 131072) (sym l.height) (sized_more (32767 + nat_abs (x -ℤ first)) 131072 (walk_sized 32767 (nat_abs (x -ℤ first)) s g (omega arith)) (omega arith))

  -- the pixels at x are those of that turn
  at_turn : (x : ℤ) (y : Float) (h h' : S.Held) (r : Answer E) → first ≤ℤ x → y ≡ walk (nat_abs (x -ℤ first)) start grad → (r, h') ≡ run S h (all (blended axis c x y)) → (r, h') ≡ run S h (all (step (nat_abs (x -ℤ first))))
  at_turn x y h h' r low hy e = e ∙ ap (λ (v : Float). run S h (all (blended axis c x v))) hy ∙ ap (λ (z : ℤ). run S h (all (blended axis c z (walk (nat_abs (x -ℤ first)) start grad)))) (sym (back_at first x low))

  inside : (x : ℤ) (y : Float) (h₀ h : S.Held) → StepsLeft x y h₀ h → x <ℤ end → x <ℤ (first +ℤ pos count)
  inside x y h₀ h l lt = let rises = l.rises in omega (arith, ints)

  pub steps_more : (x : ℤ) (y : Float) (h₀ h h' : S.Held) (r : Answer E) → StepsLeft x y h₀ h → x <ℤ end → (r, h') ≡ run S h (all (blended axis c x y)) → r ≡ Ok tt → StepsLeft (x +ℤ pos 1) (add binary64 y grad) h₀ h'
  steps_more x y h₀ h h' r l lt e ok =
      let low = l.left.low in
      let next : nat_abs (x -ℤ first) + 1 ≡ nat_abs ((x +ℤ pos 1) -ℤ first) = omega (arith, ints) in
      record {
        rises = l.rises;
        height = ap (λ (v : Float). add binary64 v grad) l.height ∙ sym (walk_more (nat_abs (x -ℤ first)) start grad) ∙ ap (λ (k : ℕ). walk k start grad) next;
        left = left_more S count step first x h₀ h h' r l.left (inside x y h₀ h l lt) (at_turn x y h h' r l.left.low l.height e) ok;
      }

  pub steps_stop : (x : ℤ) (y : Float) (h₀ h h' : S.Held) (r : Answer E) (k : DrawingErrorKind E) → StepsLeft x y h₀ h → x <ℤ end → (r, h') ≡ run S h (all (blended axis c x y)) → r ≡ Err k → (Err k, h') ≡ run S h₀ (all (in_turn count step))
  steps_stop x y h₀ h h' r k l lt e bad = sym (left_stop S count step first x h₀ h h' r k l.left (inside x y h₀ h l lt) (at_turn x y h h' r l.left.low l.height e) bad)

  pub steps_none : (x : ℤ) (y : Float) (h₀ h : S.Held) → StepsLeft x y h₀ h → end ≤ℤ x → (Ok tt, h) ≡ run S h₀ (all (in_turn count step))
  steps_none x y h₀ h l ge =
      let rises = l.rises in
      sym (left_none S count step first x h₀ h l.left (omega (arith, ints)))

  -- the steps between two ends
  pub as_sloped : (p q : ℤ × ℤ) → first ≡ p.0 → end ≡ q.0 → start ≡ of_int binary64 p.1 → grad ≡ slope (q.1 -ℤ p.1) (q.0 -ℤ p.0) → in_turn count step ≡ sloped axis p q c
  as_sloped p q a b d e =
      ap (λ (z : ℤ). in_turn (nat_abs (end -ℤ z)) (λ k. blended axis c (z +ℤ pos k) (walk k start grad))) a
      ∙ ap (λ (z : ℤ). in_turn (nat_abs (z -ℤ p.0)) (λ k. blended axis c (p.0 +ℤ pos k) (walk k start grad))) b
      ∙ ap (λ (v : Float). in_turn (nat_abs (q.0 -ℤ p.0)) (λ k. blended axis c (p.0 +ℤ pos k) (walk k v grad))) d
      ∙ ap (λ (v : Float). in_turn (nat_abs (q.0 -ℤ p.0)) (λ k. blended axis c (p.0 +ℤ pos k) (walk k (of_int binary64 p.1) v))) e

-- two near numbers are at most 65,534 apart
pub near_apart : (a b : ℤ) → nat_abs a ≤ 32767 → nat_abs b ≤ 32767 → nat_abs (b -ℤ a) ≤ 65534
near_apart a b p q = omega (arith, ints)

-- and their difference fits
pub near_fits : (a b : ℤ) → nat_abs a ≤ 32767 → nat_abs b ≤ 32767 → SFits w32 (b -ℤ a)
near_fits a b p q = omega (arith, ints)

-- a difference that rises
pub rises_by : (a b : ℤ) → a <ℤ b → pos 0 <ℤ (b -ℤ a)
rises_by a b l = omega (arith, ints)

pub lt_le : (a b : ℤ) → a <ℤ b → a ≤ℤ b
lt_le a b l = omega (arith, ints)

-- the number after one below a near number fits
pub step_fits : (x first end : ℤ) → first ≤ℤ x → x <ℤ end → nat_abs end ≤ 32767 → SFits w32 first → SFits w32 (x +ℤ pos 1)
step_fits x first end a b d f = omega (arith, ints)

-- what the loop's test says
pub test_in : (x end t : ℤ) → t ≡ x → lt_z t end ≡ true → x <ℤ end
test_in x end t e h = omega (arith, ints, h)

pub test_out : (x end t : ℤ) → t ≡ x → lt_z t end ≡ false → end ≤ℤ x
test_out x end t e h = omega (arith, ints, h)
