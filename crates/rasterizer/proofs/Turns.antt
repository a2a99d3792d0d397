-- What is left of pixels that are laid in turn.
use Rattle.std.proofs.Common.{◌≡◌, ℕ, suc, ◌+◌, ◌-◌, ◌<◌, List, [], ◌++◌, ℤ, pos, ◌+ℤ◌, ◌-ℤ◌, nat_abs, ◌≤ℤ◌, ◌<ℤ◌, Ok, Err, ap, ◌∙◌, arith}
use borrow.Author.Differences.{ints}
use Rattle.std.specs.List.{range_with_len, flat_map}
use Rattle.plotters_backend.specs.Surface.{Surface}
use Rattle.plotters_backend.specs.Run.{Answer, Pixel, all, run}
use Rattle.plotters_backend.proofs.Runs.{join_ok, join_err}
use Rattle.plotters_backend.specs.declared.error.DrawingErrorKind.{DrawingErrorKind}
use Rattle.rasterizer.specs.Line.{in_turn}

-- the turns from k on
abbrev pub from : ℕ → ℕ → (ℕ → List Pixel) → List Pixel
from k n f = flat_map f (range_with_len k (n - k))

-- a whole number by how far it lies from the first
pub back_at : (first x : ℤ) → first ≤ℤ x → first +ℤ pos (nat_abs (x -ℤ first)) ≡ x
back_at first x low = omega (arith, ints)

from_start : (n : ℕ) (f : ℕ → List Pixel) → in_turn n f ≡ from 0 n f
from_start n f = ap (λ (m : ℕ). flat_map f (range_with_len 0 m)) (omega arith)

from_more : (k n : ℕ) (f : ℕ → List Pixel) → k < n → from k n f ≡ f k ++ from (k + 1) n f
from_more k n f l = let e : n - k ≡ suc (n - (k + 1)) = omega arith in ap (λ (m : ℕ). flat_map f (range_with_len k m)) e

from_done : (n : ℕ) (f : ℕ → List Pixel) → from n n f ≡ []
from_done n f = let e : n - n ≡ 0 = omega arith in ap (λ (m : ℕ). flat_map f (range_with_len n m)) e

module _ {E : Type 0} (S : Surface E) (n : ℕ) (f : ℕ → List Pixel) where
  -- What a loop over the whole numbers from `first` has left to lay when it comes to x: laying that from h is laying all from h₀.
  pub record Left (first x : ℤ) (h₀ h : S.Held) : Type 0 where
    pub low : first ≤ℤ x
    pub high : x ≤ℤ (first +ℤ pos n)
    pub is : run S h₀ (all (in_turn n f)) ≡ run S h (all (from (nat_abs (x -ℤ first)) n f))

  -- all, where the loop begins
  pub left_all : (first : ℤ) (h : S.Held) → Left first first h h
  left_all first h =
      let z : 0 ≡ nat_abs (first -ℤ first) = omega (arith, ints) in
      record { low = omega (arith, ints); high = omega (arith, ints); is = ap (λ (ps : List Pixel). run S h (all ps)) (from_start n f ∙ ap (λ (j : ℕ). from j n f) z) }

  -- the pixels of one turn come first
  left_first : (first x : ℤ) (h₀ h : S.Held) → Left first x h₀ h → x <ℤ (first +ℤ pos n) → run S h₀ (all (in_turn n f)) ≡ run S h (all (f (nat_abs (x -ℤ first)) ++ from (nat_abs (x -ℤ first) + 1) n f))
  left_first first x h₀ h l lt =
      let less : nat_abs (x -ℤ first) < n = omega (arith, ints, l.low) in
      l.is ∙ ap (λ (ps : List Pixel). run S h (all ps)) (from_more (nat_abs (x -ℤ first)) n f less)

  -- after a turn that was accepted
  pub left_more : (first x : ℤ) (h₀ h h' : S.Held) (r : Answer E) → Left first x h₀ h → x <ℤ (first +ℤ pos n) → (r, h') ≡ run S h (all (f (nat_abs (x -ℤ first)))) → r ≡ Ok tt → Left first (x +ℤ pos 1) h₀ h'
  left_more first x h₀ h h' r l lt e a =
      let low = l.low in
      let next : nat_abs (x -ℤ first) + 1 ≡ nat_abs ((x +ℤ pos 1) -ℤ first) = omega (arith, ints) in
      record {
        low = omega (arith, ints);
        high = omega (arith, ints);
        is = left_first first x h₀ h l lt ∙ join_ok S h h' (f (nat_abs (x -ℤ first))) (from (nat_abs (x -ℤ first) + 1) n f) r e a ∙ ap (λ (j : ℕ). run S h' (all (from j n f))) next;
      }

  -- a turn that was refused ends the draw
  pub left_stop : (first x : ℤ) (h₀ h h' : S.Held) (r : Answer E) (k : DrawingErrorKind E) → Left first x h₀ h → x <ℤ (first +ℤ pos n) → (r, h') ≡ run S h (all (f (nat_abs (x -ℤ first)))) → r ≡ Err k → run S h₀ (all (in_turn n f)) ≡ (Err k, h')
  left_stop first x h₀ h h' r k l lt e a = left_first first x h₀ h l lt ∙ join_err S h h' (f (nat_abs (x -ℤ first))) (from (nat_abs (x -ℤ first) + 1) n f) r k e a

  -- nothing is left at the end
  pub left_none : (first x : ℤ) (h₀ h : S.Held) → Left first x h₀ h → (first +ℤ pos n) ≤ℤ x → run S h₀ (all (in_turn n f)) ≡ (Ok tt, h)
  left_none first x h₀ h l ge =
      let low = l.low in
      let high = l.high in
      let k : nat_abs (x -ℤ first) ≡ n = omega (arith, ints) in
      l.is ∙ ap (λ (j : ℕ). run S h (all (from j n f))) k ∙ ap (λ (ps : List Pixel). run S h (all ps)) (from_done n f)
