-- A window is a sound layer.
use Rattle.std.specs.Prelude.{◌≡◌, ℕ, ◌+◌, ◌<◌, ◌≤◌, Bool, true, false, cond, ℤ, pos, negsuc, ◌+ℤ◌, Some, None}
use Rattle.std.proofs.Common.{sym, ap, ◌∙◌, arith, lt_of_lt_of_le, le_trans}
use Rattle.std.proofs.lemmas.Int.{ints}
use Rattle.plotters_backend.specs.Surface.{Surface, Lawful, within}
use Rattle.window.specs.Layer.{Sound, lies}
use Rattle.window.specs.LayerLaws.{layered_lawful}
use Rattle.window.specs.Places.{within_split, within_join}
use Rattle.window.specs.declared.frame.Frame.{Frame}
use Rattle.window.specs.Window.{begins, reaches, corner_on, empty, shown, shifted, passed, window_layer, windowed}

-- the two reaches, whether or not a side is 0
abbrev full : ℕ × ℕ → Frame → ℕ × ℕ
full s f = (reaches s.0 f.corner.0 f.extent.0, reaches s.1 f.corner.1 f.extent.1)

-- a window ends on the side that it begins on
begins_reaches : (side : ℕ) (a p : ℤ) (x : ℕ) → x < reaches side a p → x + begins side a < side
begins_reaches side a p x h = omega arith

-- a window shows no more than its reaches
shown_full : (s : ℕ × ℕ) (f : Frame) → ((shown s f).0 ≤ (full s f).0) × ((shown s f).1 ≤ (full s f).1)
shown_full s f = elim (empty s) as (λ b. ((cond {A = ℕ × ℕ} b (0, 0) (full s f)).0 ≤ (full s f).0) × ((cond {A = ℕ × ℕ} b (0, 0) (full s f)).1 ≤ (full s f).1)) [ true ↦ (omega arith, omega arith) | false ↦ (omega arith, omega arith) ]

-- and no more than there is below
pub shown_le : (s : ℕ × ℕ) (f : Frame) → ((shown s f).0 ≤ s.0) × ((shown s f).1 ≤ s.1)
shown_le s f = let k = shown_full s f in (le_trans k.0 (omega arith), le_trans k.1 (omega arith))

-- a place of the window lies on the surface below
shifted_within : (s : ℕ × ℕ) (f : Frame) (p : ℤ × ℤ) → within (shown s f) p ≡ true → within s (shifted s f p) ≡ true
shifted_within s f (pos x, pos y) e =
    let i = within_split (shown s f) x y e in
    let k = shown_full s f in
    let x< : x < (full s f).0 = lt_of_lt_of_le i.0 k.0 in
    let y< : y < (full s f).1 = lt_of_lt_of_le i.1 k.1 in
    within_join s (x + (corner_on s f).0) (y + (corner_on s f).1) (begins_reaches s.0 f.corner.0 f.extent.0 x x<) (begins_reaches s.1 f.corner.1 f.extent.1 y y<)
shifted_within s f (pos x, negsuc y) e = let z : ◌≡◌ {A = ℕ} 0 1 = cc in absurd (omega arith)
shifted_within s f (negsuc x, pos y) e = let z : ◌≡◌ {A = ℕ} 0 1 = cc in absurd (omega arith)
shifted_within s f (negsuc x, negsuc y) e = let z : ◌≡◌ {A = ℕ} 0 1 = cc in absurd (omega arith)

-- a shift by one distance keeps numbers apart
shift_apart : (k : ℕ) (a b : ℤ) → a +ℤ pos k ≡ b +ℤ pos k → a ≡ b
shift_apart k a b e = omega (arith, ints)

-- and so places
shifted_apart : (s : ℕ × ℕ) (f : Frame) (p q : ℤ × ℤ) → shifted s f p ≡ shifted s f q → p ≡ q
shifted_apart s f p q e =
    let d0 = shift_apart (corner_on s f).0 p.0 q.0 (ap (λ (r : ℤ × ℤ). r.0) e) in
    let d1 = shift_apart (corner_on s f).1 p.1 q.1 (ap (λ (r : ℤ × ℤ). r.1) e) in
    ap (λ (a : ℤ). (a, p.1)) d0 ∙ ap (λ (b : ℤ). (q.0, b)) d1

-- what a choice between a place and none gives, where it gives one
chosen : (b : Bool) (p q : ℤ × ℤ) → cond b (Some p) None ≡ Some q → p ≡ q
chosen true p q e = cc
chosen false p q e = let z : ◌≡◌ {A = ℕ} 0 1 = cc in absurd (omega arith)

-- a place that a window passes is passed shifted
pub passed_shifted : (s : ℕ × ℕ) (f : Frame) (p q : ℤ × ℤ) → passed s f p ≡ Some q → shifted s f p ≡ q
passed_shifted s f p q e = chosen (within (shown s f) p) (shifted s f p) q e

-- a place in the window is passed
pub passed_in : (s : ℕ × ℕ) (f : Frame) (p : ℤ × ℤ) → within (shown s f) p ≡ true → passed s f p ≡ Some (shifted s f p)
passed_in s f p e = ap (λ (b : Bool). cond b (Some (shifted s f p)) None) e

-- a place outside is not
pub passed_out : (s : ℕ × ℕ) (f : Frame) (p : ℤ × ℤ) → within (shown s f) p ≡ false → passed s f p ≡ None
passed_out s f p e = ap (λ (b : Bool). cond b (Some (shifted s f p)) None) e

-- a window is a sound layer
pub window_sound : (f : Frame) → Sound (window_layer f)
window_sound f = record {
  small = λ s k. let l = shown_le s f in (le_trans l.0 k.0, le_trans l.1 k.1);
  outside = λ s p e. passed_out s f p e;
  inside = λ s p e. ap (lies s) (passed_in s f p e) ∙ shifted_within s f p e;
  apart = λ s p p' q e e'. shifted_apart s f p p' (passed_shifted s f p q e ∙ sym (passed_shifted s f p' q e'));
}

-- a window on a lawful surface is a lawful surface
pub windowed_lawful : {E : Type 0} (S : Surface E) → Lawful S → Lawful (windowed S)
windowed_lawful S K = layered_lawful window_layer window_sound S K
