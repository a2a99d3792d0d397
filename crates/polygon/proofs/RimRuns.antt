-- How the pixels of edges are laid, one edge after the other.
use Rattle.std.proofs.Common.{◌≡◌, ℕ, ◌+◌, ◌<◌, Bool, cond, List, [], ◌++◌, length, get_or, drop, ℤ, pos, Ok, Err, sym, refl, ap, ◌∙◌}
use lib.Ieee.{Float}
use Rattle.std.proofs.lemmas.List.{at_drop_more}
use Rattle.plotters_backend.specs.Color.{mixed}
use Rattle.plotters_backend.specs.Surface.{Surface}
use Rattle.plotters_backend.specs.Run.{Answer, Pixel, all, run}
use Rattle.plotters_backend.specs.declared.error.DrawingErrorKind.{DrawingErrorKind}
use Rattle.plotters_backend.specs.declared.style.BackendColor.{BackendColor}
use Rattle.plotters_backend.proofs.Runs.{join_ok, join_err}
use Rattle.edges.specs.declared.side.Edge.{Edge}
use Rattle.edges.specs.Side.{is_sound, Sound, place64, zero64, floor_at, ceil_at}
use Rattle.outline.specs.Lists.{in_turn}
use Rattle.plotters_backend.specs.declared.axis.Axis.{Axis}
use Rattle.outline.proofs.Lying.{not_same}
use Rattle.polygon.specs.Rims.{bare_by, blends, rim}
use Rattle.polygon.proofs.Standing.{from_sound}

-- what was read off a sound edge whose place is not whole: its floor, its ceil, and by what its pixels are mixed
pub record Read (a : Axis) (e : Edge) (f k : ℤ) (b : Float × Float) : Type 0 where
  pub floor : f ≡ floor_at e
  pub ceil : k ≡ ceil_at e
  pub apart : f ≡ k → ⊥
  pub blend : b ≡ blends a (place64 e)

-- as an edge answers it
pub read_off : (a : Axis) (e : Edge) (f k : ℤ) (q : Float) (b : Float × Float) → Sound e → f ≡ cond (is_sound e) (floor_at e) (pos 0) → k ≡ cond (is_sound e) (ceil_at e) (pos 0) → (f ≡ k → ⊥) → q ≡ cond (is_sound e) (place64 e) zero64 → b ≡ blends a q → Read a e f k b
read_off a e f k q b s p r n t u = record {
  floor = from_sound e f (floor_at e) (pos 0) s p;
  ceil = from_sound e k (ceil_at e) (pos 0) s r;
  apart = n;
  blend = u ∙ ap (blends a) (from_sound e q (place64 e) zero64 s t);
}

-- the rim of such an edge is its two pixels
rim_parts : (a : Axis) (m low : ℤ) (ms : List ℕ) (c : BackendColor) (e : Edge) (f k : ℤ) (b : Float × Float) (x y : BackendColor) → Read a e f k b → x ≡ mixed c b.0 → y ≡ mixed c b.1 → bare_by a m low ms f x ++ bare_by a m low ms k y ≡ rim a m low ms c e
rim_parts a m low ms c e f k b x y w p q =
    let B = blends a (place64 e) in
    let n : floor_at e ≡ ceil_at e → ⊥ = λ h. w.apart (w.floor ∙ h ∙ sym w.ceil) in
    let p' = p ∙ ap (λ (z : Float × Float). mixed c z.0) w.blend in
    let q' = q ∙ ap (λ (z : Float × Float). mixed c z.1) w.blend in
    ap (λ (z : ℤ). bare_by a m low ms z x ++ bare_by a m low ms k y) w.floor
    ∙ ap (λ (z : ℤ). bare_by a m low ms (floor_at e) x ++ bare_by a m low ms z y) w.ceil
    ∙ ap (λ (z : BackendColor). bare_by a m low ms (floor_at e) z ++ bare_by a m low ms (ceil_at e) y) p'
    ∙ ap (λ (z : BackendColor). bare_by a m low ms (floor_at e) (mixed c B.0) ++ bare_by a m low ms (ceil_at e) z) q'
    ∙ sym (ap (λ (z : Bool). cond z [] (bare_by a m low ms (floor_at e) (mixed c B.0) ++ bare_by a m low ms (ceil_at e) (mixed c B.1))) (not_same (floor_at e) (ceil_at e) n))

module _ {E : Type 0} (S : Surface E) where
  -- the two pixels of an edge, of which the first was refused
  pub rim_stop : (a : Axis) (m low : ℤ) (ms : List ℕ) (c : BackendColor) (e : Edge) (f k : ℤ) (b : Float × Float) (x : BackendColor) (h h' : S.Held) (r : Answer E) (j : DrawingErrorKind E) → Read a e f k b → x ≡ mixed c b.0 → (r, h') ≡ run S h (all (bare_by a m low ms f x)) → r ≡ Err j → (Err j, h') ≡ run S h (all (rim a m low ms c e))
  rim_stop a m low ms c e f k b x h h' r j w p l bad =
      sym (join_err S h h' (bare_by a m low ms f x) (bare_by a m low ms k (mixed c b.1)) r j l bad)
      ∙ ap (λ (ps : List Pixel). run S h (all ps)) (rim_parts a m low ms c e f k b x (mixed c b.1) w p refl)

  -- or was accepted
  pub rim_laid : (a : Axis) (m low : ℤ) (ms : List ℕ) (c : BackendColor) (e : Edge) (f k : ℤ) (b : Float × Float) (x y : BackendColor) (h h' h'' : S.Held) (r r' : Answer E) → Read a e f k b → x ≡ mixed c b.0 → y ≡ mixed c b.1 → (r, h') ≡ run S h (all (bare_by a m low ms f x)) → r ≡ Ok tt → (r', h'') ≡ run S h' (all (bare_by a m low ms k y)) → (r', h'') ≡ run S h (all (rim a m low ms c e))
  rim_laid a m low ms c e f k b x y h h' h'' r r' w p q l ok l' =
      l'
      ∙ sym (join_ok S h h' (bare_by a m low ms f x) (bare_by a m low ms k y) r l ok)
      ∙ ap (λ (ps : List Pixel). run S h (all ps)) (rim_parts a m low ms c e f k b x y w p q)

  module _ {X : Type 0} (f : X → List Pixel) (xs : List X) where
    -- What a loop over a list has left to lay when it comes to i: laying that from h is laying all from h₀.
    abbrev pub Left : ℕ → S.Held → S.Held → Type 0
    Left i h₀ h = run S h₀ (all (in_turn f xs)) ≡ run S h (all (in_turn f (drop i xs)))

    -- the pixels of one element come first
    left_first : (i : ℕ) (d : X) (h₀ h : S.Held) → i < length xs → Left i h₀ h → run S h₀ (all (in_turn f xs)) ≡ run S h (all (f (get_or xs i d) ++ in_turn f (drop (i + 1) xs)))
    left_first i d h₀ h lt l = l ∙ at_drop_more (λ (ys : List X). run S h (all (in_turn f ys))) xs i d lt

    -- after an element that was accepted
    pub left_more : (i : ℕ) (d : X) (h₀ h h' : S.Held) (r : Answer E) → i < length xs → Left i h₀ h → (r, h') ≡ run S h (all (f (get_or xs i d))) → r ≡ Ok tt → Left (i + 1) h₀ h'
    left_more i d h₀ h h' r lt l e ok = left_first i d h₀ h lt l ∙ join_ok S h h' (f (get_or xs i d)) (in_turn f (drop (i + 1) xs)) r e ok

    -- an element that was refused ends the draw
    pub left_stop : (i : ℕ) (d : X) (h₀ h h' : S.Held) (r : Answer E) (k : DrawingErrorKind E) → i < length xs → Left i h₀ h → (r, h') ≡ run S h (all (f (get_or xs i d))) → r ≡ Err k → (Err k, h') ≡ run S h₀ (all (in_turn f xs))
    left_stop i d h₀ h h' r k lt l e bad = sym (left_first i d h₀ h lt l ∙ join_err S h h' (f (get_or xs i d)) (in_turn f (drop (i + 1) xs)) r k e bad)
