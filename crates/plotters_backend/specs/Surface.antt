-- What a surface means.
use Rattle.std.specs.Prelude.{◌≡◌, ℕ, ◌≤◌, Bool, true, false, ◌&&◌, ℤ, pos, negsuc, Some, None, Ok, Err, Option, Result, ◌≢◌, nat_lt}
use Rattle.std.specs.Float.Ieee as Ieee
use Rattle.plotters_backend.specs.Color.{zero, one, solid}
use Rattle.plotters_backend.specs.declared.style.BackendColor.{BackendColor}
use Rattle.plotters_backend.specs.declared.error.DrawingErrorKind.{DrawingErrorKind}
use Rattle.plotters_backend.specs.declared.error.DrawingErrorKind.TheVariants.{DrawingError}

-- E is the type of the surface's own faults
pub record Surface (E : Type 0) : Type 1 where
  pub Held : Type 0
  pub Cell : Type 0
  -- width and height
  pub size : Held → ℕ × ℕ
  -- the cell at a place
  pub cell : Held → ℕ → ℕ → Cell
  -- what a colour makes of a cell, the same at every place
  pub rule : Cell → BackendColor → Cell
  -- the fault with which a pixel is refused, if it is
  pub refuses : Held → ℤ × ℤ → BackendColor → Option E
  -- what is held after a pixel was handed in
  pub laid : Held → ℤ × ℤ → BackendColor → Held

-- whether a place lies in a size
abbrev pub within : ℕ × ℕ → ℤ × ℤ → Bool
within (w, h) (pos x, pos y) = nat_lt x w && nat_lt y h
within (w, h) (pos x, negsuc y) = false
within (w, h) (negsuc x, pos y) = false
within (w, h) (negsuc x, negsuc y) = false

pub record Lawful {E : Type 0} (S : Surface E) : Type 0 where
  -- no side is above 16,384
  pub small : (h : S.Held) → ((S.size h).0 ≤ 16384) × ((S.size h).1 ≤ 16384)
  -- the size never changes
  pub keeps : (h : S.Held) (p : ℤ × ℤ) (c : BackendColor) → S.size (S.laid h p c) ≡ S.size h
  -- a pixel outside the size is accepted and alters nothing
  pub outside : (h : S.Held) (p : ℤ × ℤ) (c : BackendColor) → within (S.size h) p ≡ false → (S.refuses h p c ≡ None) × (S.laid h p c ≡ h)
  -- inside, unless it is refused, that cell becomes what the rule gives
  pub here : (h : S.Held) (x y : ℕ) (c : BackendColor) → within (S.size h) (pos x, pos y) ≡ true → S.refuses h (pos x, pos y) c ≡ None → S.cell (S.laid h (pos x, pos y) c) x y ≡ S.rule (S.cell h x y) c
  -- and no other cell changes
  pub others : (h : S.Held) (p : ℤ × ℤ) (c : BackendColor) (x y : ℕ) → within (S.size h) (pos x, pos y) ≡ true → (p ≢ (pos x, pos y)) → S.cell (S.laid h p c) x y ≡ S.cell h x y
  -- a refused pixel alters no cell
  pub refused : (h : S.Held) (p : ℤ × ℤ) (c : BackendColor) (e : E) → S.refuses h p c ≡ Some e → (x y : ℕ) → within (S.size h) (pos x, pos y) ≡ true → S.cell (S.laid h p c) x y ≡ S.cell h x y
  -- an opaque colour gives the same cell over every cell: the colour's own cell
  pub opaque : (c : BackendColor) → Ieee.eq c.alpha one ≡ true → (a b : S.Cell) → S.rule a c ≡ S.rule b c
  -- a colour at any alpha leaves the own cell of its opaque self
  pub own : (c : BackendColor) (a : S.Cell) → S.rule (S.rule a (solid c)) c ≡ S.rule a (solid c)
  -- an alpha that is zero, negative or not a number leaves every cell
  pub clear : (c : BackendColor) → Ieee.lt zero c.alpha ≡ false → (a : S.Cell) → S.rule a c ≡ a

-- what a pixel answers, by the refusal question
abbrev pub answer : {E : Type 0} → Option E → Result (Unit {0}) (DrawingErrorKind E)
answer None = Ok tt
answer (Some e) = Err (DrawingError e)
