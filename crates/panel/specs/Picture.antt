-- The picture that a panel means: three bytes a cell, row after row, and the bytes beyond.
use Rattle.std.specs.Prelude.{ℕ, ◌+◌, ◌*◌, Bool, cond, ◌&&◌, List, length, ℤ, Some, None, Ok, Err, Option, Result, nat_le, slice_index, slice_set, unsigned_abs}
use Rattle.plotters_backend.specs.Sizes as sizes
use Rattle.plotters_backend.specs.Surface.{Surface, within}
use Rattle.plotters_backend.specs.declared.style.BackendColor.{BackendColor}
use Rattle.plotters_backend.specs.declared.error.Refusal.{Refusal}
use Rattle.plotters_backend.specs.declared.error.Refusal.TheVariants.{Size}
use Rattle.panel.specs.Blend.{blend}
use Rattle.std.specs.declared.convert.Infallible.{Infallible}

-- width and height, and the memory
pub record Picture : Type 0 where
  pub size : ℕ × ℕ
  pub bytes : List ℕ

-- ---- sizes

-- whether no side is 0 or above 16,384, and n bytes suffice
abbrev pub proper : ℕ × ℕ → ℕ → Bool
proper s n = sizes.proper s && nat_le (3 * (s.0 * s.1)) n

abbrev pub size_check : ℕ × ℕ → ℕ → Result (Unit {0}) Refusal
size_check s n = cond (proper s n) (Ok tt) (Err Size)

-- the size that n bytes show: 0 by 0 where they do not suffice
abbrev pub shown : ℕ × ℕ → ℕ → ℕ × ℕ
shown s n = cond (proper s n) s (0, 0)

-- the size that a picture shows
abbrev pub sides : Picture → ℕ × ℕ
sides g = shown g.size (length g.bytes)

-- a size and some memory
abbrev pub picture_of : ℕ × ℕ → List ℕ → Picture
picture_of s bs = record { size = s; bytes = bs }

-- memory that a panel was made over: its size is one that it shows
abbrev pub handed : ℕ × ℕ → List ℕ → Picture
handed s bs = picture_of (shown s (length bs)) bs

-- ---- places

-- where the bytes of the cell at (x, y) begin
abbrev pub start : Picture → ℕ → ℕ → ℕ
start g x y = 3 * sizes.index g.size x y

-- of any point: none outside the picture
abbrev pub start_at : Picture → ℤ × ℤ → Option ℕ
start_at g p = cond (within (sides g) p) (Some (start g (unsigned_abs p.0) (unsigned_abs p.1))) None

-- three bytes of some memory
abbrev pub three : List ℕ → ℕ → ℕ × ℕ × ℕ
three bs k = (slice_index bs k, slice_index bs (k + 1), slice_index bs (k + 2))

-- and the memory with three bytes set
abbrev pub put : List ℕ → ℕ → ℕ × ℕ × ℕ → List ℕ
put bs k t = slice_set (slice_set (slice_set bs k t.0) (k + 1) t.1) (k + 2) t.2

-- the cell at (x, y): its red, green and blue
abbrev pub cell : Picture → ℕ → ℕ → ℕ × ℕ × ℕ
cell g x y = three g.bytes (start g x y)

-- of any point: none outside the picture
abbrev pub cell_at : Picture → ℤ × ℤ → Option (ℕ × ℕ × ℕ)
cell_at g p = cond (within (sides g) p) (Some (cell g (unsigned_abs p.0) (unsigned_abs p.1))) None

-- ---- the surface

-- the memory with a colour laid over the three bytes from k on
abbrev pub blended : List ℕ → ℕ → BackendColor → List ℕ
blended bs k c = put bs k (blend (three bs k) c)

-- the picture with one pixel laid: outside its size it is as it was
abbrev pub inlaid : Picture → ℤ × ℤ → BackendColor → Picture
inlaid g p c = cond (within (sides g) p) (record { size = g.size; bytes = blended g.bytes (start g (unsigned_abs p.0) (unsigned_abs p.1)) c }) g

-- no pixel is refused
abbrev pub picture : Surface Infallible
picture = record { Held = Picture; Cell = ℕ × ℕ × ℕ; size = sides; cell = cell; rule = blend; refuses = λ _ _ _. None; laid = inlaid }
