-- A draw, and what a surface makes of it.
use Rattle.std.specs.Prelude.{List, [], ◌∷◌, ℤ, Some, None, Ok, Err, Option, Result}
use Rattle.plotters_backend.specs.Surface.{Surface}
use Rattle.plotters_backend.specs.declared.style.BackendColor.{BackendColor}
use Rattle.plotters_backend.specs.declared.error.Refusal.{Refusal}
use Rattle.plotters_backend.specs.declared.error.DrawingErrorKind.{DrawingErrorKind}
use Rattle.plotters_backend.specs.declared.error.DrawingErrorKind.TheVariants.{DrawingError, Refused}

abbrev pub Pixel : Type 0
Pixel = (ℤ × ℤ) × BackendColor

-- A draw as a surface gets it: its pixels in order, and the refusal that ends it after them, if one does.
pub record Drawing : Type 0 where
  pub pixels : List Pixel
  pub end : Option Refusal

-- a draw that is carried out
abbrev pub all : List Pixel → Drawing
all ps = record { pixels = ps; end = None }

-- a draw that is refused before any work
abbrev pub refused : Refusal → Drawing
refused k = record { pixels = []; end = Some k }

-- what a draw answers
abbrev pub Answer : Type 0 → Type 0
Answer E = Result (Unit {0}) (DrawingErrorKind E)

-- with what the surface then holds
abbrev pub Outcome : {E : Type 0} → Surface E → Type 0
Outcome {E} S = Answer E × S.Held

-- what is left of an outcome once a draw has come to its end
abbrev pub ended : {E : Type 0} (S : Surface E) → Option Refusal → S.Held → Outcome S
ended S None h = (Ok tt, h)
ended S (Some k) h = (Err (Refused k), h)

-- lays pixels in turn until one is refused, and then comes to the end
abbrev pub lay : {E : Type 0} (S : Surface E) → Option Refusal → S.Held → List Pixel → Outcome S
lay S end h [] = ended S end h
lay S end h (p ∷ ps) = elim (S.refuses h p.0 p.1) [ None ↦ lay S end (S.laid h p.0 p.1) ps | Some e ↦ (Err (DrawingError e), S.laid h p.0 p.1) ]

-- what a surface makes of a draw
abbrev pub run : {E : Type 0} (S : Surface E) → S.Held → Drawing → Outcome S
run S h d = lay S d.end h d.pixels
