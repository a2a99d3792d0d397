-- The draw fill_polygon.
use Rattle.std.specs.Prelude.{◌≡◌, ℕ, cond, ◌||◌, List, [], ◌∷◌, length, drop, Some, None, Ok, Err, Option, Result, nat_lt}
use Rattle.plotters_backend.specs.Run.{Drawing, Pixel, all, refused}
use Rattle.plotters_backend.specs.declared.error.Refusal.{Refusal}
use Rattle.plotters_backend.specs.declared.error.Refusal.TheVariants.{Far, Many, Pool}
use Rattle.plotters_backend.specs.declared.style.BackendColor.{BackendColor}
use Rattle.outline.specs.Filling.{filled}
use Rattle.outline.specs.Lists.{any}
use Rattle.outline.specs.Outline.{Point, Outline, least_corner, greatest_corner}
use Rattle.rasterizer.specs.Judge.{far}
use Rattle.rasterizer.specs.Line.{thin}
use Rattle.polygon.specs.Rims.{mixes}

-- the least and the greatest corner of the box, if there is a corner
abbrev pub box_of : Outline → Option (Point × Point)
box_of [] = None
box_of (p ∷ ps) = Some (least_corner (p ∷ ps), greatest_corner (p ∷ ps))

-- the line that a flat outline becomes
abbrev pub flat_line : BackendColor → Outline → List Pixel
flat_line c o = elim (box_of o) [ None ↦ [] | Some b ↦ thin b.0 b.1 c ]

-- the pixels of a fill
abbrev pub fill_pixels : BackendColor → Outline → List Pixel
fill_pixels c o = filled (flat_line c o) mixes c o

-- how many sides, live sides and marks are lent
abbrev pub Lent : Type 0
Lent = ℕ × ℕ × ℕ

-- why a fill is refused before any work, the smallest number first
abbrev pub fill_refusal : Outline → Lent → Option Refusal
fill_refusal o (s, e, k) =
    cond (any far o) (Some Far)
    (cond (nat_lt 1024 (length o)) (Some Many)
    (cond (nat_lt s (length o) || (nat_lt e (length o) || nat_lt k 65536)) (Some Pool)
    None))

-- what the judge of a fill answers
abbrev pub judged : Option Refusal → Result (Unit {0}) Refusal
judged None = Ok tt
judged (Some k) = Err k

-- the fill as a draw, whatever the alpha
abbrev pub fill : Outline → BackendColor → Lent → Drawing
fill o c lent = elim (fill_refusal o lent) [ None ↦ all (fill_pixels c o) | Some k ↦ refused k ]

-- what a lent pool keeps of what it held, of which a fill may use the first n: all of it where the fill was refused before any work, and otherwise all but those
abbrev pub Spared : {X : Type 0} → Option Refusal → ℕ → List X → List X → Type 0
Spared None n before after = drop n after ≡ drop n before
Spared (Some k) n before after = after ≡ before
