-- Points of a sheet, and pixels that leave it as it is.
use Rattle.std.proofs.Common.{◌≡◌, ℕ, ◌*◌, ◌<◌, Bool, true, false, cond, List, [], length, get_or, ℤ, nat_abs, Some, None, Option, sym, refl, ap, subst, arith}
use Rattle.std.proofs.lemmas.List.{set-get_or}
use Rattle.std.proofs.lemmas.Bool.{le-ltb}
use Rattle.plotters_backend.specs.Sizes.{index_at, proper}
use Rattle.plotters_backend.specs.Surface.{within}
use Rattle.plotters_backend.specs.declared.style.BackendColor.{BackendColor}
use Rattle.run_sheet.specs.declared.sheet.RunSheet.{RunSheet}
use Rattle.dots.specs.declared.pair.Pair.{Pair}
use Rattle.dots.specs.Dots.{dots_of}
use Rattle.dots.specs.Grid.{Grid, crowded, dotted, fault, ink_of, inked, light, offset, offset_at, sides}
use Rattle.dots.specs.GridLaws.{shown, within_place}
use Rattle.run_sheet.specs.Sheets.{area, grid_of}
use Rattle.dots.proofs.Cuts.{light_dots}
use Rattle.run_sheet.proofs.Wholes.{sheet_dots, sheet_few, sheet_sides}

-- a grid of the size s with no pairs is light, by whether that is proper
light_dots_by : (t : Bool) (s : ℕ × ℕ) → proper s ≡ t → record { size = (light s).size; dots = dots_of ((light s).size.0 * (light s).size.1) [] } ≡ light s
light_dots_by true s e = rw e (ap (λ (ds : List Bool). record { size = s; dots = ds }) (light_dots (s.0 * s.1) 0))
light_dots_by false s e = rw e

-- the grid of a sheet made anew, which has no pairs, is light
pub granted_grid : (s r : ℕ × ℕ) (rs : List Pair) → r ≡ (light s).size → rs ≡ [] → record { size = r; dots = dots_of (r.0 * r.1) rs } ≡ light s
granted_grid s r rs e f = rw (e, f) (light_dots_by (proper s) s refl)

-- the offset of a point is its index in the size of the sheet
pub sheet_offset : (s : RunSheet) (p : ℤ × ℤ) → index_at s.size p ≡ offset_at (grid_of s) p
sheet_offset s p = ap (λ (z : ℕ × ℕ). cond (within z p) (Some (offset (grid_of s) (nat_abs p.0) (nat_abs p.1))) None) (sym (sheet_sides s))

-- an offset that is found lies in the grid, by whether the point does
at_by : (t : Bool) (g : Grid) (p : ℤ × ℤ) (o : ℕ) → within (sides g) p ≡ t → Some o ≡ cond t (Some (offset g (nat_abs p.0) (nat_abs p.1))) None → o < length g.dots
at_by true g p o w e =
    let i : o ≡ offset g (nat_abs p.0) (nat_abs p.1) = cc in
    let s = shown g (nat_abs p.0) (nat_abs p.1) (subst (λ (z : ℤ × ℤ). within (sides g) z ≡ true) (within_place (sides g) p w) w) in
    rw i s.there
at_by false g p o w e = absurd cc

-- and so below the area of a sheet
pub at_area : (s : RunSheet) (p : ℤ × ℤ) (o : ℕ) → Some o ≡ offset_at (grid_of s) p → o < area s
at_area s p o e = rw (← sheet_dots s) (at_by (within (sides (grid_of s)) p) (grid_of s) p o refl e)

-- a colour that leaves a dot leaves them all
dotted_same : (g : Grid) (p : ℤ × ℤ) (c : BackendColor) → ink_of c ≡ None → dotted g p c ≡ g.dots
dotted_same g p c e =
    let o = offset g (nat_abs p.0) (nat_abs p.1) in
    let i : inked (get_or g.dots o false) c ≡ get_or g.dots o false = ap (λ (k : Option Bool). elim k [ None ↦ get_or g.dots o false | Some b ↦ b ]) e in
    rw i (set-get_or g.dots o false)

-- so the sheet accepts it
pub accepts : (s : RunSheet) (p : ℤ × ℤ) (c : BackendColor) → ink_of c ≡ None → fault (grid_of s) p c ≡ None
accepts s p c e =
    let d : dotted (grid_of s) p c ≡ (grid_of s).dots = dotted_same (grid_of s) p c e in
    let f : crowded (grid_of s).dots ≡ false = le-ltb _ _ (sheet_few s) in
    simp (d, f) (grind arith)
