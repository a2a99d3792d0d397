-- The grid of a sheet is whole, and its pairs are the ones that the sheet holds.
use Rattle.std.proofs.Common.{◌≡◌, ℕ, ◌≤◌, true, length, sym, ap, ◌∙◌, subst, arith}
use Rattle.std.proofs.lemmas.List.FromFn.{length-map-range_with_len}
use Rattle.std.proofs.lemmas.Bool.{le-leb, eq-eqb, and_from, cond-true}
use Rattle.run_sheet.specs.declared.sheet.RunSheet.{RunSheet}
use Rattle.dots.specs.Dots.{Canon, dark, dots_of, pairs_of}
use Rattle.dots.specs.Grid.{sides, whole}
use Rattle.run_sheet.specs.Sheets.{OneForm, area, grid_of, held}
use Rattle.dots.proofs.Pairs.{canon_from, pairs_dots}

-- a sheet has one dot for each place
pub sheet_dots : (s : RunSheet) → length (grid_of s).dots ≡ area s
sheet_dots s = length-map-range_with_len (dark (held s)) 0 (area s)

-- its grid is whole
pub sheet_whole : (s : RunSheet) → whole (grid_of s) ≡ true
sheet_whole s = and_from _ _ (and_from _ _ (le-leb _ _ s.wide) (le-leb _ _ s.high)) (eq-eqb _ _ (sheet_dots s))

-- so it shows the sheet's size
pub sheet_sides : (s : RunSheet) → sides (grid_of s) ≡ s.size
sheet_sides s = cond-true (whole (grid_of s)) s.size (0, 0) (sheet_whole s)

-- its pairs have their one form
pub sheet_canon : (s : RunSheet) → Canon (area s) 0 (held s)
sheet_canon s = canon_from (area s) 0 (held s) s.canon

-- and are those of its dots
pub sheet_pairs : (s : RunSheet) → pairs_of (grid_of s).dots ≡ held s
sheet_pairs s = pairs_dots (area s) (held s) (sheet_canon s)

-- of which there are at most 4,096
pub sheet_few : (s : RunSheet) → length (pairs_of (grid_of s).dots) ≤ 4096
sheet_few s = omega (arith, ap length (sheet_pairs s), s.few, s.pairs.ok.0)

-- and no other pairs of that form have its dots
pub sheet_form : (s : RunSheet) → OneForm (grid_of s) (held s)
sheet_form s =
    record {
      canon = subst (λ (n : ℕ). Canon n 0 (held s)) (sym (sheet_dots s)) (sheet_canon s);
      dots = ap (λ (n : ℕ). dots_of n (held s)) (sheet_dots s);
      only = λ qs c e. sym (pairs_dots (length (grid_of s).dots) qs c) ∙ ap pairs_of e ∙ sheet_pairs s;
    }
