-- What one laid dot comes to for a whole sheet.
use Rattle.std.proofs.Common.{◌≡◌, ℕ, ◌+◌, ◌-◌, ◌<◌, ◌≤◌, Bool, true, false, ltb, length, get_or, slice_get, take, drop, set, Some, None, Ok, Err, Option, Vec, Global, vec_items, vec_len, vec_capacity, List, sym, refl, ap, ◌∙◌, ⊎_elim, arith}
use Rattle.std.specs.Option.{option_map_or}
use Rattle.std.proofs.lemmas.List.{get_or-take, length-take-le, take-append-drop}
use Rattle.std.proofs.lemmas.Option.{get_or_from_slice_get, slice_get_cases, slice_get_within}
use Rattle.dots.specs.declared.fault.SheetFault.TheVariants.{Full}
use Rattle.dots.specs.declared.pair.Pair.{Pair}
use Rattle.run_sheet.specs.declared.sheet.RunSheet.{RunSheet}
use Rattle.dots.specs.Dots.{canonical, dark, dots_of, pairs_of}
use Rattle.dots.specs.Finding.{starts_at, up_to}
use Rattle.run_sheet.specs.Sheets.{Lays, area, grid_of, held}
use Rattle.dots.proofs.Pairs.{canon_to, pairs_dots}
use Rattle.dots.proofs.Laying.{Laid, laid_dots, unchanged}
use Rattle.dots.proofs.Cuts.{Beside, beside, beside_dark, dot_at_lem, next_within, none_dark, read_again, up_to_le}
use Rattle.run_sheet.proofs.Wholes.{sheet_canon}

-- ---- the pairs beside a dot

-- i pairs of the sheet begin at the offset o or before it, and r is the last of them
abbrev pub Left : RunSheet → ℕ → ℕ → Pair → Type 0
Left s i o r = Beside (area s) o i (held s) r

-- there is one if i is not 0
pub left_there : (s : RunSheet) (i o : ℕ) → i ≡ up_to (held s) o → 0 < i → i - 1 < vec_len s.pairs
left_there s i o p l = omega (arith, up_to_le (held s) o, s.pairs.ok.0)

-- and it is the one that is read there
pub left_of : (s : RunSheet) (i o : ℕ) (r : Pair) → i ≡ up_to (held s) o → 0 < i → r ≡ get_or (held s) (i - 1) r → Left s i o r
left_of s i o r p l g = beside (area s) o i (held s) r (sheet_canon s) p l g

-- what is read there again is that pair
pub left_again : (s : RunSheet) (i o : ℕ) (r x : Pair) → Left s i o r → x ≡ get_or (held s) (i - 1) x → x ≡ r
left_again s i o r x b g = read_again b (held s) (drop i (held s)) x (sym (take-append-drop i (held s))) g

-- i of them are taken
taken : (s : RunSheet) (i o : ℕ) → i ≡ up_to (held s) o → length (take i (held s)) ≡ i
taken s i o p = length-take-le i (held s) (omega (arith, up_to_le (held s) o))

-- the last of those is that pair
pub last_left : (s : RunSheet) (i o : ℕ) (r : Pair) → i ≡ up_to (held s) o → Some r ≡ slice_get (take i (held s)) (length (take i (held s)) - 1) → Left s i o r
last_left s i o r p e =
    let xs = take i (held s) in
    let n = taken s i o p in
    let l : length xs - 1 < length xs = slice_get_within xs (length xs - 1) r (sym e) in
    let k : length xs - 1 ≡ i - 1 = omega arith in
    left_of s i o r p (omega arith) (sym (get_or_from_slice_get xs (length xs - 1) r r (sym e)) ∙ get_or-take i (held s) (length xs - 1) r (omega arith) ∙ ap (λ (z : ℕ). get_or (held s) z r) k)

-- so the dot is dark where the last one covers it
pub last_dark : (s : RunSheet) (i o : ℕ) (m : Option Pair) → o < area s → i ≡ up_to (held s) o → m ≡ slice_get (take i (held s)) (length (take i (held s)) - 1) → option_map_or (λ (r : Pair). ltb o (r.offset + r.len)) m false ≡ get_or (grid_of s).dots o false
last_dark s i o (Some r) l p e = sym (dot_at_lem (area s) o (held s) l ∙ beside_dark (last_left s i o r p e))
last_dark s i o None l p e =
    let xs = take i (held s) in
    let n = taken s i o p in
    let z : 0 ≡ i = ⊎_elim (λ w. absurd cc) (λ w. omega arith) (slice_get_cases xs (length xs - 1)).1 in
    sym (dot_at_lem (area s) o (held s) l ∙ none_dark (area s) o (held s) (sheet_canon s) (z ∙ p))

-- a pair that begins at an offset ends within the sheet
pub right_within : (s : RunSheet) (i o : ℕ) (r : Pair) → true ≡ starts_at (drop i (held s)) o → r ≡ get_or (held s) i r → o + r.len ≤ area s
right_within s i o r e g = next_within (area s) i o (held s) r (sheet_canon s) (sym e) g

-- ---- a dot laid

-- The pairs v have the dots of the sheet s with b laid at o.
pub record Changed (s : RunSheet) (o : ℕ) (b : Bool) (v : Vec Pair Global) : Type 0 where
  -- what a sheet that holds them asks for
  pub holds : record { canon : canonical (area s) 0 (vec_items v) ≡ true; few : vec_len v ≤ 4096; room : 4096 ≤ vec_capacity v; wide : s.size.0 ≤ 16384; high : s.size.1 ≤ 16384; area : area s ≤ 268435456 }
  -- what such a sheet has
  pub lays : (s.size ≡ s.size) × (dots_of (area s) (vec_items v) ≡ set (grid_of s).dots o b) × (length (pairs_of (set (grid_of s).dots o b)) ≤ 4096)

-- how many pairs the dots with one laid have
laid_count : (s : RunSheet) (o : ℕ) (b : Bool) (rs : List Pair) → o < area s → Laid (area s) 0 o b (held s) rs → length (pairs_of (set (grid_of s).dots o b)) ≡ length rs
laid_count s o b rs l d = ap (λ (ds : List Bool). length (pairs_of ds)) (sym (laid_dots (area s) o b (held s) rs l d)) ∙ ap length (pairs_dots (area s) rs d.canon)

-- a change that leaves at most 4,096 pairs
pub changed : {s : RunSheet} {o : ℕ} {b : Bool} {v : Vec Pair Global} → o < area s → vec_len v ≤ 4096 → vec_capacity v ≡ vec_capacity s.pairs → Laid (area s) 0 o b (held s) (vec_items v) → Changed s o b v
changed {s} {o} {b} {v} l f g d =
    record {
      holds = record { canon = canon_to (area s) 0 (vec_items v) d.canon; few = f; room = omega (arith, s.room); wide = s.wide; high = s.high; area = s.area };
      lays = (refl, laid_dots (area s) o b (held s) (vec_items v) l d, omega (arith, laid_count s o b (vec_items v) l d, v.ok.0));
    }

-- a dot that is so already
pub so_already : (s : RunSheet) (o : ℕ) (b : Bool) → o < area s → dark (held s) o ≡ b → Lays s s o b (Ok tt)
so_already s o b l e = (changed {s = s} {o = o} {b = b} {v = s.pairs} l s.few refl (unchanged (area s) o b (held s) (sheet_canon s) e)).lays

-- a change of a full sheet that would leave one pair more is refused
pub too_many : {s : RunSheet} {o : ℕ} {b : Bool} {rs : List Pair} → o < area s → vec_len s.pairs ≡ 4096 → Laid (area s) 0 o b (held s) rs → length rs ≡ length (held s) + 1 → Lays s s o b (Err Full)
too_many {s} {o} {b} {rs} l f d m = (refl, omega (arith, laid_count s o b rs l d, s.pairs.ok.0))
