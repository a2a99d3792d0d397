-- The fill lines that are read are those that are well formed, with what they write. Assumes nothing.
use Rattle.std.proofs.Common.{◌≡◌, ℕ, ◌*◌, ◌≤◌, leb, List, [], ◌∷◌, length, ℤ, Some, Option, sym, refl, ap, ◌∙◌, subst, arith}
use Rattle.std.specs.Option.{option_map, option_zip}
use Rattle.std.specs.List.{AllByRecursion}
use Rattle.std.proofs.lemmas.Bool.{leb-true, le-leb, cond-true}
use Rattle.std.proofs.lemmas.Option.{none-some}
use Rattle.script.specs.Commands.{after_name, point_of, points_of, outline_of, fill_of, fill_line}
use Rattle.script.specs.Numbers.{number, coordinate}
use Rattle.script.specs.Tells.{Tells}
use Rattle.script.specs.Written.{spaced, Outlines, IsFill}
use Rattle.script.proofs.Answered.{cond_some, mapped_some, zipped_some, tells_from}
use Rattle.script.proofs.Names.{named}
use Rattle.script.proofs.Pieces.{Lacks}
use Rattle.script.proofs.Spaced.{pieces_spaced}
use Rattle.script.proofs.Written.{number_writes, writes_number, writes_lacks, coordinate_places, places_coordinate, places_lacks}

-- words that are read as points write them
points_outline : (ws : List (List ℕ)) (ps : List (ℤ × ℤ)) → points_of ws ≡ Some ps → Outlines ws ps
points_outline [] [] e = refl
points_outline [] (p ∷ ps) e = let z : ◌≡◌ {A = List (ℤ × ℤ)} [] (p ∷ ps) = cc in absurd (omega (arith, ap length z))
points_outline (x ∷ []) ps e = absurd (none-some _ e)
points_outline (x ∷ y ∷ ws) ps e =
    let made = mapped_some (λ p. p.0 ∷ p.1) (option_zip (point_of (x ∷ y ∷ ws)) (points_of ws)) ps e in
    let parts = zipped_some (point_of (x ∷ y ∷ ws)) (points_of ws) made.0 made.1 in
    let first = zipped_some (coordinate x) (coordinate y) made.0.0 parts.0 in
    subst (Outlines (x ∷ y ∷ ws)) made.2 (x, y, ws, refl, coordinate_places x _ first.0, coordinate_places y _ first.1, points_outline ws made.0.1 parts.1)

-- words that write points are read as them, are twice as many, and hold no space
outline_points : (ws : List (List ℕ)) (ps : List (ℤ × ℤ)) → Outlines ws ps → (points_of ws ≡ Some ps) × (length ws ≡ 2 * length ps) × AllByRecursion (Lacks 32) ws
outline_points ws [] e = subst (λ l. (points_of l ≡ Some []) × (length l ≡ 0) × AllByRecursion (Lacks 32) l) (sym e) (refl, refl, tt)
outline_points ws (p ∷ ps) (x, y, vs, is, px, py, more) =
    let rest = outline_points vs ps more in
    let a = places_coordinate x p.0 px in
    let b = places_coordinate y p.1 py in
    subst (λ l. (points_of l ≡ Some (p ∷ ps)) × (length l ≡ 2 * length (p ∷ ps)) × AllByRecursion (Lacks 32) l) (sym is) (
      (λ i. option_map (λ q. q.0 ∷ q.1) (option_zip (option_zip (a i) (b i)) (rest.0 i))),
      omega (arith, rest.1),
      (places_lacks x p.0 px, (places_lacks y p.1 py, rest.2)),
    )

-- words that are read as a width and points make, after F, a line that is written as them
fill_from_words : (ws : List (List ℕ)) (f : ℕ × List (ℤ × ℤ)) → fill_of ws ≡ Some f → IsFill (spaced ((70 ∷ []) ∷ ws)) f
fill_from_words [] f e = absurd (none-some _ e)
fill_from_words (w ∷ ws) f e =
    let parts = zipped_some (number w) (outline_of ws) f e in
    let test = cond_some (leb (length ws) 128) (points_of ws) f.1 parts.1 in
    let written = points_outline ws f.1 test.1 in
    let few : length f.1 ≤ 64 = omega (arith, leb-true (length ws) 128 test.0, (outline_points ws f.1 written).1) in
    (w, ws, refl, number_writes w f.0 parts.0, written, few)

-- a line that is written as a width and points is read as them
fill_from_line : (line : List ℕ) (f : ℕ × List (ℤ × ℤ)) → IsFill line f → fill_line line ≡ Some f
fill_from_line line f (w, ws, is, width, written, few) =
    let read = outline_points ws f.1 written in
    let words = pieces_spaced (70 ∷ []) (w ∷ ws) ((λ e. omega arith), tt) (writes_lacks w f.0 width, read.2) in
    let n = writes_number w f.0 width in
    let ps : outline_of ws ≡ Some f.1 = cond-true _ _ _ (le-leb (length ws) 128 (omega (arith, read.1))) ∙ read.0 in
    ap fill_line is ∙ ap (after_name (70 ∷ []) fill_of) words ∙ (λ i. option_zip (n i) (ps i))

-- an answer that is what the line asks for tells which width and points the line is written for
pub fill_tells : (line : List ℕ) (r : Option (ℕ × List (ℤ × ℤ))) → r ≡ fill_line line → Tells (IsFill line) r
fill_tells line r e =
    subst (Tells (IsFill line)) (sym e)
    (tells_from (IsFill line) (fill_line line) (λ f is. let n = named fill_of 70 line f is in subst (λ l. IsFill l f) n.1 (fill_from_words n.0 f n.2)) (fill_from_line line))
