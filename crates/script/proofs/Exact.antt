-- The lines that are read are those that are well formed, with what they write. Assumes nothing.
use Rattle.std.proofs.Common.{◌≡◌, ℕ, List, [], ◌∷◌, ℤ, Some, Option, sym, refl, ap, ◌∙◌, subst, arith}
use Rattle.std.specs.Option.{option_map, option_zip}
use Rattle.std.specs.List.{AllByRecursion}
use Rattle.std.proofs.lemmas.Option.{none-some}
use Rattle.script.specs.Commands.{after_name, point_of, ends_of, size_of, size_line, draw_of, draw_line}
use Rattle.script.specs.Numbers.{number, coordinate}
use Rattle.script.specs.Tells.{Tells}
use Rattle.script.specs.Written.{spaced, IsSize, IsLine}
use Rattle.script.specs.declared.Command.{Command}
use Rattle.script.specs.declared.Command.TheVariants.{Line}
use Rattle.script.proofs.Answered.{mapped_some, zipped_some, tells_from}
use Rattle.script.proofs.Counts.{size_more, ends_more}
use Rattle.script.proofs.Names.{named}
use Rattle.script.proofs.Pieces.{Lacks}
use Rattle.script.proofs.Spaced.{pieces_spaced}
use Rattle.script.proofs.Written.{number_writes, writes_number, writes_lacks, coordinate_places, places_coordinate, places_lacks}

-- words that are read as a size make, after S, a line that is written as that size
size_from_words : (ws : List (List ℕ)) (s : ℕ × ℕ) → size_of ws ≡ Some s → IsSize (spaced ((83 ∷ []) ∷ ws)) s
size_from_words [] s e = absurd (none-some _ e)
size_from_words (a ∷ []) s e = absurd (none-some _ e)
size_from_words (a ∷ b ∷ []) s e =
    let z = zipped_some (number a) (number b) s e in
    (a, b, refl, number_writes a s.0 z.0, number_writes b s.1 z.1)
size_from_words (a ∷ b ∷ c ∷ ws) s e = absurd (none-some _ (sym (size_more a b (c ∷ ws) (omega arith)) ∙ e))

-- a line that is written as a size is read as that size
size_from_line : (line : List ℕ) (s : ℕ × ℕ) → IsSize line s → size_line line ≡ Some s
size_from_line line s (a, b, is, width, height) =
    let words = pieces_spaced (83 ∷ []) (a ∷ b ∷ []) ((λ e. omega arith), tt) (writes_lacks a s.0 width, (writes_lacks b s.1 height, tt)) in
    let w = writes_number a s.0 width in
    let h = writes_number b s.1 height in
    ap size_line is ∙ ap (after_name (83 ∷ []) size_of) words ∙ (λ i. option_zip (w i) (h i))

-- an answer that is what the line asks for tells which size the line is written for
pub size_tells : (line : List ℕ) (r : Option (ℕ × ℕ)) → r ≡ size_line line → Tells (IsSize line) r
size_tells line r e =
    subst (Tells (IsSize line)) (sym e)
    (tells_from (IsSize line) (size_line line) (λ s is. let n = named size_of 83 line s is in subst (λ l. IsSize l s) n.1 (size_from_words n.0 s n.2)) (size_from_line line))

-- a word that is read as a width and words that are read as two points make, after L, a line that is written as their command
line_from_words : (w : List ℕ) (k : ℕ) (ws : List (List ℕ)) (z : (ℤ × ℤ) × (ℤ × ℤ)) → number w ≡ Some k → ends_of ws ≡ Some z → IsLine (spaced ((76 ∷ []) ∷ w ∷ ws)) (Line k z.0 z.1)
line_from_words w k [] z n e = absurd (none-some _ e)
line_from_words w k (a ∷ []) z n e = absurd (none-some _ e)
line_from_words w k (a ∷ b ∷ []) z n e = absurd (none-some _ e)
line_from_words w k (a ∷ b ∷ c ∷ []) z n e = absurd (none-some _ e)
line_from_words w k (a ∷ b ∷ c ∷ d ∷ []) z n e =
    let points = zipped_some (point_of (a ∷ b ∷ c ∷ d ∷ [])) (point_of (c ∷ d ∷ [])) z e in
    let from = zipped_some (coordinate a) (coordinate b) z.0 points.0 in
    let to = zipped_some (coordinate c) (coordinate d) z.1 points.1 in
    (w, a, b, c, d, refl, number_writes w k n, coordinate_places a _ from.0, coordinate_places b _ from.1, coordinate_places c _ to.0, coordinate_places d _ to.1)
line_from_words w k (a ∷ b ∷ c ∷ d ∷ x ∷ ws) z n e = absurd (none-some _ (sym (ends_more (a ∷ b ∷ c ∷ d ∷ x ∷ ws) (omega arith)) ∙ e))

-- the command that a width and two points make
abbrev as_line : ℕ × ((ℤ × ℤ) × (ℤ × ℤ)) → Command
as_line c = Line c.0 c.1.0 c.1.1

-- words that are read as a command make, after L, a line that is written as that command
draw_from_words : (ws : List (List ℕ)) (cmd : Command) → draw_of ws ≡ Some cmd → IsLine (spaced ((76 ∷ []) ∷ ws)) cmd
draw_from_words [] cmd e = absurd (none-some _ e)
draw_from_words (w ∷ ws) cmd e =
    let made = mapped_some as_line (option_zip (number w) (ends_of ws)) cmd e in
    let parts = zipped_some (number w) (ends_of ws) made.0 made.1 in
    subst (IsLine (spaced ((76 ∷ []) ∷ w ∷ ws))) made.2 (line_from_words w made.0.0 ws made.0.1 parts.0 parts.1)

-- a line that is written as a command is read as that command
draw_from_line : (line : List ℕ) (cmd : Command) → IsLine line cmd → draw_line line ≡ Some cmd
draw_from_line line (Line k p q) (w, a, b, c, d, is, width, x, y, u, v) =
    let lacks : AllByRecursion (Lacks 32) (a ∷ b ∷ c ∷ d ∷ []) = (places_lacks a p.0 x, (places_lacks b p.1 y, (places_lacks c q.0 u, (places_lacks d q.1 v, tt)))) in
    let words = pieces_spaced (76 ∷ []) (w ∷ a ∷ b ∷ c ∷ d ∷ []) ((λ e. omega arith), tt) (writes_lacks w k width, lacks) in
    let n = writes_number w k width in
    let px = places_coordinate a p.0 x in
    let py = places_coordinate b p.1 y in
    let qx = places_coordinate c q.0 u in
    let qy = places_coordinate d q.1 v in
    ap draw_line is ∙ ap (after_name (76 ∷ []) draw_of) words ∙ (λ i. option_map as_line (option_zip (n i) (option_zip (option_zip (px i) (py i)) (option_zip (qx i) (qy i)))))

-- an answer that is what the line asks for tells which command the line is written for
pub draw_tells : (line : List ℕ) (r : Option Command) → r ≡ draw_line line → Tells (IsLine line) r
draw_tells line r e =
    subst (Tells (IsLine line)) (sym e)
    (tells_from (IsLine line) (draw_line line) (λ cmd is. let n = named draw_of 76 line cmd is in subst (λ l. IsLine l cmd) n.1 (draw_from_words n.0 cmd n.2)) (draw_from_line line))
