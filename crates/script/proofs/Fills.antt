-- The points of an outline, read one after another. Assumes nothing.
use Rattle.std.proofs.Common.{◌≡◌, ℕ, ◌+◌, ◌*◌, ◌<◌, ◌≤◌, true, false, cond, leb, List, [], ◌∷◌, ◌++◌, length, drop, ℤ, Some, None, Option, sym, refl, ap, ◌∙◌, subst, append_assoc, arith, length-append, Bor}
use Rattle.std.specs.Option.{option_map, option_zip}
use Rattle.script.specs.Commands.{point_of, points_of, outline_of}
use Rattle.script.specs.Text.{pieces_after}

-- the points ps of the words `all` are read, and the words `left` are not
pub record PointsRead (all left : List (List ℕ)) (ps : List (ℤ × ℤ)) : Type 0 where
  pub few : length ps ≤ 64
  pub words : length all ≡ 2 * length ps + length left
  pub front : points_of all ≡ option_map (λ qs. ps ++ qs) (points_of left)

-- what is read is so where the text that is left is known
pub points_left : (all : List (List ℕ)) (left now : Option (Bor (List ℕ))) (ps : List (ℤ × ℤ)) → left ≡ now → PointsRead all (pieces_after 32 left) ps → PointsRead all (pieces_after 32 now) ps
points_left all left now ps e so = subst (λ o. PointsRead all (pieces_after 32 o) ps) e so

-- words whose first two write no point write no points
points_fail : (ws : List (List ℕ)) → 0 < length ws → None ≡ point_of ws → points_of ws ≡ None
points_fail [] some e = absurd (omega arith)
points_fail (x ∷ []) some e = refl
points_fail (x ∷ y ∷ ws) some e = ap (λ o. option_map (λ p. p.0 ∷ p.1) (option_zip o (points_of ws))) (sym e)

-- the first of two answers is put before the second
front_point : {X : Type 0} (p : X) (o : Option (List X)) → option_map (λ q. q.0 ∷ q.1) (option_zip (Some p) o) ≡ option_map (λ qs. p ∷ qs) o
front_point p None = refl
front_point p (Some qs) = refl

-- words whose first two write a point write that point and then those of the others
points_first : (ws vs : List (List ℕ)) (p : ℤ × ℤ) → length ws ≡ 2 + length vs → drop 2 ws ≡ vs → Some p ≡ point_of ws → points_of ws ≡ option_map (λ qs. p ∷ qs) (points_of vs)
points_first [] vs p long after e = absurd (omega arith)
points_first (x ∷ []) vs p long after e = absurd (omega arith)
points_first (x ∷ y ∷ ws) vs p long after e =
    ap (λ o. option_map (λ q. q.0 ∷ q.1) (option_zip o (points_of ws))) (sym e) ∙ front_point p (points_of ws) ∙ ap (λ l. option_map (λ qs. p ∷ qs) (points_of l)) after

-- a point after others stands between them and those to come
put_point : (ps : List (ℤ × ℤ)) (p : ℤ × ℤ) (o : Option (List (ℤ × ℤ))) → option_map (λ qs. ps ++ qs) (option_map (λ qs. p ∷ qs) o) ≡ option_map (λ qs. (ps ++ p ∷ []) ++ qs) o
put_point ps p None = refl
put_point ps p (Some qs) = ap Some (sym (append_assoc ps (p ∷ []) qs))

-- one more point is read
pub points_more : (all ws vs : List (List ℕ)) (ps : List (ℤ × ℤ)) (p : ℤ × ℤ) → PointsRead all ws ps → length ps < 64 → length ws ≡ 2 + length vs → drop 2 ws ≡ vs → Some p ≡ point_of ws → PointsRead all vs (ps ++ p ∷ [])
points_more all ws vs ps p so below long after e =
    record {
      few = omega (arith, length-append ps (p ∷ []));
      words = omega (arith, length-append ps (p ∷ []));
      front = so.front ∙ ap (option_map (λ qs. ps ++ qs)) (points_first ws vs p long after e) ∙ put_point ps p (points_of vs);
    }

-- where the next words write no point, the words write no outline
pub points_broken : (all ws : List (List ℕ)) (ps : List (ℤ × ℤ)) → PointsRead all ws ps → 0 < length ws → None ≡ point_of ws → None ≡ outline_of all
points_broken all ws ps so some e =
    let none : points_of all ≡ None = so.front ∙ ap (option_map (λ qs. ps ++ qs)) (points_fail ws some e) in
    elim (leb (length all) 128) as (λ b. None ≡ cond b (points_of all) None) [ true ↦ sym none | false ↦ refl ]
