-- Each way a dot is laid, by what stands beside it.
use Rattle.std.proofs.Common.{◌≡◌, ℕ, suc, ◌+◌, ◌-◌, ◌<◌, ◌≤◌, true, false, List, ◌∷◌, ◌++◌, get_or, take, drop, set, sym, subst, arith}
use Rattle.std.specs.List.{insert, remove}
use Rattle.std.proofs.lemmas.List.{set_split, take-append-drop}
use Rattle.dots.specs.declared.pair.Pair.{Pair}
use Rattle.dots.specs.Dots.{Canon, pair}
use Rattle.dots.specs.Finding.{reach, starts_at, up_to}
use Rattle.dots.proofs.Laying.{Laid, gone, later, lone, longer, merged, parted, shorter, sooner}
use Rattle.dots.proofs.Cuts.{Beside, beside_laid, beside_set, canon_cut, free_laid, next_at, next_there, not_next, rest_canon}

-- ---- dark, with no pair that ends at the dot

-- the pair that begins behind the dot begins at it
pub free_sooner : {n o : ℕ} (i : ℕ) {rs : List Pair} {r : Pair} → Canon n 0 rs → reach 0 (take i rs) ≤ o → starts_at (drop i rs) (o + 1) ≡ true → r ≡ get_or rs i r → Laid n 0 o true rs (set rs i (pair o (r.len + 1)))
free_sooner {n} {o} i {rs} {r} h a e g =
    let w = next_at i (o + 1) rs r e g in
    let t : Canon n (reach 0 (take i rs)) (r ∷ drop (i + 1) rs) = rw w.0 at (canon_cut n i rs h) in
    let d : Laid n (reach 0 (take i rs)) o true (drop i rs) (pair o (r.len + 1) ∷ drop (i + 1) rs) = rw w.0 (sooner t a w.1) in
    let s : suc i ≡ i + 1 = omega arith in
    rw (set_split rs i (pair o (r.len + 1)) (next_there i (o + 1) rs e), s) (free_laid n o i true rs _ h a d)

-- the dot is a pair of its own
pub free_lone : {n o i : ℕ} {rs new : List Pair} → Canon n 0 rs → i ≡ up_to rs o → o < n → reach 0 (take i rs) ≤ o → starts_at (drop i rs) (o + 1) ≡ false → new ≡ insert rs i (pair o 1) → Laid n 0 o true rs new
free_lone {n} {o} {i} {rs} {new} h p l a e q =
    let t : Canon n (o + 1) (drop (up_to rs o) rs) = rest_canon n 0 o rs h in
    let t' : Canon n (o + 1) (drop i rs) = rw (← p) at t in
    rw q (free_laid n o i true rs _ h a (lone a l (not_next n o (drop i rs) t' e)))

-- ---- dark, with the pair r that ends at the dot

-- r ends behind the dot
pub left_longer : {n o i : ℕ} {rs : List Pair} {r : Pair} → Beside n o i rs r → o < n → o ≡ r.offset + r.len → starts_at (drop i rs) (o + 1) ≡ false → Laid n 0 o true rs (set rs (i - 1) (pair r.offset (r.len + 1)))
left_longer {n} {o} {i} {rs} {r} b l m e = beside_set b (sym (take-append-drop i rs)) (longer b.back l m (not_next n o (drop i rs) b.rest e))

-- r and the pair that begins behind the dot become one
pub left_merged : {n o i : ℕ} {rs ys : List Pair} {r s : Pair} → Beside n o i rs r → o ≡ r.offset + r.len → starts_at (drop i rs) (o + 1) ≡ true → s ≡ get_or rs i s → ys ≡ take i rs ++ drop (i + 1) rs → Laid n 0 o true rs (set ys (i - 1) (pair r.offset (r.len + (1 + s.len))))
left_merged {n} {o} {i} {rs} {ys} {r} {s} b m e g q =
    let w = next_at i (o + 1) rs s e g in
    let t : Canon n (reach 0 (take (i - 1) rs)) (r ∷ s ∷ drop (i + 1) rs) = subst (λ (z : List Pair). Canon n (reach 0 (take (i - 1) rs)) (r ∷ z)) w.0 b.back in
    let d : Laid n (reach 0 (take (i - 1) rs)) o true (r ∷ drop i rs) (pair r.offset (r.len + (1 + s.len)) ∷ drop (i + 1) rs) = rw w.0 (merged t m w.1) in
    beside_set b q d

-- ---- light, with the pair r that covers the dot

-- r goes
pub left_gone : {n o i : ℕ} {rs new : List Pair} {r : Pair} → Beside n o i rs r → r.offset ≡ o → r.len ≡ 1 → new ≡ remove rs (i - 1) → Laid n 0 o false rs new
left_gone {n} {o} {i} {rs} {new} {r} b e f q =
    let s : suc (i - 1) ≡ i = omega (arith, b.some) in
    rw (q, s) (beside_laid b (gone b.back e f))

-- r begins behind the dot
pub left_later : {n o i : ℕ} {rs : List Pair} {r : Pair} → Beside n o i rs r → r.offset ≡ o → o + 1 < r.offset + r.len → Laid n 0 o false rs (set rs (i - 1) (pair (o + 1) (r.offset + r.len - (o + 1))))
left_later {n} {o} {i} {rs} {r} b e f = beside_set b (sym (take-append-drop i rs)) (later b.back e f)

-- r ends at the dot
pub left_shorter : {n o i : ℕ} {rs : List Pair} {r : Pair} → Beside n o i rs r → r.offset < o → r.offset + r.len ≡ o + 1 → Laid n 0 o false rs (set rs (i - 1) (pair r.offset (o - r.offset)))
left_shorter {n} {o} {i} {rs} {r} b e f = beside_set b (sym (take-append-drop i rs)) (shorter b.back e f)

-- r is parted in two
pub left_parted : {n o i : ℕ} {rs ys : List Pair} {r : Pair} → Beside n o i rs r → r.offset < o → o + 1 < r.offset + r.len → ys ≡ insert rs i (pair (o + 1) (r.offset + r.len - (o + 1))) → Laid n 0 o false rs (set ys (i - 1) (pair r.offset (o - r.offset)))
left_parted {n} {o} {i} {rs} {ys} {r} b e f q = beside_set b q (parted b.back e f)
