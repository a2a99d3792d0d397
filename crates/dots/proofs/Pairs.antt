-- Canonical pairs and dots are the same thing: `pairs_dots` and `dots_pairs`.
use Rattle.std.proofs.Common.{◌≡◌, ℕ, zero, suc, ◌+◌, ◌-◌, ◌<◌, ◌≤◌, Bool, true, false, eqb, List, [], ◌∷◌, map, length, refl, ap, ◌∙◌, ⊎_elim, arith}
use Rattle.std.specs.List.{range_with_len}
use Rattle.std.proofs.lemmas.Bool.{and_parts, leb-true, ltb-true, cases_lt, cases_eq, eq-eqb, ne_eqb}
use Rattle.std.proofs.lemmas.Bool.Decides.{nat_tests}
use Rattle.dots.specs.declared.pair.Pair.{Pair}
use Rattle.dots.specs.Dots.{canonical, pair, covers, dark, dots_of, Canon, begun, pairs_from, pairs_of}

-- a pair by its two numbers
pub pair_is : (r : Pair) (o l : ℕ) → r.offset ≡ o → r.len ≡ l → pair o l ≡ r
pair_is r o l a b = rw (← a, ← b)

-- a lower bound may be lowered
pub canon_lower : (n a b : ℕ) (rs : List Pair) → Canon n a rs → b ≤ a → Canon n b rs
canon_lower n a b [] h l = tt
canon_lower n a b (r ∷ rs) h l = (omega arith, h.1, h.2, h.3)

-- and raised to the first pair's offset
pub canon_raise : (n a b : ℕ) (r : Pair) (rs : List Pair) → Canon n a (r ∷ rs) → b ≤ r.offset → Canon n b (r ∷ rs)
canon_raise n a b r rs h l = (l, h.1, h.2, h.3)

-- below the bound no dot is dark
pub dark_below : (n low : ℕ) (rs : List Pair) → Canon n low rs → (k : ℕ) → k < low → dark rs k ≡ false
dark_below n low [] h k l = refl
dark_below n low (r ∷ rs) h k l =
    let f : dark rs k ≡ false = dark_below n (r.offset + r.len + 1) rs h.3 k (omega arith) in
    grind (arith, nat_tests)

-- two tests that agree from an offset on give the same dots there
pub dots_same : (f g : ℕ → Bool) (c a : ℕ) → ((k : ℕ) → a ≤ k → f k ≡ g k) → map f (range_with_len a c) ≡ map g (range_with_len a c)
dots_same f g zero a h = refl
dots_same f g (suc c) a h =
    let e = h a (omega arith) in
    let t = dots_same f g c (a + 1) (λ k l. h k (omega arith)) in
    cc

-- a dark dot before pairs that begin later stands alone
pub begun_apart : (n o : ℕ) (rs : List Pair) → Canon n (o + 2) rs → begun o rs ≡ pair o 1 ∷ rs
begun_apart n o [] h = refl
begun_apart n o (r ∷ rs) h = grind (arith, nat_tests)

-- a dark dot straight before a pair lengthens it
pub begun_joins : (o l : ℕ) (rs : List Pair) → begun o (pair (o + 1) l ∷ rs) ≡ pair o (l + 1) ∷ rs
begun_joins o l rs = grind (arith, nat_tests)

-- the pairs of the dots of canonical pairs are those pairs
pub pairs_from_lem : (n c low : ℕ) (rs : List Pair) → Canon n low rs → low + c ≡ n → pairs_from low (map (dark rs) (range_with_len low c)) ≡ rs
pairs_from_lem n zero low [] h e = refl
pairs_from_lem n zero low (r ∷ rs) h e = absurd (omega arith)
pairs_from_lem n (suc c) low [] h e = pairs_from_lem n c (low + 1) [] tt (omega arith)
pairs_from_lem n (suc c) low (r ∷ rs) h e =
    ⊎_elim
    (λ l.
    let d : dark (r ∷ rs) low ≡ false = dark_below n (low + 1) (r ∷ rs) (canon_raise n low (low + 1) r rs h (omega arith)) low (omega arith) in
    let t : pairs_from (low + 1) (map (dark (r ∷ rs)) (range_with_len (low + 1) c)) ≡ r ∷ rs = pairs_from_lem n c (low + 1) (r ∷ rs) (canon_raise n low (low + 1) r rs h (omega arith)) (omega arith) in
    simp (d, t))
    (λ g.
    let i : covers r low ≡ true = grind (arith, nat_tests) in
    let at : r.offset ≡ low = omega arith in
    ⊎_elim
    (λ one.
    let s : map (dark (r ∷ rs)) (range_with_len (low + 1) c) ≡ map (dark rs) (range_with_len (low + 1) c) = dots_same (dark (r ∷ rs)) (dark rs) c (low + 1) (λ k a. grind (arith, nat_tests)) in
    let t : pairs_from (low + 1) (map (dark rs) (range_with_len (low + 1) c)) ≡ rs = pairs_from_lem n c (low + 1) rs (canon_lower n _ (low + 1) rs h.3 (omega arith)) (omega arith) in
    let b : begun low rs ≡ pair low 1 ∷ rs = begun_apart n low rs (canon_lower n _ (low + 2) rs h.3 (omega arith)) in
    let u : r.len ≡ 1 = omega arith in
    let w : pair low 1 ≡ r = pair_is r low 1 at u in
    simp (i, s, t, b, w))
    (λ more.
    let q : Pair = pair (low + 1) (r.len - 1) in
    let s : map (dark (r ∷ rs)) (range_with_len (low + 1) c) ≡ map (dark (q ∷ rs)) (range_with_len (low + 1) c) = dots_same (dark (r ∷ rs)) (dark (q ∷ rs)) c (low + 1) (λ k a. grind (arith, nat_tests)) in
    let t : pairs_from (low + 1) (map (dark (q ∷ rs)) (range_with_len (low + 1) c)) ≡ q ∷ rs = pairs_from_lem n c (low + 1) (q ∷ rs) (omega arith, omega arith, omega arith, canon_lower n _ _ rs h.3 (omega arith)) (omega arith) in
    let b : begun low (q ∷ rs) ≡ pair low (r.len - 1 + 1) ∷ rs = begun_joins low (r.len - 1) rs in
    let w : pair low (r.len - 1 + 1) ≡ r = pair_is r low (r.len - 1 + 1) at (omega arith) in
    simp (i, s, t) (b ∙ ap (λ (x : Pair). x ∷ rs) w))
    (cases_lt r.len 2))
    (cases_lt low r.offset)

-- pairs of a whole sheet
pub pairs_dots : (n : ℕ) (rs : List Pair) → Canon n 0 rs → pairs_of (dots_of n rs) ≡ rs
pairs_dots n rs h = pairs_from_lem n n 0 rs h (omega arith)

-- with a dark dot before them, pairs keep their form
pub begun_canon : (n o : ℕ) (rs : List Pair) → o + 1 ≤ n → Canon n (o + 1) rs → Canon n o (begun o rs)
begun_canon n o [] l h = (omega arith, omega arith, omega arith, tt)
begun_canon n o (r ∷ rs) l h =
    ⊎_elim
    (λ e.
    let b : eqb r.offset (o + 1) ≡ true = eq-eqb _ _ e in
    simp b (omega arith, omega arith, omega arith, canon_lower n _ _ rs h.3 (omega arith)))
    (λ e.
    let b : eqb r.offset (o + 1) ≡ false = ne_eqb _ _ e in
    simp b (omega arith, omega arith, omega arith, (omega arith, h.1, h.2, h.3)))
    (cases_eq r.offset (o + 1))

-- and that dot is dark
pub begun_first : (o : ℕ) (rs : List Pair) → dark (begun o rs) o ≡ true
begun_first o [] = grind (arith, nat_tests)
begun_first o (r ∷ rs) = grind (arith, nat_tests)

-- and the dots after it stay
pub begun_after : (n o : ℕ) (rs : List Pair) → Canon n (o + 1) rs → (k : ℕ) → o + 1 ≤ k → dark (begun o rs) k ≡ dark rs k
begun_after n o [] h k l = grind (arith, nat_tests)
begun_after n o (r ∷ rs) h k l = grind (arith, nat_tests)

-- the pairs of dots have their form
pub pairs_canon : (n o : ℕ) (ds : List Bool) → o + length ds ≤ n → Canon n o (pairs_from o ds)
pairs_canon n o [] l = tt
pairs_canon n o (true ∷ ds) l = begun_canon n o _ (omega arith) (pairs_canon n (o + 1) ds (omega arith))
pairs_canon n o (false ∷ ds) l = canon_lower n (o + 1) o _ (pairs_canon n (o + 1) ds (omega arith)) (omega arith)

-- the dots of the pairs of dots, from an offset on
pub dots_from : (o : ℕ) (ds : List Bool) → map (dark (pairs_from o ds)) (range_with_len o (length ds)) ≡ ds
dots_from o [] = refl
dots_from o (true ∷ ds) =
    let p = pairs_from (o + 1) ds in
    let h : Canon (o + 1 + length ds) (o + 1) p = pairs_canon (o + 1 + length ds) (o + 1) ds (omega arith) in
    let e : dark (begun o p) o ≡ true = begun_first o p in
    let s : map (dark (begun o p)) (range_with_len (o + 1) (length ds)) ≡ map (dark p) (range_with_len (o + 1) (length ds)) = dots_same (dark (begun o p)) (dark p) (length ds) (o + 1) (begun_after (o + 1 + length ds) o p h) in
    let t : map (dark p) (range_with_len (o + 1) (length ds)) ≡ ds = dots_from (o + 1) ds in
    cc
dots_from o (false ∷ ds) =
    let p = pairs_from (o + 1) ds in
    let h : Canon (o + 1 + length ds) (o + 1) p = pairs_canon (o + 1 + length ds) (o + 1) ds (omega arith) in
    let e : dark p o ≡ false = dark_below (o + 1 + length ds) (o + 1) p h o (omega arith) in
    let t : map (dark p) (range_with_len (o + 1) (length ds)) ≡ ds = dots_from (o + 1) ds in
    cc

-- the dots of the pairs of dots are those dots
pub dots_pairs : (ds : List Bool) → dots_of (length ds) (pairs_of ds) ≡ ds
dots_pairs ds = dots_from 0 ds

-- the form and its test say the same
pub canon_from : (n low : ℕ) (rs : List Pair) → canonical n low rs ≡ true → Canon n low rs
canon_from n low [] e = tt
canon_from n low (r ∷ rs) e =
    let a = and_parts _ _ e in
    let b = and_parts _ _ a.1 in
    let c = and_parts _ _ b.1 in
    (leb-true low r.offset a.0, ltb-true 0 r.len b.0, leb-true (r.offset + r.len) n c.0, canon_from n (r.offset + r.len + 1) rs c.1)

-- both ways
pub canon_to : (n low : ℕ) (rs : List Pair) → Canon n low rs → canonical n low rs ≡ true
canon_to n low [] h = refl
canon_to n low (r ∷ rs) h = let t = canon_to n (r.offset + r.len + 1) rs h.3 in grind (arith, nat_tests)
