-- One dot laid: only the pairs beside it change.
use Rattle.std.proofs.Common.{◌≡◌, ℕ, ◌+◌, ◌-◌, ◌<◌, ◌≤◌, Bool, true, false, cond, ◌||◌, eqb, List, [], ◌∷◌, ◌++◌, length, get_or, set, sym, refl, ◌∙◌, ⊎_elim, arith, length-set}
use Rattle.std.proofs.lemmas.List.FromFn.{length-map-range_with_len, get_or-map-range_with_len}
use Rattle.std.proofs.lemmas.List.{ext_get_or, get_or-set_same, get_or-set_other}
use Rattle.std.proofs.lemmas.Bool.{cases_eq, eq-eqb, ne_eqb}
use Rattle.std.proofs.lemmas.Bool.Decides.{nat_tests}
use Rattle.dots.specs.declared.pair.Pair.{Pair}
use Rattle.dots.specs.Dots.{dark, dots_of, pair, Canon}
use Rattle.dots.specs.Finding.{reach}
use Rattle.dots.proofs.Pairs.{canon_lower, dark_below}

-- `new` is canonical from `low` on, and its dots are those of `old` with b laid at o
pub record Laid (n low o : ℕ) (b : Bool) (old new : List Pair) : Type 0 where
  pub canon : Canon n low new
  pub dots : (k : ℕ) → dark new k ≡ cond (eqb k o) b (dark old k)

-- the same, by what the dots other than o are
laid_by : {n low o : ℕ} {b : Bool} {old new : List Pair} → Canon n low new → dark new o ≡ b → ((k : ℕ) → (k ≡ o → ⊥) → dark new k ≡ dark old k) → Laid n low o b old new
laid_by {n} {low} {o} {b} {old} {new} h e f = record { canon = h; dots = λ k. ⊎_elim (λ (q : k ≡ o). let t : dark new k ≡ b = rw q e in grind (arith, nat_tests)) (λ (q : k ≡ o → ⊥). let t = f k q in grind (arith, nat_tests)) (cases_eq k o) }

-- what stands behind some pairs keeps the form
pub canon_back : (n low : ℕ) (xs ys : List Pair) → Canon n low (xs ++ ys) → Canon n (reach low xs) ys
canon_back n low [] ys h = h
canon_back n low (x ∷ xs) ys h = canon_back n (x.offset + x.len + 1) xs ys h.3

-- and so does what stands before
pub canon_front : (n low : ℕ) (xs ys : List Pair) → Canon n low (xs ++ ys) → Canon n low xs
canon_front n low [] ys h = tt
canon_front n low (x ∷ xs) ys h = (h.0, h.1, h.2, canon_front n (x.offset + x.len + 1) xs ys h.3)

-- pairs reach the least offset or beyond
pub reach_low : (n low : ℕ) (xs : List Pair) → Canon n low xs → low ≤ reach low xs
reach_low n low [] h = omega arith
reach_low n low (x ∷ xs) h = let t = reach_low n (x.offset + x.len + 1) xs h.3 in omega arith

-- beyond that no dot is dark
pub dark_above : (n low : ℕ) (xs : List Pair) → Canon n low xs → (k : ℕ) → reach low xs ≤ k → dark xs k ≡ false
dark_above n low [] h k l = refl
dark_above n low (x ∷ xs) h k l =
    let t = reach_low n (x.offset + x.len + 1) xs h.3 in
    let f : dark xs k ≡ false = dark_above n (x.offset + x.len + 1) xs h.3 k l in
    grind (arith, nat_tests)

-- a dot is dark by either of two lists
pub dark_append : (xs ys : List Pair) (k : ℕ) → dark (xs ++ ys) k ≡ (dark xs k || dark ys k)
dark_append [] ys k = refl
dark_append (x ∷ xs) ys k = let e = dark_append xs ys k in grind arith

-- what changes behind the pairs xs changes the whole so
pub splice : (n low o : ℕ) (b : Bool) (xs old new : List Pair) → Canon n low (xs ++ old) → reach low xs ≤ o → Laid n (reach low xs) o b old new → Laid n low o b (xs ++ old) (xs ++ new)
splice n low o b [] old new h l d = d
splice n low o b (x ∷ xs) old new h l d =
    let t = splice n (x.offset + x.len + 1) o b xs old new h.3 l d in
    let m = reach_low n (x.offset + x.len + 1) xs (canon_front n (x.offset + x.len + 1) xs old h.3) in
    laid_by (h.0, h.1, h.2, t.canon) (let e = t.dots o in grind (arith, nat_tests)) (λ k z. let e = t.dots k in grind (arith, nat_tests))

-- ---- The ways a dot is made dark. ys are the pairs behind it.

-- the dot is a pair of its own
pub lone : {n low o : ℕ} {ys : List Pair} → low ≤ o → o < n → Canon n (o + 2) ys → Laid n low o true ys (pair o 1 ∷ ys)
lone {n} {low} {o} {ys} l m h = record { canon = (l, omega arith, omega arith, canon_lower n _ _ ys h (omega arith)); dots = λ k. grind (arith, nat_tests) }

-- the pair r, which ends at the dot, ends behind it
pub longer : {n low o : ℕ} {ys : List Pair} {r : Pair} → Canon n low (r ∷ ys) → o < n → o ≡ r.offset + r.len → Canon n (o + 2) ys → Laid n low o true (r ∷ ys) (pair r.offset (r.len + 1) ∷ ys)
longer {n} {low} {o} {ys} {r} c m e h = record { canon = (c.0, omega arith, omega arith, canon_lower n _ _ ys h (omega arith)); dots = λ k. grind (arith, nat_tests) }

-- the pair r, which begins behind the dot, begins at it
pub sooner : {n low o : ℕ} {ys : List Pair} {r : Pair} → Canon n low (r ∷ ys) → low ≤ o → r.offset ≡ o + 1 → Laid n low o true (r ∷ ys) (pair o (r.len + 1) ∷ ys)
sooner {n} {low} {o} {ys} {r} c m e = record { canon = (m, omega arith, omega arith, canon_lower n _ _ ys c.3 (omega arith)); dots = λ k. grind (arith, nat_tests) }

-- the pairs r and s on either side of the dot become one
pub merged : {n low o : ℕ} {ys : List Pair} {r s : Pair} → Canon n low (r ∷ s ∷ ys) → o ≡ r.offset + r.len → s.offset ≡ o + 1 → Laid n low o true (r ∷ s ∷ ys) (pair r.offset (r.len + (1 + s.len)) ∷ ys)
merged {n} {low} {o} {ys} {r} {s} c e f = record { canon = (c.0, omega arith, omega arith, canon_lower n _ _ ys c.3.3 (omega arith)); dots = λ k. grind (arith, nat_tests) }

-- ---- The ways a dot is made light.

-- the pair r, which is that dot, goes
pub gone : {n low o : ℕ} {ys : List Pair} {r : Pair} → Canon n low (r ∷ ys) → r.offset ≡ o → r.len ≡ 1 → Laid n low o false (r ∷ ys) ys
gone {n} {low} {o} {ys} {r} c p q = laid_by (canon_lower n _ _ ys c.3 (omega arith)) (dark_below n _ ys c.3 o (omega arith)) (λ k z. grind (arith, nat_tests))

-- the pair r, which begins at the dot, begins behind it
pub later : {n low o : ℕ} {ys : List Pair} {r : Pair} → Canon n low (r ∷ ys) → r.offset ≡ o → o + 1 < r.offset + r.len → Laid n low o false (r ∷ ys) (pair (o + 1) (r.offset + r.len - (o + 1)) ∷ ys)
later {n} {low} {o} {ys} {r} c p m =
    let d : dark ys o ≡ false = dark_below n _ ys c.3 o (omega arith) in
    laid_by (omega arith, omega arith, omega arith, canon_lower n _ _ ys c.3 (omega arith)) (grind (arith, nat_tests)) (λ k z. grind (arith, nat_tests))

-- the pair r, which ends behind the dot, ends at it
pub shorter : {n low o : ℕ} {ys : List Pair} {r : Pair} → Canon n low (r ∷ ys) → r.offset < o → r.offset + r.len ≡ o + 1 → Laid n low o false (r ∷ ys) (pair r.offset (o - r.offset) ∷ ys)
shorter {n} {low} {o} {ys} {r} c p m =
    let d : dark ys o ≡ false = dark_below n _ ys c.3 o (omega arith) in
    laid_by (c.0, omega arith, omega arith, canon_lower n _ _ ys c.3 (omega arith)) (grind (arith, nat_tests)) (λ k z. grind (arith, nat_tests))

-- the pair r is parted by the dot
pub parted : {n low o : ℕ} {ys : List Pair} {r : Pair} → Canon n low (r ∷ ys) → r.offset < o → o + 1 < r.offset + r.len → Laid n low o false (r ∷ ys) (pair r.offset (o - r.offset) ∷ pair (o + 1) (r.offset + r.len - (o + 1)) ∷ ys)
parted {n} {low} {o} {ys} {r} c p m =
    let d : dark ys o ≡ false = dark_below n _ ys c.3 o (omega arith) in
    laid_by (c.0, omega arith, omega arith, (omega arith, omega arith, omega arith, canon_lower n _ _ ys c.3 (omega arith))) (grind (arith, nat_tests)) (λ k z. grind (arith, nat_tests))

-- a dot that is so already
pub unchanged : (n o : ℕ) (b : Bool) (rs : List Pair) → Canon n 0 rs → dark rs o ≡ b → Laid n 0 o b rs rs
unchanged n o b rs h e = laid_by h e (λ k z. refl)

-- the dots of the new pairs are the old ones with one laid
pub laid_dots : (n o : ℕ) (b : Bool) (old new : List Pair) → o < n → Laid n 0 o b old new → dots_of n new ≡ set (dots_of n old) o b
laid_dots n o b old new l d =
    let le : length (dots_of n new) ≡ n = length-map-range_with_len (dark new) 0 n in
    let lo : length (dots_of n old) ≡ n = length-map-range_with_len (dark old) 0 n in
    ext_get_or false _ _
    (le ∙ sym lo ∙ sym (length-set (dots_of n old) o b))
    (λ k h.
    let kn : k < n = omega (arith, le) in
    let a : get_or (dots_of n new) k false ≡ dark new k = get_or-map-range_with_len (dark new) 0 n k k false kn (omega arith) in
    let c : get_or (dots_of n old) k false ≡ dark old k = get_or-map-range_with_len (dark old) 0 n k k false kn (omega arith) in
    let e : dark new k ≡ cond (eqb k o) b (dark old k) = d.dots k in
    ⊎_elim
    (λ (q : k ≡ o).
    let s : get_or (set (dots_of n old) o b) k false ≡ b = rw q (get_or-set_same (dots_of n old) o b false (omega arith)) in
    let t : eqb k o ≡ true = eq-eqb k o q in
    a ∙ e ∙ simp t (sym s))
    (λ (q : k ≡ o → ⊥).
    let s : get_or (set (dots_of n old) o b) k false ≡ get_or (dots_of n old) k false = get_or-set_other (dots_of n old) o k b false q in
    let t : eqb k o ≡ false = ne_eqb k o q in
    a ∙ e ∙ simp t (sym c ∙ sym s))
    (cases_eq k o))
