-- Equal bytes come from equal grids.
use Rattle.std.proofs.Common.{◌≡◌, ℕ, ◌+◌, ◌*◌, ◌<◌, ◌≤◌, Bool, true, List, [], ◌∷◌, ◌++◌, length, sym, refl, ap, ◌∙◌, w32, mul-le-mul, arith}
use Rattle.std.specs.Int.{from_le_bytes}
use Rattle.std.specs.List.{flat_map}
use Rattle.std.proofs.lemmas.Nat.{from_le_bytes-to_le_bytes_4}
use Rattle.std.proofs.lemmas.Bool.{and_parts, leb-true, eqb-true}
use Rattle.dots.specs.declared.pair.Pair.{Pair}
use Rattle.dots.specs.Dots.{Canon, dots_of, pairs_of}
use Rattle.dots.specs.Grid.{Grid, whole}
use Rattle.dots.specs.Bytes.{word, pair_bytes, written}
use Rattle.dots.proofs.Pairs.{dots_pairs, pairs_canon, pair_is}

-- numbers of 32 bits with equal bytes are equal
pub word_same : (m n : ℕ) (xs ys : List ℕ) → m < 4294967296 → n < 4294967296 → word m ++ xs ≡ word n ++ ys → (m ≡ n) × (xs ≡ ys)
word_same m n xs ys a b e =
    let p : word m ≡ word n = cc in
    (sym (from_le_bytes-to_le_bytes_4 m a) ∙ ap (from_le_bytes w32) p ∙ from_le_bytes-to_le_bytes_4 n b, cc)

-- equal bytes of equally many pairs
pub pairs_same : (n : ℕ) (rs ss : List Pair) (k l : ℕ) → n < 4294967296 → Canon n k rs → Canon n l ss → length rs ≡ length ss → flat_map pair_bytes rs ≡ flat_map pair_bytes ss → rs ≡ ss
pairs_same n [] [] k l z a b c e = refl
pairs_same n [] (s ∷ ss) k l z a b c e = absurd (omega arith)
pairs_same n (r ∷ rs) [] k l z a b c e = absurd (omega arith)
pairs_same n (r ∷ rs) (s ∷ ss) k l z a b c e =
    let p = word_same r.offset s.offset (word r.len ++ flat_map pair_bytes rs) (word s.len ++ flat_map pair_bytes ss) (omega arith) (omega arith) e in
    let q = word_same r.len s.len (flat_map pair_bytes rs) (flat_map pair_bytes ss) (omega arith) (omega arith) p.1 in
    let t = pairs_same n rs ss (r.offset + r.len + 1) (s.offset + s.len + 1) z a.3 b.3 (omega arith) q.1 in
    let u : r ≡ s = pair_is s r.offset r.len (sym p.0) (sym q.0) in
    cc

-- pairs in their form are no more than the dots from the least offset on
pub canon_count : (n k : ℕ) (rs : List Pair) → Canon n k rs → k ≤ n → length rs + k ≤ n
canon_count n k [] h l = omega arith
canon_count n k (r ∷ []) h l = omega arith
canon_count n k (r ∷ s ∷ rs) h l = let t = canon_count n (r.offset + r.len + 1) (s ∷ rs) h.3 (omega (arith, h.3.0, h.3.2)) in omega arith

-- what a whole grid has
pub whole_parts : (g : Grid) → whole g ≡ true → (g.size.0 ≤ 16384) × (g.size.1 ≤ 16384) × (length g.dots ≡ g.size.0 * g.size.1)
whole_parts g e =
    let a = and_parts _ _ e in
    let b = and_parts _ _ a.0 in
    (leb-true _ _ b.0, leb-true _ _ b.1, eqb-true _ _ a.1)

-- it has fewer than 2 ^ 32 dots
pub whole_small : (g : Grid) → whole g ≡ true → length g.dots < 4294967296
whole_small g e =
    let a = whole_parts g e in
    let n : g.size.0 * g.size.1 ≤ 16384 * 16384 = mul-le-mul a.0 a.1 in
    omega (arith, a.2)

-- and no more pairs than dots
pub whole_count : (g : Grid) → length (pairs_of g.dots) ≤ length g.dots
whole_count g = omega (arith, canon_count (length g.dots) 0 (pairs_of g.dots) (pairs_canon (length g.dots) 0 g.dots (omega arith)) (omega arith))

-- grids are equal by their sides and their dots
pub grid_is : (g h : Grid) → g.size.0 ≡ h.size.0 → g.size.1 ≡ h.size.1 → g.dots ≡ h.dots → g ≡ h
grid_is g h a b d =
    let made : ℕ → ℕ → List Bool → Grid = λ w k ds. record { size = (w, k); dots = ds } in
    ap (λ (x : ℕ). made x g.size.1 g.dots) a ∙ ap (λ (y : ℕ). made h.size.0 y g.dots) b ∙ ap (λ (ds : List Bool). made h.size.0 h.size.1 ds) d

-- whole grids that are written as equal bytes are equal
pub equal_bytes : (g h : Grid) → whole g ≡ true → whole h ≡ true → written g ≡ written h → g ≡ h
equal_bytes g h v w e =
    let ps = pairs_of g.dots in
    let qs = pairs_of h.dots in
    let a = whole_parts g v in
    let b = whole_parts h w in
    let m = whole_small g v in
    let n = whole_small h w in
    let x = word_same g.size.0 h.size.0 (word g.size.1 ++ (word (length ps) ++ flat_map pair_bytes ps)) (word h.size.1 ++ (word (length qs) ++ flat_map pair_bytes qs)) (omega (arith, a.0)) (omega (arith, b.0)) e in
    let y = word_same g.size.1 h.size.1 (word (length ps) ++ flat_map pair_bytes ps) (word (length qs) ++ flat_map pair_bytes qs) (omega (arith, a.1)) (omega (arith, b.1)) x.1 in
    let z = word_same (length ps) (length qs) (flat_map pair_bytes ps) (flat_map pair_bytes qs) (omega (arith, whole_count g)) (omega (arith, whole_count h)) y.1 in
    let xe = x.0 in
    let ye = y.0 in
    let ge = a.2 in
    let he = b.2 in
    let l : length g.dots ≡ length h.dots = cc in
    let p : Canon (length h.dots) 0 ps = pairs_canon (length h.dots) 0 g.dots (omega arith) in
    let q : Canon (length h.dots) 0 qs = pairs_canon (length h.dots) 0 h.dots (omega arith) in
    let r : ps ≡ qs = pairs_same (length h.dots) ps qs 0 0 n p q z.0 z.1 in
    let d : g.dots ≡ h.dots = sym (dots_pairs g.dots) ∙ ap (λ (k : ℕ). dots_of k ps) l ∙ ap (λ (rs : List Pair). dots_of (length h.dots) rs) r ∙ dots_pairs h.dots in
    grid_is g h xe ye d
