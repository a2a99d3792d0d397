-- Words written one after another over a buffer.
use Rattle.std.proofs.Common.{◌≡◌, ℕ, ◌+◌, ◌*◌, ◌<◌, ◌≤◌, List, [], ◌∷◌, ◌++◌, length, get_or, take, drop, Ok, sym, refl, ap, ◌∙◌, arith}
use Rattle.std.specs.List.{flat_map}
use Rattle.std.proofs.lemmas.List.{append_assoc, take_at, drop_at, length-append, drop-drop, take_more, take_all, flat_map_more, length-take-le}
use Rattle.dots.specs.declared.pair.Pair.{Pair}
use Rattle.std.proofs.lemmas.Bool.{le-ltb, cond-false}
use Rattle.dots.specs.Dots.{pairs_of}
use Rattle.dots.specs.Grid.{Grid}
use Rattle.dots.specs.Bytes.{word, pair_bytes, head_bytes, writes, written, written_length}

-- one word more, where `done` is written already and `base` stands behind it
pub word_more : (done base old new : List ℕ) (at x : ℕ) → length done ≡ at → old ≡ done ++ drop at base → new ≡ take at old ++ (word x ++ drop (at + 4) old) → new ≡ (done ++ word x) ++ drop (at + 4) base
word_more done base old new at x l e f =
    let t : take at old ≡ done = ap (take at) e ∙ take_at done (drop at base) at l in
    let d : drop at old ≡ drop at base = ap (drop at) e ∙ drop_at done (drop at base) at l in
    let u : drop (at + 4) old ≡ drop (at + 4) base = sym (drop-drop 4 at old) ∙ ap (drop 4) d ∙ drop-drop 4 at base in
    f ∙ simp (t, u, append_assoc)

-- each pair takes eight bytes
pub length_pairs : (rs : List Pair) → length (flat_map pair_bytes rs) ≡ 8 * length rs
length_pairs [] = refl
length_pairs (r ∷ rs) = let t = length_pairs rs in omega arith

-- one pair more: bs is the head, and base the buffer before anything was written
pub pair_written : (bs base old mid new : List ℕ) (rs : List Pair) (i : ℕ) (d : Pair) → length bs ≡ 12 → i < length rs
    → old ≡ (bs ++ flat_map pair_bytes (take i rs)) ++ drop (12 + 8 * i) base
    → mid ≡ take (12 + 8 * i) old ++ (word (get_or rs i d).offset ++ drop (12 + 8 * i + 4) old)
    → new ≡ take (16 + 8 * i) mid ++ (word (get_or rs i d).len ++ drop (16 + 8 * i + 4) mid)
    → new ≡ (bs ++ flat_map pair_bytes (take (i + 1) rs)) ++ drop (12 + 8 * (i + 1)) base
pair_written bs base old mid new rs i d m l a b c =
    let x = get_or rs i d in
    let done = bs ++ flat_map pair_bytes (take i rs) in
    let k : length (take i rs) ≡ i = length-take-le i rs (omega arith) in
    let p : length done ≡ 12 + 8 * i = omega (arith, length-append bs (flat_map pair_bytes (take i rs)), length_pairs (take i rs)) in
    let e : 12 + 8 * i + 4 ≡ 16 + 8 * i = omega arith in
    let f : 16 + 8 * i + 4 ≡ 12 + 8 * (i + 1) = omega arith in
    let u : mid ≡ (done ++ word x.offset) ++ drop (16 + 8 * i) base = rw e at (word_more done base old mid (12 + 8 * i) x.offset p a b) in
    let q : length (done ++ word x.offset) ≡ 16 + 8 * i = omega (arith, length-append done (word x.offset)) in
    let v : new ≡ ((done ++ word x.offset) ++ word x.len) ++ drop (12 + 8 * (i + 1)) base = rw f at (word_more (done ++ word x.offset) base mid new (16 + 8 * i) x.len q u c) in
    let t : (done ++ word x.offset) ++ word x.len ≡ bs ++ flat_map pair_bytes (take (i + 1) rs) = append_assoc done (word x.offset) (word x.len) ∙ flat_map_more pair_bytes bs (take i rs) x ∙ ap (λ (z : List Pair). bs ++ flat_map pair_bytes z) (sym (take_more rs i d l)) in
    v ∙ ap (λ (z : List ℕ). z ++ drop (12 + 8 * (i + 1)) base) t

-- with all pairs behind the head, the buffer is what writing the grid leaves
pub all_written : (g : Grid) (base last : List ℕ) (rs : List Pair) (c i : ℕ) → pairs_of g.dots ≡ rs → c ≡ length rs → i ≡ length rs → 12 + 8 * c ≤ length base
    → last ≡ (head_bytes g.size.0 g.size.1 c ++ flat_map pair_bytes (take i rs)) ++ drop (12 + 8 * i) base
    → (Ok (12 + 8 * c), last) ≡ writes g base
all_written g base last rs c i p e f l d =
    let n : length (pairs_of g.dots) ≡ length rs = ap length p in
    let m : c ≡ length (pairs_of g.dots) = omega arith in
    let k : i ≡ length (pairs_of g.dots) = omega arith in
    let a : take i rs ≡ pairs_of g.dots = take_all i rs (omega arith) ∙ sym p in
    let q : last ≡ written g ++ drop (written_length g) base = d ∙ rw (a, k, m) refl in
    rw (q, m) (sym (cond-false _ _ _ (le-ltb (length base) (written_length g) (omega arith))))
