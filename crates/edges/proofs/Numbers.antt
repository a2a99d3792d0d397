-- The finite binary64 numbers are in a total order.
use Rattle.std.specs.Prelude.{◌≡◌, ℕ, ◌<◌, Bool, true, false, cond, not, T, refl, Float}
use Rattle.std.specs.declared.cmp.Ordering.TheVariants.{Less, Equal, Greater}
use Rattle.std.proofs.Common.{sym, ap, ◌∙◌, true≢false, le_of_lt, arith}
use Rattle.std.specs.Float.Ieee.{lt}
use Rattle.std.specs.Float.Ieee.Scale.{finite}
use Rattle.std.specs.Ordering.{is_lt, is_eq, ordering_reverse}
use Rattle.std.specs.Cmp.{IsTotalOrder}
use Rattle.binary64.proofs.Less.{AtMost, lt_out, lt_in, LessLeft, LessRight, not_less}
use Rattle.edges.proofs.Ranks.{rank64}

-- the finite binary64 numbers
abbrev pub Num : Type 0
Num = (x : Float) × T (finite x)

-- a test that holds has passed
pub is_true : (b : Bool) → T b → b ≡ true
is_true true t = refl
is_true false t = absurd t

-- `lt` is transitive
pub chain : (x y z : Num) → T (lt x.0 y.0) → T (lt y.0 z.0) → T (lt x.0 z.0)
chain x y z h k =
    lt_in x.0 z.0 x.1 z.1 (LessLeft x.0 y.0 z.0 (lt_out x.0 y.0 x.1 y.1 h) (le_of_lt (lt_out y.0 z.0 y.1 z.1 k)))

-- no number is below itself
itself : (n : ℕ) → n < n → ⊥
itself n h = omega arith

-- of two numbers, not both are below the other
pub apart : (x y : Num) → T (lt x.0 y.0) → T (lt y.0 x.0) → ⊥
apart x y h k = itself _ (lt_out x.0 x.0 x.1 x.1 (chain x y x h k))

-- turning a comparison round, where not both are below
pub flips : (a b : Bool) → (T a → T b → ⊥) → cond a Less (cond b Greater Equal) ≡ ordering_reverse (cond b Less (cond a Greater Equal))
flips true true n = absurd (n tt tt)
flips true false n = refl
flips false true n = refl
flips false false n = refl

-- the answer Less comes from the first test
pub from_less : (a b : Bool) → cond a Less (cond b Greater Equal) ≡ Less → T a
from_less true b e = tt
from_less false true e = absurd (true≢false (sym (ap is_lt e)))
from_less false false e = absurd (true≢false (sym (ap is_lt e)))

-- the answer Equal comes from neither
pub from_equal : (a b : Bool) → cond a Less (cond b Greater Equal) ≡ Equal → (T (not a)) × (T (not b))
from_equal true b e = absurd (true≢false (sym (ap is_eq e)))
from_equal false true e = absurd (true≢false (sym (ap is_eq e)))
from_equal false false e = (tt, tt)

-- two tests that imply each other are equal
both_ways : (a b : Bool) → (T a → T b) → (T b → T a) → a ≡ b
both_ways true true f g = refl
both_ways true false f g = absurd (f tt)
both_ways false true f g = absurd (g tt)
both_ways false false f g = refl

-- numbers that tie compare alike with a third
pub level : (x y z : Num) → AtMost x.0 y.0 → AtMost y.0 x.0 → rank64 x.0 z.0 ≡ rank64 y.0 z.0
level x y z h k =
    ap (λ (b : Bool). cond b Less (cond (lt z.0 x.0) Greater Equal))
    (both_ways (lt x.0 z.0) (lt y.0 z.0)
    (λ t. lt_in y.0 z.0 y.1 z.1 (LessRight y.0 x.0 z.0 k (lt_out x.0 z.0 x.1 z.1 t)))
    (λ t. lt_in x.0 z.0 x.1 z.1 (LessRight x.0 y.0 z.0 h (lt_out y.0 z.0 y.1 z.1 t))))
    ∙ ap (λ (b : Bool). cond (lt y.0 z.0) Less (cond b Greater Equal))
    (both_ways (lt z.0 x.0) (lt z.0 y.0)
    (λ t. lt_in z.0 y.0 z.1 y.1 (LessLeft z.0 x.0 y.0 (lt_out z.0 x.0 z.1 x.1 t) h))
    (λ t. lt_in z.0 x.0 z.1 x.1 (LessLeft z.0 y.0 x.0 (lt_out z.0 y.0 z.1 y.1 t) k)))

-- the finite binary64 numbers are in a total order
unfoldable pub numbers : IsTotalOrder (λ (x y : Num). rank64 x.0 y.0)
numbers = record {
  antisymm = λ x y. flips (lt x.0 y.0) (lt y.0 x.0) (apart x y);
  trans = λ x y z p q.
      let h : T (lt x.0 z.0) = chain x y z (from_less (lt x.0 y.0) (lt y.0 x.0) p) (from_less (lt y.0 z.0) (lt z.0 y.0) q) in
      ap (λ (b : Bool). cond b Less (cond (lt z.0 x.0) Greater Equal)) (is_true (lt x.0 z.0) h);
  congr = λ x y z e.
      let n = from_equal (lt x.0 y.0) (lt y.0 x.0) e in
      level x y z (not_less y.0 x.0 y.1 x.1 n.1) (not_less x.0 y.0 x.1 y.1 n.0);
}
