-- The place of a side is the formula in floats, and 0.0 where the side is not sound.
use Rattle.std.proofs.Common.{◌≡◌, ◌≤◌, Bool, false, cond, T, ℤ, pos, ◌-ℤ◌, ◌*ℤ◌, nat_abs, sym, ap, ◌∙◌, subst, true≢false, arith, w32, w64, to_z, of_z}
use borrow.Author.Differences.{ints}
use lib.Ieee.{Float, binary64, in_float, of_int, add, div}
use Rattle.std.proofs.lemmas.Int.{to_z-of_z}
use Rattle.edges.specs.Side.{is_sound, Sound, place64, zero64, PlaceOf}
use Rattle.edges.proofs.Limits.{limits}
use Rattle.edges.proofs.Laws.{zero_bits, place_finite, place_nearest}
use Rattle.edges.proofs.Ranks.{passed, zero_finite}
use Rattle.std.specs.Float.Ieee.Scale.{finite}
use Rattle.edges.proofs.Products.{product_fits, product_in}
use Rattle.edges.proofs.side.Edge.get_slave_pos.Goals as goal

-- the difference of two 32-bit numbers, carried to 64 bits
abbrev gap : ℤ → ℤ → ℤ
gap x y = to_z w64 (of_z w64 (to_z w32 (of_z w32 (to_z w32 (of_z w32 x) -ℤ to_z w32 (of_z w32 y)))))

-- a side that is not sound is at 0.0
pub returns-then-not-is_sound : goal.returns-then-not-is_sound
returns-then-not-is_sound c =
    let x = c.args.self.now in
    let no : is_sound x ≡ false = sym c.is_sound.ensures ∙ c.if-not-is_sound.true in
    record {
      value = zero_bits ∙ sym (ap (λ (b : Bool). cond b (place64 x) zero64) no);
      nearest = λ s. absurd (true≢false (sym s ∙ no));
      finite = ap finite zero_bits ∙ passed (finite zero64) zero_finite;
    }

-- the product fits 64 bits
pub overflow_mul-way : goal.overflow_mul-way
overflow_mul-way c =
    let x = c.args.self.now in
    let l = limits x (sym c.is_sound.ensures ∙ c.if-not-is_sound.false) in
    product_fits (gap x.slave_end x.slave_begin) (to_z w64 x.epoch) (omega (arith, ints)) (omega (arith, ints))

-- and is exact as a float
pub int_to_float-result : goal.int_to_float-result
int_to_float-result c =
    let x = c.args.self.now in
    let l = limits x (sym c.is_sound.ensures ∙ c.if-not-is_sound.false) in
    let X = gap x.slave_end x.slave_begin in
    let Y = to_z w64 x.epoch in
    let a : nat_abs X ≤ 65536 = omega (arith, ints) in
    let b : nat_abs Y ≤ 65536 = omega (arith, ints) in
    subst (λ (z : ℤ). T (in_float binary64 z)) (sym (to_z-of_z w64 (X *ℤ Y) (product_fits X Y a b))) (product_in X Y a b)

-- the answer is the formula
pub returns : goal.returns
returns c =
    let x = c.args.self.now in
    let s : Sound x = sym c.is_sound.ensures ∙ c.if-not-is_sound.false in
    let l = limits x s in
    let X = gap x.slave_end x.slave_begin in
    let Y = to_z w64 x.epoch in
    let G = x.slave_end -ℤ x.slave_begin in
    let e1 : X ≡ G = omega (arith, ints) in
    let e2 : Y ≡ pos x.epoch = omega (arith, ints) in
    let e3 : to_z w64 (of_z w64 (X *ℤ Y)) ≡ X *ℤ Y = to_z-of_z w64 (X *ℤ Y) (product_fits X Y (omega (arith, ints)) (omega (arith, ints))) in
    let e4 : X *ℤ Y ≡ G *ℤ pos x.epoch = ap (λ (z : ℤ). z *ℤ Y) e1 ∙ ap (λ (z : ℤ). G *ℤ z) e2 in
    let g1 : to_z w32 (of_z w32 x.slave_begin) ≡ x.slave_begin = omega (arith, ints) in
    let W : ℤ = to_z w64 (of_z w64 (X *ℤ Y)) in
    let e : add binary64 c.from.result (div binary64 (of_int binary64 W) c.from-2.result) ≡ place64 x =
    ap (λ (y : Float). add binary64 y (div binary64 (of_int binary64 W) c.from-2.result)) (c.from.ensures ∙ ap (of_int binary64) g1)
    ∙ ap (λ (y : Float). add binary64 (of_int binary64 x.slave_begin) (div binary64 (of_int binary64 W) y)) c.from-2.ensures
    ∙ ap (λ (z : ℤ). add binary64 (of_int binary64 x.slave_begin) (div binary64 (of_int binary64 z) (of_int binary64 (pos x.total_epoch)))) (e3 ∙ e4) in
    record {
      value = e ∙ sym (ap (λ (b : Bool). cond b (place64 x) zero64) s);
      nearest = λ _. subst (λ (y : Float). PlaceOf x y) (sym e) (place_nearest x s);
      finite = ap finite e ∙ passed (finite (place64 x)) (place_finite x s);
    }
