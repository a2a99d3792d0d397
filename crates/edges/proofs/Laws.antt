-- The laws of a sound side's binary64 place.
use Rattle.std.specs.Prelude.{◌≡◌, Bool, true, false, cond, T, pos, refl}
use Rattle.std.specs.Float.Ieee.{to_signed, of_int, of_bits}
use Rattle.std.specs.Float.Ieee.Scale.{finite}
use Rattle.std.specs.Float.{floor, ceil, round_with, binary64}
use Rattle.binary64.proofs.PlaceLaws.{floor_law, ceil_law, nearest_law, finite_law}
use Rattle.edges.specs.declared.side.Edge.{Edge}
use Rattle.edges.specs.Side.{is_sound, Sound, way, over, place64, zero64, floor_at, ceil_at, PlaceOf}
use Rattle.edges.proofs.Limits.{limits, sizes, Sizes}

-- the sizes of a sound side's numbers
of_sound : (x : Edge) → Sound x → Sizes x.epoch x.total_epoch x.slave_begin x.slave_end
of_sound x s = sizes x.epoch x.total_epoch x.slave_begin x.slave_end (limits x s)

-- the binary64 place has the floor of the exact one
pub place_floor : (x : Edge) → Sound x → to_signed 31 (floor binary64 (place64 x)) ≡ floor_at x
place_floor x s = let o = of_sound x s in floor_law x.slave_begin (way x) x.total_epoch o.start o.some o.few o.rise (over x) refl

-- and its ceil
pub place_ceil : (x : Edge) → Sound x → to_signed 31 (ceil binary64 (place64 x)) ≡ ceil_at x
place_ceil x s = let o = of_sound x s in ceil_law x.slave_begin (way x) x.total_epoch o.start o.some o.few o.rise (over x) refl

-- its quotient is rounded to nearest, and then its sum
pub place_nearest : (x : Edge) → Sound x → PlaceOf x (place64 x)
place_nearest x s = let o = of_sound x s in nearest_law x.slave_begin (way x) x.total_epoch o.start o.some o.few o.rise

-- it is finite
pub place_finite : (x : Edge) → Sound x → T (finite (place64 x))
place_finite x s = let o = of_sound x s in finite_law x.slave_begin (way x) x.total_epoch o.start o.some o.few o.rise

-- the bits 0 are the number 0
pub zero_bits : of_bits binary64 0 ≡ zero64
unfolding of_bits of_int
zero_bits = refl

-- the floor of 0 is 0
zero_floor : to_signed 31 (floor binary64 zero64) ≡ pos 0
unfolding of_int to_signed round_with
zero_floor = refl

-- the ceil of 0 is 0
zero_ceil : to_signed 31 (ceil binary64 zero64) ≡ pos 0
unfolding of_int to_signed round_with
zero_ceil = refl

-- the floor of what get_slave_pos answers, sound or not
pub key_floor : (x : Edge) → to_signed 31 (floor binary64 (cond (is_sound x) (place64 x) zero64)) ≡ cond (is_sound x) (floor_at x) (pos 0)
key_floor x = go (is_sound x) (place_floor x)
  where
    go : (b : Bool) → (b ≡ true → to_signed 31 (floor binary64 (place64 x)) ≡ floor_at x) → to_signed 31 (floor binary64 (cond b (place64 x) zero64)) ≡ cond b (floor_at x) (pos 0)
    go true h = h refl
    go false h = zero_floor

-- the ceil of what get_slave_pos answers, sound or not
pub key_ceil : (x : Edge) → to_signed 31 (ceil binary64 (cond (is_sound x) (place64 x) zero64)) ≡ cond (is_sound x) (ceil_at x) (pos 0)
key_ceil x = go (is_sound x) (place_ceil x)
  where
    go : (b : Bool) → (b ≡ true → to_signed 31 (ceil binary64 (place64 x)) ≡ ceil_at x) → to_signed 31 (ceil binary64 (cond b (place64 x) zero64)) ≡ cond b (ceil_at x) (pos 0)
    go true h = h refl
    go false h = zero_ceil
