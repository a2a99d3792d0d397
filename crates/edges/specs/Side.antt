-- The place of a side, exactly and as a binary64 number.
use Rattle.std.specs.Prelude.{◌≡◌, ℕ, Bool, true, ◌&&◌, ℤ, pos, negsuc, ◌+ℤ◌, ◌-ℤ◌, ◌*ℤ◌, int_le, nat_le, nat_lt, unsigned_abs, Float}
use Rattle.std.specs.Float.{binary64}
use Rattle.std.specs.Float.Ieee.{of_int, add, div}
use Rattle.binary64.specs.Fraction.{negative}
use Rattle.binary64.specs.Quotient.{floor_over, ceil_over}
use Rattle.binary64.specs.Sum.{RoundedTwice}
use Rattle.edges.specs.declared.side.Edge.{Edge}

-- a step at least and 65,534 at most, not past the end, and both ends within ±32,767
abbrev pub is_sound : Edge → Bool
is_sound e =
    nat_lt 0 e.total_epoch && (nat_le e.total_epoch 65534 && (nat_le e.epoch e.total_epoch
    && (int_le (negsuc 32766) e.slave_begin && (int_le e.slave_begin (pos 32767)
    && (int_le (negsuc 32766) e.slave_end && int_le e.slave_end (pos 32767))))))

-- the side passes that test
abbrev pub Sound : Edge → Type 0
Sound e = is_sound e ≡ true

-- how far the side has come from its begin, times its number of steps
abbrev pub way : Edge → ℤ
way e = (e.slave_end -ℤ e.slave_begin) *ℤ pos e.epoch

-- the exact place is over / under
abbrev pub over : Edge → ℤ
over e = e.slave_begin *ℤ pos e.total_epoch +ℤ way e

-- the number of steps
abbrev pub under : Edge → ℕ
under e = e.total_epoch

-- the greatest whole number that is at most the exact place
abbrev pub floor_at : Edge → ℤ
floor_at e = floor_over (over e) (under e)

-- the least whole number that is at least the exact place
abbrev pub ceil_at : Edge → ℤ
ceil_at e = ceil_over (over e) (under e)

-- the binary64 place: the quotient is rounded, then the sum
abbrev pub place64 : Edge → Float
place64 e = add binary64 (of_int binary64 e.slave_begin) (div binary64 (of_int binary64 (way e)) (of_int binary64 (pos (under e))))

-- 0 as a binary64 number
abbrev pub zero64 : Float
zero64 = of_int binary64 (pos 0)

-- r is begin + way / steps with the quotient rounded to nearest, and then the sum
abbrev pub PlaceOf : Edge → Float → Type 0
PlaceOf e r = RoundedTwice (negative e.slave_begin) (unsigned_abs e.slave_begin) (negative (way e)) (unsigned_abs (way e)) (under e) r
