-- The numbers that words write. Assumes nothing.
use Rattle.std.specs.Prelude.{ℕ, cond, ◌&&◌, List, length, drop, ℤ, pos, neg_ℤ, Some, None, Option, nat_le}
use Rattle.std.specs.Option.{option_map}
use Rattle.std.specs.Str.Parse.{digits_value, starts_with_minus}
use Rattle.std.specs.Str.{all_ascii_digits}

-- what one to six digits write
abbrev pub number : List ℕ → Option ℕ
number ds = cond (nat_le 1 (length ds) && nat_le (length ds) 6 && all_ascii_digits ds) (Some (digits_value 10 ds)) None

-- a number, or a minus and a number
abbrev pub coordinate : List ℕ → Option ℤ
coordinate ds = cond (starts_with_minus ds) (option_map (λ n. neg_ℤ (pos n)) (number (drop 1 ds))) (option_map pos (number ds))
