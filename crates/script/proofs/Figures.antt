-- Digits, and the numbers that they write. Assumes nothing.
use Rattle.std.proofs.Common.{◌≡◌, ℕ, ◌-◌, ◌^◌, ◌<◌, ◌≤◌, true, List, length, take, Some, arith}
use native.Mathlib.Nat.{pow-le-pow_right}
use Rattle.std.specs.Str.Parse.{AllDigits, digits_value}
use Rattle.std.specs.Char.{is_ascii_digit, digit_value}
use Rattle.std.specs.Str.{all_ascii_digits}
use Rattle.std.proofs.lemmas.Int.Digits.{digits_value-lt}
use Rattle.std.proofs.lemmas.List.{length-take-le}
use Rattle.std.proofs.lemmas.Bool.{cond-true, and_from, le-leb}
use Rattle.std.proofs.lemmas.Bool.Decides.{nat_tests}
use Rattle.script.specs.Numbers.{number}

-- a digit's value is its distance from the digit zero
pub figure : (b : ℕ) → is_ascii_digit b ≡ true → digit_value b ≡ b - 48
figure b h = grind (arith, nat_tests)

-- one to six digits write their value
pub number_some : (ds : List ℕ) → 0 < length ds → length ds ≤ 6 → all_ascii_digits ds ≡ true → number ds ≡ Some (digits_value 10 ds)
number_some ds some few all = cond-true _ _ _ (and_from _ _ (and_from _ _ (le-leb 1 (length ds) some) (le-leb (length ds) 6 few)) all)

-- at most k digits write a number below ten to the k
pub value_below : (k : ℕ) (ds : List ℕ) → length ds ≤ k → AllDigits 10 ds → digits_value 10 ds < 10 ^ k
value_below k ds few all = omega (arith, digits_value-lt 10 ds all, pow-le-pow_right {n = 10} (omega arith) few)

-- before the last of at most six digits the number so far has at most five
pub value_so_far : (word : List ℕ) (i : ℕ) → i < length word → length word ≤ 6 → AllDigits 10 (take i word) → digits_value 10 (take i word) < 10 ^ 5
value_so_far word i inside few all = value_below 5 (take i word) (omega (arith, length-take-le i word (omega arith))) all
