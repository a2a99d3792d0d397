-- What is read so far are digits, and their value; the bytes that are left decide whether all are digits.
use Rattle.std.proofs.Common.{◌≡◌, take, drop}
use Rattle.std.specs.Str.Parse.{AllDigits, digits_value}
use Rattle.std.specs.Str.{all_ascii_digits}
use Rattle.script.proofs.digits.Given as goal

abbrev pub invariant-loop-b : goal.invariant-loop-b
invariant-loop-b l =
    (l.n ≡ digits_value 10 (take l.b-index l.word))
    × AllDigits 10 (take l.b-index l.word)
    × (all_ascii_digits (drop l.b-index l.word) ≡ all_ascii_digits l.word)
