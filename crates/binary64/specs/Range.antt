-- A finite binary64 number between two whole numbers. x is (P x - N x) / den x, one of P x and N x being 0, and a whole number z is up z - down z.
use Rattle.std.specs.Prelude.{ℕ, ◌+◌, ◌-◌, ◌*◌, ◌/◌, ◌^◌, ◌<◌, ◌≤◌, Bool, true, false, T, ℤ, pos, neg_ℤ, ◌≤ℤ◌, Float}
use Rattle.std.specs.Float.{nan, inf, fin}
use Rattle.std.specs.Float.Ieee as ieee
use Rattle.std.specs.Float.Ieee.Scale.{finite}
use Rattle.std.specs.Float.Ieee.Positive.{den}
use borrow.Author.Differences.{up, down}

-- the size n with the sign s, as a difference: plus s n - less s n
abbrev pub plus : Bool → ℕ → ℕ
plus false n = n
plus true n = 0

abbrev pub less : Bool → ℕ → ℕ
less false n = 0
less true n = n

-- the numerator where x is not negative, and where it is
abbrev pub P : Float → ℕ
P nan = 0
P (inf s) = 0
P (fin s m e) = plus s (m * ieee.up e)

abbrev pub N : Float → ℕ
N nan = 0
N (inf s) = 0
N (fin s m e) = less s (m * ieee.up e)

-- w - v ≤ x
abbrev pub From : ℕ → ℕ → Float → Type 0
From w v x = w * den x + N x ≤ P x + v * den x

-- x ≤ w - v
abbrev pub UpTo : ℕ → ℕ → Float → Type 0
UpTo w v x = P x + v * den x ≤ w * den x + N x

-- x is finite, and lo ≤ x ≤ hi
pub record Between (lo hi : ℤ) (x : Float) : Type 0 where
  pub real : T (finite x)
  pub low : From (up lo) (down lo) x
  pub high : UpTo (up hi) (down hi) x

-- the ends that the lemmas allow
abbrev pub Small : ℤ → Type 0
Small z = up z + down z < 2 ^ 52

-- x is finite, and at most a in size
abbrev pub Sized : ℕ → Float → Type 0
Sized a x = Between (neg_ℤ (pos a)) (pos a) x

-- the greatest whole number that is at most x, exactly; 0 where x is not finite
abbrev pub floor_z : Float → ℤ
floor_z nan = pos 0
floor_z (inf s) = pos 0
floor_z (fin false m e) = pos (m * ieee.up e / ieee.down e)
floor_z (fin true m e) = neg_ℤ (pos ((m * ieee.up e + ieee.down e - 1) / ieee.down e))

-- lo ≤ z ≤ hi, r is z, and x lies between from and to
pub record Whole (lo hi z : ℤ) (r : Float) (from to : ℤ) (x : Float) : Type 0 where
  pub least : lo ≤ℤ z
  pub most : z ≤ℤ hi
  pub exact : Between z z r
  pub near : Between from to x
