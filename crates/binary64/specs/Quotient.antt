-- The whole numbers next to a fraction z / d, for a d above 0.
use Rattle.std.specs.Prelude.{ℕ, suc, ◌+◌, ◌-◌, ◌/◌, ℤ, pos, negsuc, neg_ℤ}

-- the greatest whole number that is at most z / d
abbrev pub floor_over : ℤ → ℕ → ℤ
floor_over (pos c) d = pos (c / d)
floor_over (negsuc c) d = negsuc (c / d)

-- the least whole number that is at least z / d
abbrev pub ceil_over : ℤ → ℕ → ℤ
ceil_over (pos c) d = pos ((c + d - 1) / d)
ceil_over (negsuc c) d = neg_ℤ (pos (suc c / d))
