use Rattle.std.proofs.Common.{◌≡◌, length}
use Rattle.fill_bench.proofs.main.Given as goal

-- the arrays stay as long as they are
abbrev pub invariant-loop : goal.invariant-loop
invariant-loop l = (length l.points ≡ 64) × (length l.sides ≡ 64) × (length l.live ≡ 64) × (length l.marks ≡ 65536)
