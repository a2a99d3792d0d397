-- No weight is above 256.
use Rattle.std.proofs.Common.{◌≡◌, ℕ, ◌≤◌, sym, subst, rules}
use Rattle.panel.specs.Blend.{weight}
use Rattle.panel.specs.ColorLaws.{weight_le}
use Rattle.panel.proofs.blend.weight_of.Goals as goal

pub returns-then-alpha-2 : goal.returns-then-alpha-2
returns-then-alpha-2 c =
    let v : c.saturating_f64_to_u32.result ≡ weight c.args.alpha = search rules in
    record { value = v; most = subst (λ (n : ℕ). n ≤ 256) (sym v) (weight_le c.args.alpha) }
