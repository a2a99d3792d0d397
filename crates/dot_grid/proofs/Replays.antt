-- The loop over the draws.
use Rattle.std.proofs.Common.{◌≡◌, ℕ, List, [], ◌++◌, drop, ap, ◌∙◌}
use Rattle.plotters_backend.specs.Run.{Answer}
use Rattle.window.specs.Layer.{Layer}
use Rattle.dots.specs.Grid.{Grid}
use Rattle.dots.specs.declared.fault.SheetFault.{SheetFault}
use Rattle.dot_grid.specs.declared.draw.Draw.{Draw}
use Rattle.dot_grid.specs.Replay.{replayed}

module _ (ls : List Layer) where
  -- Of the draws ds, i have been made: from the grid g₀ with the answers rs₀ they led to the grid g with the answers rs.
  pub record Made (ds : List Draw) (i : ℕ) (rs₀ rs : List (Answer SheetFault)) (g₀ g : Grid) : Type 0 where
    pub answers : rs₀ ++ (replayed ls g₀ ds).0 ≡ rs ++ (replayed ls g (drop i ds)).0
    pub dots : (replayed ls g₀ ds).1 ≡ (replayed ls g (drop i ds)).1

-- answers that began with none, and the grid, together
pub together : (rs₀ rs : List (Answer SheetFault)) (g : Grid) (o : List (Answer SheetFault) × Grid) → rs₀ ≡ [] → rs ≡ rs₀ ++ o.0 → g ≡ o.1 → (rs, g) ≡ o
together rs₀ rs g o n e f = ap (λ (xs : List (Answer SheetFault)). (xs, g)) (e ∙ ap (λ (xs : List (Answer SheetFault)). xs ++ o.0) n) ∙ ap (λ (k : Grid). (o.0, k)) f
