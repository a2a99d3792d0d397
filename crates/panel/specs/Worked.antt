-- A worked pixel: white at alpha 0.5 over black.
use Rattle.std.specs.Prelude.{◌≡◌, ℕ, List, [], ◌∷◌}
use Rattle.std.specs.Float.Ieee as Ieee
use Rattle.std.specs.Float.{binary64}
use Rattle.plotters_backend.specs.declared.style.BackendColor.{BackendColor}
use Rattle.panel.specs.Blend.{blend}

-- white at alpha 0.5
abbrev pub half_white : BackendColor
half_white = record { alpha = Ieee.of_bits binary64 0x3fe0000000000000; rgb = (255, 255, 255) }

-- over black it gives 127 in each channel
abbrev pub HalfWhiteOnBlack : Type 0
HalfWhiteOnBlack = blend (0, 0, 0) half_white ≡ (127, 127, 127)

-- one black cell, and a byte beyond it, with that pixel laid
abbrev pub laid_bytes : List ℕ
laid_bytes = 127 ∷ 127 ∷ 127 ∷ 9 ∷ []
