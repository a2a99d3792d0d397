-- What is known of two sheets that were drawn on and written.
use Rattle.std.specs.Prelude.{◌≡◌, List, IfOk, vec_items, Result, MatchResult}
use Rattle.window.specs.Layer.{Layer}
use Rattle.dots.specs.Bytes.{written}
use Rattle.dots.specs.Grid.{Grid}
use Rattle.dot_grid.specs.declared.draw.Draw.{Draw}
use Rattle.dot_grid.specs.declared.archive.Archived.{Archived}
use Rattle.dot_grid.specs.Replay.{replayed}

-- The sheet under a pile of layers ls that had the grid g and was drawn on with ds has the grid k: answers and dots are the grid's, and its bytes are those of k.
-- Where nothing was drawn, for want of memory, k is g.
abbrev pub Archives : {X E : Type 0} → Result X E → (X → Archived) → List Layer → Grid → List Draw → Grid → Type 0
Archives r part ls g ds k = MatchResult r (λ v. ((vec_items (part v).answers, k) ≡ replayed ls g ds) × (vec_items (part v).bytes ≡ written k)) (λ _. k ≡ g)

-- Two sheets are written as equal bytes exactly when their sizes and their dots are equal: for sheets of one size, exactly when their dots are.
abbrev pub ToldApart : {E : Type 0} → Result (Archived × Archived) E → Grid → Grid → Type 0
ToldApart r g h = IfOk r (λ v.
    (vec_items v.0.bytes ≡ vec_items v.1.bytes → (g.size ≡ h.size) × (g.dots ≡ h.dots))
    × (g.size ≡ h.size → g.dots ≡ h.dots → vec_items v.0.bytes ≡ vec_items v.1.bytes))
