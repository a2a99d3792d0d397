use Rattle.outline.proofs.HoleSpill.{no_hole, no_spill}
use Rattle.outline.proofs.promises.fills_stand.Goals as goal

pub returns : goal.returns
returns g c =
    let S = g.DB.DrawingBackend.surface in
    let L = g.DB.DrawingBackend.lawful in
    record { hole = no_hole S L; spill = no_spill S L }
