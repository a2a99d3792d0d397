use Rattle.plotters_backend.proofs.Runs.{run_join}
use Rattle.plotters_backend.proofs.Lays.{sizes_stay, untouched, opaque_pixels_stand}
use Rattle.plotters_backend.proofs.laws.laws_of.Goals as goal

pub returns : goal.returns
returns g c =
    let S = g.DB.DrawingBackend.surface in
    let L = g.DB.DrawingBackend.lawful in
    record { sizes = sizes_stay S L; joined = run_join S; untouched = λ h d x y. untouched S L x y h d; opaque = opaque_pixels_stand S L }
