use Rattle.std.proofs.Common.{w32, SFits, rules}
use Rattle.std.proofs.lemmas.Int.{to_z-of_z}
use Rattle.polygon.proofs.bounds.widen.Goals as goal

pub returns-in-Some : goal.returns-in-Some
returns-in-Some c =
    let fa : SFits w32 c.min.result = search rules in
    let fb : SFits w32 c.min-in-Some.result = search rules in
    let fc : SFits w32 c.max.result = search rules in
    let fd : SFits w32 c.max-in-Some.result = search rules in
    let f0 : SFits w32 c.in-Some.least.0 = search rules in
    let f1 : SFits w32 c.in-Some.least.1 = search rules in
    let f2 : SFits w32 c.in-Some.greatest.0 = search rules in
    let f3 : SFits w32 c.in-Some.greatest.1 = search rules in
    let f4 : SFits w32 c.args.corner.0 = search rules in
    let f5 : SFits w32 c.args.corner.1 = search rules in
    let l = c.in-Some.is in
    let a = simp to_z-of_z at c.min.ensures.value in
    let b = simp to_z-of_z at c.min-in-Some.ensures.value in
    let d = simp to_z-of_z at c.max.ensures.value in
    let e = simp to_z-of_z at c.max-in-Some.ensures.value in
    simp to_z-of_z (rw l (cc))
