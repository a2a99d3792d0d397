use Rattle.std.proofs.Common.{◌≡◌, ◌+◌, ◌*◌, ◌≤◌, length, ap, arith}
use Rattle.dots.specs.Bytes.{written_length}
use Rattle.run_sheet.specs.Sheets.{grid_of}
use Rattle.dot_grid.proofs.Archives.{cut_written}
use Rattle.dot_grid.proofs.archive.write_over.Goals as goal

pub returns : goal.returns
returns c =
    let g = grid_of c.args.sheet.now in
    let n = 12 + 8 * length c.pairs.result.now in
    let few = c.pairs.ensures.few in
    let is : n ≡ written_length g = ap (λ ps. 12 + 8 * length ps) c.pairs.ensures.value in
    let long : n ≤ length c.as_mut_slice.result.now = omega (arith, c.as_mut_slice.ensures.len, c.requires) in
    let same : length c.write.new.out ≡ c.args.bytes.now.len = omega (arith, c.as_mut_slice.ensures.len) in
    record { bytes = cut_written g c.write.result _ _ _ _ n _ is long c.write.ensures same c.truncate.ensures.items; whole = c.pairs.ensures.whole }
