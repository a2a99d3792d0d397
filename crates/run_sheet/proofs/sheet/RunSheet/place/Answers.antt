-- Pairs begin one behind the other, so those that begin at the offset or before it stand first.
use Rattle.std.proofs.Common.{◌≤◌, leb, length, arith, rules}
use Rattle.std.proofs.lemmas.List.Sorted.{IsPartitionPoint-from_clause, IsPartitionedBy-leb}
use Rattle.dots.specs.declared.pair.Pair.{Pair}
use Rattle.run_sheet.specs.Sheets.{area, held}
use Rattle.dots.proofs.Cuts.{canon_rises, up_to_point}
use Rattle.run_sheet.proofs.Wholes.{sheet_canon}
use Rattle.run_sheet.proofs.sheet.RunSheet.place.Goals as goal

pub returns : goal.returns
returns c =
    let s = c.args.self.now in
    let parted = IsPartitionedBy-leb (λ (r : Pair). r.offset) (held s) c.args.offset (canon_rises (area s) 0 (held s) (sheet_canon s)) in
    let point = IsPartitionPoint-from_clause (λ (r : Pair). leb r.offset c.args.offset) (held s) _ (rw c.deref.ensures.value at c.partition_point.ensures.partitioned) parted (λ a r q k. search rules) in
    let l : c.partition_point.result ≤ length (held s) = omega (arith, c.partition_point.ensures.bound, s.pairs.ok.0) in
    up_to_point (held s) c.args.offset _ l point
