-- The head, then pair after pair, make up the written sheet.
use Rattle.std.proofs.Common.{◌≡◌, ◌<◌, length, ap, sym, refl, arith}
use Rattle.std.proofs.lemmas.Bool.{lt-ltb, cond-true}
use Rattle.dots.specs.Dots.{pairs_of}
use Rattle.dots.specs.Bytes.{head_bytes, written_length}
use Rattle.run_sheet.specs.Sheets.{held, grid_of}
use Rattle.run_sheet.proofs.Wholes.{sheet_pairs}
use Rattle.dots.proofs.Writing.{pair_written, all_written}
use Rattle.run_sheet.proofs.sheet.RunSheet.write.Goals as goal

pub returns-then-out-len : goal.returns-then-out-len
returns-then-out-len c =
    let s = c.args.self.now in
    let n : length (pairs_of (grid_of s).dots) ≡ length (held s) = ap length (sheet_pairs s) in
    sym (cond-true _ _ _ (lt-ltb (length c.args.out.now) (written_length (grid_of s)) (omega (arith, s.pairs.ok.0))))

pub loop-i-preserved : goal.loop-i-preserved
loop-i-preserved c =
    let s = c.args.self.now in
    let e = c.deref-pair-items.ensures.value in
    let l : c.loop-i.i < length (held s) = omega (arith, s.pairs.ok.0) in
    pair_written (head_bytes s.size.0 s.size.1 c.len-count.result) c.args.out.now c.loop-i.out c.put_word-in-loop-i.new.out c.put_word-in-loop-i-2.new.out (held s) c.loop-i.i _ refl l c.loop-i.invariant (rw e at c.put_word-in-loop-i.ensures) (rw e at c.put_word-in-loop-i-2.ensures)

pub returns : goal.returns
returns c =
    let s = c.args.self.now in
    let n : c.len-count.result ≡ length (held s) = omega (arith, s.pairs.ok.0) in
    let i : c.loop-i.i ≡ length (held s) = omega (arith, s.pairs.ok.0) in
    all_written (grid_of s) c.args.out.now c.loop-i.out (held s) c.len-count.result c.loop-i.i (sheet_pairs s) n i (omega arith) c.loop-i.invariant
