-- Making a dot dark that touches no pair before it: it begins the next pair, or is one of its own.
use Rattle.std.proofs.Common.{◌≡◌, ◌+◌, ◌≤◌, true, vec_items, vec_len, vec_capacity, sym, refl, arith, rules}
use Rattle.std.specs.List.{insert}
use Rattle.std.specs.Vec.{with_item}
use Rattle.std.proofs.lemmas.List.Edits.{length-insert}
use Rattle.dots.specs.Dots.{pair}
use Rattle.run_sheet.specs.Sheets.{held}
use Rattle.dots.proofs.Cuts.{up_to_le}
use Rattle.dots.proofs.Ways.{free_lone, free_sooner}
use Rattle.run_sheet.proofs.Wholes.{sheet_canon}
use Rattle.run_sheet.proofs.Changes.{Changed, changed, right_within, too_many}
use Rattle.run_sheet.proofs.sheet.RunSheet.darken_free.Goals as goal
use Rattle.run_sheet.proofs.sheet.RunSheet.darken_free.Goals.{After-index-right, After-insert}

-- the next pair begins at the dot
sooner : (c : After-index-right) → Changed c.args.self.now c.args.offset true (with_item c.args.self.now.pairs c.args.i (pair c.args.offset (c.index-right.result.now.len + 1)))
sooner c = changed c.requires.within c.args.self.now.few refl (free_sooner c.args.i (sheet_canon c.args.self.now) c.requires.apart (sym c.if-begins.ensures) c.index-right.ensures)

-- the dot is a pair
lone : (c : After-insert) → Changed c.args.self.now c.args.offset true c.insert.new.self
lone c =
    let s = c.args.self.now in
    let e : vec_items c.insert.new.self ≡ insert (held s) c.args.i (pair c.args.offset 1) = search rules in
    let n : vec_len c.insert.new.self ≤ 4096 = search rules in
    let k : vec_capacity c.insert.new.self ≡ vec_capacity s.pairs = search rules in
    changed c.requires.within n k (free_lone (sheet_canon s) c.requires.placed c.requires.within c.requires.apart (sym c.if-begins.ensures) e)

pub overflow_add-right : goal.overflow_add-right
overflow_add-right c =
    let s = c.args.self.now in
    let w = right_within s c.args.i (c.args.offset + 1) c.index-right.result.now c.if-begins.ensures c.index-right.ensures in
    omega (arith, s.area)

pub invariant_of-self : goal.invariant_of-self
invariant_of-self c = (sooner (goal.at.invariant_of-self c).After-index-right).holds

pub returns-then-begins : goal.returns-then-begins
returns-then-begins c = (sooner (goal.at.returns-then-begins c).After-index-right).lays

pub returns-then-len-eq-MOST : goal.returns-then-len-eq-MOST
returns-then-len-eq-MOST c =
    let s = c.args.self.now in
    too_many c.requires.within (omega arith) (free_lone (sheet_canon s) c.requires.placed c.requires.within c.requires.apart (sym c.if-begins.ensures) refl) (length-insert (held s) c.args.i _ (omega (arith, up_to_le (held s) c.args.offset, c.requires.placed)))

pub insert-requires : goal.insert-requires
insert-requires c = omega (arith, up_to_le (held c.args.self.now) c.args.offset, c.requires.placed, c.args.self.now.pairs.ok.0)

pub invariant_of-self-2 : goal.invariant_of-self-2
invariant_of-self-2 c = (lone c).holds

pub returns : goal.returns
returns c = (lone (goal.at.returns c).After-insert).lays
