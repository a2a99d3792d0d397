-- Making a dot light: the pair left of it goes, is cut or is parted.
use Rattle.std.proofs.Common.{◌≡◌, ◌+◌, ◌-◌, ◌≤◌, false, vec_items, vec_len, vec_capacity, sym, refl, ◌∙◌, subst, arith, rules}
use Rattle.std.proofs.lemmas.Bool.{le-ltb}
use Rattle.std.proofs.lemmas.List.{length-set}
use Rattle.std.proofs.lemmas.List.Edits.{length-insert}
use Rattle.std.specs.List.{insert}
use Rattle.std.specs.Vec.{with_item}
use Rattle.dots.specs.Dots.{pair}
use Rattle.dots.specs.declared.pair.Pair.{Pair}
use Rattle.dots.proofs.Cuts.{beside_dark, none_dark, read_again}
use Rattle.dots.proofs.Ways.{left_gone, left_later, left_shorter, left_parted}
use Rattle.run_sheet.specs.Sheets.{area, held}
use Rattle.run_sheet.proofs.Wholes.{sheet_canon}
use Rattle.run_sheet.proofs.Changes.{Changed, Left, changed, left_again, left_of, left_there, so_already, too_many}
use Rattle.run_sheet.proofs.sheet.RunSheet.lighten.Goals as goal
use Rattle.run_sheet.proofs.sheet.RunSheet.lighten.Goals.{After-index-left, After-remove, After-index_mut, After-index_mut-then-after-eq0-2, After-insert, After-index_mut-2}

-- the pair left of the dot
left : (c : After-index-left) → Left c.args.self.now c.place-i.result c.args.offset c.index-left.result.now
left c = left_of c.args.self.now c.place-i.result c.args.offset c.index-left.result.now c.place-i.ensures (omega arith) c.index-left.ensures

-- it was that dot alone
goes : (c : After-remove) → Changed c.args.self.now c.args.offset false c.remove.new.self
goes c =
    let b = left (goal.at.After-remove c).After-index-left in
    changed c.requires (omega (arith, c.remove.ensures.len, c.args.self.now.few)) c.remove.ensures.capacity (left_gone b (omega arith) (omega arith) c.remove.ensures.items)

-- it began at the dot
later : (c : After-index_mut) → Changed c.args.self.now c.args.offset false (with_item c.args.self.now.pairs (c.place-i.result - 1) (pair (c.args.offset + 1) (c.index-left.result.now.offset + c.index-left.result.now.len - (c.args.offset + 1))))
later c =
    let b = left (goal.at.After-index_mut c).After-index-left in
    changed c.requires c.args.self.now.few refl (left_later b (omega arith) (omega arith))

-- it ended behind the dot
shorter : (c : After-index_mut-then-after-eq0-2) → Changed c.args.self.now c.args.offset false (with_item c.args.self.now.pairs (c.place-i.result - 1) (pair c.index_mut-then-after-eq0-2.result.now.offset (c.args.offset - c.index-left.result.now.offset)))
shorter c =
    let b = left (goal.at.After-index_mut-then-after-eq0-2 c).After-index-left in
    subst (λ (r : Pair). Changed c.args.self.now c.args.offset false (with_item c.args.self.now.pairs (c.place-i.result - 1) (pair r.offset (c.args.offset - c.index-left.result.now.offset)))) (sym (left_again c.args.self.now _ _ _ _ b c.index_mut-then-after-eq0-2.ensures.value))
    (changed c.requires c.args.self.now.few refl (left_shorter b (omega arith) (omega arith)))

-- the pairs with what stands behind the dot put in
put_in : (c : After-insert) → vec_items c.insert.new.self ≡ insert (held c.args.self.now) c.place-i.result (pair (c.args.offset + 1) (c.index-left.result.now.offset + c.index-left.result.now.len - (c.args.offset + 1)))
put_in c = search rules

-- it is parted
parts : (c : After-index_mut-2) → Changed c.args.self.now c.args.offset false (with_item c.insert.new.self (c.place-i.result - 1) (pair c.index_mut-2.result.now.offset (c.args.offset - c.index-left.result.now.offset)))
parts c =
    let b = left (goal.at.After-index_mut-2 c).After-index-left in
    let e = put_in (goal.at.After-index_mut-2 c).After-insert in
    let n : vec_len c.insert.new.self ≤ 4096 = search rules in
    let k : vec_capacity c.insert.new.self ≡ vec_capacity c.args.self.now.pairs = search rules in
    subst (λ (r : Pair). Changed c.args.self.now c.args.offset false (with_item c.insert.new.self (c.place-i.result - 1) (pair r.offset (c.args.offset - c.index-left.result.now.offset)))) (sym (read_again b _ _ _ e c.index_mut-2.ensures.value))
    (changed c.requires n k (left_parted b (omega arith) (omega arith) e))

pub returns-then-i-eq0 : goal.returns-then-i-eq0
returns-then-i-eq0 c =
    let s = c.args.self.now in
    so_already s c.args.offset false c.requires (none_dark (area s) c.args.offset (held s) (sheet_canon s) (sym c.if-i-eq0.true ∙ c.place-i.ensures))

pub index-left-requires : goal.index-left-requires
index-left-requires c = left_there c.args.self.now c.place-i.result c.args.offset c.place-i.ensures (omega arith)

pub overflow_add-end : goal.overflow_add-end
overflow_add-end c = let b = left (goal.at.overflow_add-end c).After-index-left in omega (arith, c.args.self.now.area)

pub returns-then-end-offset : goal.returns-then-end-offset
returns-then-end-offset c =
    so_already c.args.self.now c.args.offset false c.requires (beside_dark (left (goal.at.returns-then-end-offset c).After-index-left) ∙ le-ltb _ _ c.if-end-offset.true)

pub overflow_sub-before : goal.overflow_sub-before
overflow_sub-before c = (left (goal.at.overflow_sub-before c).After-index-left).by

pub remove-requires : goal.remove-requires
remove-requires c = left_there c.args.self.now c.place-i.result c.args.offset c.place-i.ensures (omega arith)

pub invariant_of-self : goal.invariant_of-self
invariant_of-self c = (goes c).holds

pub returns-then-after-eq0 : goal.returns-then-after-eq0
returns-then-after-eq0 c = (goes (goal.at.returns-then-after-eq0 c).After-remove).lays

pub index_mut-requires : goal.index_mut-requires
index_mut-requires c = left_there c.args.self.now c.place-i.result c.args.offset c.place-i.ensures (omega arith)

pub invariant_of-self-then-before-eq0 : goal.invariant_of-self-then-before-eq0
invariant_of-self-then-before-eq0 c = (later (goal.at.invariant_of-self-then-before-eq0 c).After-index_mut).holds

pub returns-then-before-eq0 : goal.returns-then-before-eq0
returns-then-before-eq0 c = (later (goal.at.returns-then-before-eq0 c).After-index_mut).lays

pub index_mut-requires-then-after-eq0-2 : goal.index_mut-requires-then-after-eq0-2
index_mut-requires-then-after-eq0-2 c = left_there c.args.self.now c.place-i.result c.args.offset c.place-i.ensures (omega arith)

pub invariant_of-self-then-after-eq0-2 : goal.invariant_of-self-then-after-eq0-2
invariant_of-self-then-after-eq0-2 c = (shorter (goal.at.invariant_of-self-then-after-eq0-2 c).After-index_mut-then-after-eq0-2).holds

pub returns-then-after-eq0-2 : goal.returns-then-after-eq0-2
returns-then-after-eq0-2 c = (shorter (goal.at.returns-then-after-eq0-2 c).After-index_mut-then-after-eq0-2).lays

pub returns-then-len-eq-MOST : goal.returns-then-len-eq-MOST
returns-then-len-eq-MOST c =
    let s = c.args.self.now in
    let b = left (goal.at.returns-then-len-eq-MOST c).After-index-left in
    too_many c.requires (omega arith) (left_parted b (omega arith) (omega arith) refl) (length-set _ _ _ ∙ length-insert (held s) c.place-i.result _ b.there)

pub insert-requires : goal.insert-requires
insert-requires c = let b = left (goal.at.insert-requires c).After-index-left in omega (arith, c.args.self.now.pairs.ok.0)

pub index_mut-requires-2 : goal.index_mut-requires-2
index_mut-requires-2 c =
    let b = left (goal.at.index_mut-requires-2 c).After-index-left in
    let n : vec_len c.insert.new.self ≡ vec_len c.args.self.now.pairs + 1 = search rules in
    omega (arith, c.args.self.now.pairs.ok.0)

pub invariant_of-self-2 : goal.invariant_of-self-2
invariant_of-self-2 c = (parts (goal.at.invariant_of-self-2 c).After-index_mut-2).holds

pub returns : goal.returns
returns c = (parts (goal.at.returns c).After-index_mut-2).lays
