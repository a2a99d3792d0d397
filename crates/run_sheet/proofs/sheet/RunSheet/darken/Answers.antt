-- Making a dot dark: it touches the pair left of it, or nothing before it.
use Rattle.std.proofs.Common.{◌≡◌, ◌+◌, ◌-◌, true, drop, sym, refl, ap, ◌∙◌, subst, arith}
use Rattle.std.proofs.lemmas.Bool.{lt-ltb}
use Rattle.std.specs.Vec.{with_item}
use Rattle.dots.specs.Dots.{pair}
use Rattle.dots.specs.declared.pair.Pair.{Pair}
use Rattle.dots.proofs.Cuts.{apart_reach, beside_dark, read_again}
use Rattle.dots.proofs.Ways.{left_longer, left_merged}
use Rattle.run_sheet.specs.Sheets.{held}
use Rattle.run_sheet.proofs.Changes.{Changed, Left, changed, left_again, left_of, left_there, right_within, so_already}
use Rattle.run_sheet.proofs.sheet.RunSheet.darken.Goals as goal
use Rattle.run_sheet.proofs.sheet.RunSheet.darken.Goals.{After-index-left, After-index_mut, After-index_mut-2}

-- the pair left of the dot
left : (c : After-index-left) → Left c.args.self.now c.place-i.result c.args.offset c.index-left.result.now
left c = left_of c.args.self.now c.place-i.result c.args.offset c.index-left.result.now c.place-i.ensures (omega arith) c.index-left.ensures

-- it is the one that takes in the pair right of the dot
again : (c : After-index_mut) → c.index_mut.result.now ≡ c.index-left.result.now
again c = read_again (left (goal.at.After-index_mut c).After-index-left) _ (drop (c.place-i.result + 1) (held c.args.self.now)) _ c.remove-right.ensures.by_index.2 c.index_mut.ensures.value

-- so the two are one
merges : (c : After-index_mut) → Changed c.args.self.now c.args.offset true (with_item c.remove-right.new.self (c.place-i.result - 1) (pair c.index_mut.result.now.offset (c.index_mut.result.now.len + (1 + c.remove-right.result.len))))
merges c =
    let v = c.remove-right in
    let grown : Pair → Pair = λ r. pair r.offset (r.len + (1 + v.result.len)) in
    subst (λ (r : Pair). Changed c.args.self.now c.args.offset true (with_item v.new.self (c.place-i.result - 1) (grown r))) (sym (again c))
    (changed c.requires (omega (arith, v.ensures.len, c.args.self.now.few)) v.ensures.capacity (left_merged (left (goal.at.After-index_mut c).After-index-left) (omega arith) (sym c.if-begins.ensures) v.ensures.value v.ensures.by_index.2))

-- it is the one that grows
still : (c : After-index_mut-2) → c.index_mut-2.result.now ≡ c.index-left.result.now
still c = left_again c.args.self.now _ _ _ _ (left (goal.at.After-index_mut-2 c).After-index-left) c.index_mut-2.ensures.value

-- so it ends behind the dot
longer : (c : After-index_mut-2) → Changed c.args.self.now c.args.offset true (with_item c.args.self.now.pairs (c.place-i.result - 1) (pair c.index_mut-2.result.now.offset (c.index_mut-2.result.now.len + 1)))
longer c =
    subst (λ (r : Pair). Changed c.args.self.now c.args.offset true (with_item c.args.self.now.pairs (c.place-i.result - 1) (pair r.offset (r.len + 1)))) (sym (still c))
    (changed c.requires c.args.self.now.few refl (left_longer (left (goal.at.After-index_mut-2 c).After-index-left) c.requires (omega arith) (sym c.if-begins.ensures)))

pub index-left-requires : goal.index-left-requires
index-left-requires c = left_there c.args.self.now c.place-i.result c.args.offset c.place-i.ensures (omega arith)

pub overflow_add-end : goal.overflow_add-end
overflow_add-end c = let b = left (goal.at.overflow_add-end c).After-index-left in omega (arith, c.args.self.now.area)

pub returns-then-offset-end : goal.returns-then-offset-end
returns-then-offset-end c =
    so_already c.args.self.now c.args.offset true c.requires (beside_dark (left (goal.at.returns-then-offset-end c).After-index-left) ∙ lt-ltb _ _ c.if-offset-end.true)

pub darken_free-requires-then-end-offset-clause-apart : goal.darken_free-requires-then-end-offset-clause-apart
darken_free-requires-then-end-offset-clause-apart c =
    let b = left (goal.at.darken_free-requires-then-end-offset-clause-apart c).After-index-left in
    omega (arith, apart_reach b)

pub overflow_add-right : goal.overflow_add-right
overflow_add-right c =
    let w = right_within c.args.self.now c.place-i.result (c.args.offset + 1) c.remove-right.result c.if-begins.ensures c.remove-right.ensures.value in
    omega (arith, c.args.self.now.area)

pub overflow_add-index_mut : goal.overflow_add-index_mut
overflow_add-index_mut c =
    let w = right_within c.args.self.now c.place-i.result (c.args.offset + 1) c.remove-right.result c.if-begins.ensures c.remove-right.ensures.value in
    omega (arith, c.args.self.now.area, ap (λ (r : Pair). r.len) (again c))

pub invariant_of-self : goal.invariant_of-self
invariant_of-self c = (merges (goal.at.invariant_of-self c).After-index_mut).holds

pub returns-then-begins : goal.returns-then-begins
returns-then-begins c = (merges (goal.at.returns-then-begins c).After-index_mut).lays

pub index_mut-requires-2 : goal.index_mut-requires-2
index_mut-requires-2 c = left_there c.args.self.now c.place-i.result c.args.offset c.place-i.ensures (omega arith)

pub overflow_add-index_mut-2 : goal.overflow_add-index_mut-2
overflow_add-index_mut-2 c =
    let b = left (goal.at.overflow_add-index_mut-2 c).After-index-left in
    omega (arith, c.args.self.now.area, ap (λ (r : Pair). r.len) (still c))

pub invariant_of-self-2 : goal.invariant_of-self-2
invariant_of-self-2 c = (longer (goal.at.invariant_of-self-2 c).After-index_mut-2).holds

pub returns : goal.returns
returns c = (longer (goal.at.returns c).After-index_mut-2).lays
