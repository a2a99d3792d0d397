-- The proof of the search.
use Rattle.std.proofs.Common.{ℕ, ◌+◌, ◌<◌, Bool, length, sym, subst, arith, rules}
use Rattle.search.specs.First.{ComesFirst, IsOrderAmong, TellsBefore}
use Rattle.search.proofs.Turns.{alone, keeps, rest_fits, rest_read, takes}
use Rattle.search.proofs.place.first_by.Goals as goal
use Rattle.search.proofs.place.first_by.Goals.{then-comes_before, else-comes_before}

-- Before the first turn, only the first place was looked at.
pub loop-i-init : goal.loop-i-init
loop-i-init g c =
    let some : 0 < length c.args.items.now = search rules in
    (omega arith, λ upto tells o. alone upto c.args.items.now o some)

-- A turn keeps the best place, or takes the new one.
pub loop-i-preserved : goal.loop-i-preserved
loop-i-preserved g c =
    let xs = c.args.items.now in
    let i = c.loop-i.i in
    let b = c.loop-i.best in
    let inv = c.loop-i.invariant in
    let fits : i + 1 < length xs = rest_fits xs i c.loop-i-test.true in
    let read = rest_read xs i c.item-item.result c.item-item.is in
    let Kept : ℕ → Type 0 = λ k. (k < i + 1 + 1) × ((upto : g.row.T.Denot → g.row.T.Denot → Bool) → TellsBefore (goal.F-post g c.args.comes_before) upto → IsOrderAmong upto xs → ComesFirst upto xs (i + 1 + 1) k) in
    elim c.if-comes_before.branch [
      | then-comes_before w ↦
          subst Kept (sym w.best-is) (omega arith, λ upto tells o. takes upto xs o (i + 1) b _ _ _ (inv.1 upto tells o) inv.0 fits read c.index-items-best.is (tells _ _ _ c.comes_before.ensures) w.if-comes_before.true)
      | else-comes_before w ↦
          subst Kept (sym w.best-is) (omega arith, λ upto tells o. keeps upto xs (i + 1) b _ _ _ (inv.1 upto tells o) inv.0 fits read c.index-items-best.is (tells _ _ _ c.comes_before.ensures) w.if-comes_before.false)
    ]
