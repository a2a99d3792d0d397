-- What the search keeps true from turn to turn.
use Rattle.std.proofs.Common.{◌+◌, ◌<◌, Bool}
use Rattle.search.specs.First.{ComesFirst, IsOrderAmong, TellsBefore}
use Rattle.search.proofs.place.first_by.Given as goal

-- The best place so far is one that was looked at, and it comes first among those, where the elements are in order.
abbrev pub invariant-loop-i : goal.invariant-loop-i
invariant-loop-i g l =
    (l.best < l.i + 1)
    × ((upto : g.row.T.Denot → g.row.T.Denot → Bool) → TellsBefore (goal.F-post g l.comes_before) upto → IsOrderAmong upto l.items → ComesFirst upto l.items (l.i + 1) l.best)
