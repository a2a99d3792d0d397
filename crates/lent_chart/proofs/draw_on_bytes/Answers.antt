-- The draw on the loan is the draw on the picture that it holds.
use borrow.Author.Rules.{rules}
use mathlib.Core.Path.{◌≡◌, ap, ◌∙◌}
use mathlib.Core.List.{List}
use Prim.Native.Nat.{ℕ}
use lib.ListN.{length}
use Rattle.plotters_backend.specs.Run.{Outcome, run}
use Rattle.panel.specs.Lent.{lent}
use Rattle.panel.specs.Picture.{Picture, handed, picture, picture_of, shown, sides}
use Rattle.panel.proofs.Loans.{run_lent}
use Rattle.dot_grid.specs.Draws.{drawing}
use Rattle.lent_chart.proofs.draw_on_bytes.Goals as goal

pub returns : goal.returns
returns c =
    let given = c.args.bytes.now in
    let made = c.new-panel.result in
    let pic = picture_of made.size made.bytes.now in
    let g : pic ≡ handed c.args.size given =
    ap (λ (z : ℕ × ℕ). picture_of z made.bytes.now) c.new-panel.ensures.shows
    ∙ ap (λ (bs : List ℕ). picture_of (shown c.args.size (length given)) bs) c.new-panel.ensures.memory in
    let e = c.carry_out.ensures ∙ run_lent ℕ picture made.bytes.ghost_name pic (drawing (sides pic) c.args.draw) in
    let n = ap (λ (o : Outcome (lent ℕ picture)). o.1.0) e in
    let v : c.carry_out.new.back.bytes.now ≡ (run picture (handed c.args.size given) (drawing (sides (handed c.args.size given)) c.args.draw)).1.bytes =
    ap (λ (o : Outcome (lent ℕ picture)). o.1.1.bytes) e ∙ ap (λ (h : Picture). (run picture h (drawing (sides h) c.args.draw)).1.bytes) g in
    record {
      answer = ap (λ (o : Outcome (lent ℕ picture)). o.0) e ∙ ap (λ (h : Picture). (run picture h (drawing (sides h) c.args.draw)).0) g;
      bytes = search (rules, n, v);
    }
