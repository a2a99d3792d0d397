-- The draw on the loan is the draw on the picture that it holds.
use Rattle.std.proofs.Common.{◌≡◌, ℕ, List, length, ap, ◌∙◌, rules}
use Rattle.plotters_backend.specs.Run.{all, run}
use Rattle.panel.specs.Lent.{lent}
use Rattle.panel.specs.Picture.{Picture, handed, picture, picture_of, shown}
use Rattle.panel.proofs.Loans.{drawn, picture_accepts}
use Rattle.panel.proofs.loan.pixels_on_bytes.Goals as goal

pub returns : goal.returns
returns c =
    let given = c.args.bytes.now in
    let made = c.new-panel.result in
    let d = all c.args.pixels.now in
    let g : picture_of made.size made.bytes.now ≡ handed c.args.size given =
    ap (λ (z : ℕ × ℕ). picture_of z made.bytes.now) c.new-panel.ensures.shows
    ∙ ap (λ (bs : List ℕ). picture_of (shown c.args.size (length given)) bs) c.new-panel.ensures.memory in
    let after = c.draw_pixels.new.back in
    let p = picture_of made.size made.bytes.now in
    let q = picture_of after.size after.bytes.now in
    let u : (c.draw_pixels.result, (after.bytes.ghost_name, q)) ≡ run (lent ℕ picture) (made.bytes.ghost_name, p) d = search rules in
    let k = drawn ℕ picture made.bytes.ghost_name after.bytes.ghost_name p q c.draw_pixels.result d u in
    let n = k.same in
    let v : after.bytes.now ≡ (run picture (handed c.args.size given) d).1.bytes = ap (λ (h : Picture). h.bytes) k.leaves ∙ ap (λ (h : Picture). (run picture h d).1.bytes) g in
    record { answer = k.answers ∙ picture_accepts p c.args.pixels.now; memory = search (rules, n, v) }
