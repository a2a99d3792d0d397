-- The dot is dark where the last pair that begins at it or before covers it.
use Rattle.std.proofs.Common.{◌≡◌, ◌+◌, ◌-◌, false, ltb, length, take, slice_get, sym, ap, ◌∙◌, arith, rules}
use Rattle.std.specs.Option.{option_copied, option_map_or}
use Rattle.dots.specs.declared.pair.Pair.{Pair}
use Rattle.dots.proofs.Cuts.{up_to_le}
use Rattle.std.proofs.lemmas.List.{length-take-le}
use Rattle.run_sheet.specs.Sheets.{held}
use Rattle.run_sheet.proofs.Changes.{last_dark, last_left}
use Rattle.run_sheet.proofs.sheet.RunSheet.get.Goals as goal
use Rattle.run_sheet.proofs.sheet.RunSheet.get.Goals.{After-last}

-- the last of the pairs up to the place
last : (c : After-last) → option_copied c.last.result ≡ slice_get (take c.place-i.result (held c.args.self.now)) (length (take c.place-i.result (held c.args.self.now)) - 1)
last c = rw c.deref.ensures.value at c.last.ensures.value

pub slice_bounds-last-end : goal.slice_bounds-last-end
slice_bounds-last-end c = sym (length-take-le _ _ (rw c.deref.ensures.value (omega (arith, up_to_le (held c.args.self.now) c.args.offset))))

pub is_some_and-requires : goal.is_some_and-requires
is_some_and-requires c = λ x e _ _ _ _ _ _ _.
    let s = c.args.self.now in
    let b = last_left s c.place-i.result c.args.offset x.now c.place-i.ensures (sym (ap option_copied e) ∙ last (goal.at.is_some_and-requires c).After-last) in
    omega (arith, s.area)

pub returns : goal.returns
returns c =
    let h : c.is_some_and.result ≡ option_map_or (λ (r : Pair). ltb c.args.offset (r.offset + r.len)) (option_copied c.last.result) false = search rules in
    h ∙ last_dark c.args.self.now c.place-i.result c.args.offset _ c.requires c.place-i.ensures (last (goal.at.returns c).After-last)
