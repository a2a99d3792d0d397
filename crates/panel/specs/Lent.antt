-- A surface in memory that was lent: which loan it is belongs to what it holds, and no pixel changes it.
use Rattle.std.proofs.Common.{ap}
use Rattle.plotters_backend.specs.Surface.{Surface, Lawful}

abbrev pub lent : {E : Type 0} → Type 0 → Surface E → Surface E
lent N S = record {
  Held = N × S.Held;
  Cell = S.Cell;
  size = λ h. S.size h.1;
  cell = λ h x y. S.cell h.1 x y;
  rule = S.rule;
  refuses = λ h p c. S.refuses h.1 p c;
  laid = λ h p c. (h.0, S.laid h.1 p c);
}

pub lent_lawful : {E : Type 0} (N : Type 0) (S : Surface E) → Lawful S → Lawful (lent N S)
lent_lawful N S L = record {
  small = λ h. L.small h.1;
  keeps = λ h p c. L.keeps h.1 p c;
  outside = λ h p c e. ((L.outside h.1 p c e).0, ap (λ (k : S.Held). (h.0, k)) (L.outside h.1 p c e).1);
  here = λ h x y c i r. L.here h.1 x y c i r;
  others = λ h p c x y i n. L.others h.1 p c x y i n;
  refused = λ h p c e r x y i. L.refused h.1 p c e r x y i;
  opaque = L.opaque;
  own = L.own;
  clear = L.clear;
}
