-- A surface of no size: it holds nothing, and every pixel lies outside.
use Rattle.std.specs.Prelude.{None, refl}
use Rattle.std.proofs.Common.{lit≤}
use Rattle.plotters_backend.specs.Surface.{Surface, Lawful}
use Rattle.std.specs.declared.convert.Infallible.{Infallible}

abbrev pub nothing : Surface Infallible
nothing = record { Held = Unit {0}; Cell = Unit {0}; size = λ _. (0, 0); cell = λ _ _ _. tt; rule = λ _ _. tt; refuses = λ _ _ _. None; laid = λ _ _ _. tt }

pub nothing_lawful : Lawful nothing
nothing_lawful = record {
  small = λ _. (lit≤ tt, lit≤ tt);
  keeps = λ _ _ _. refl;
  outside = λ _ _ _ _. (refl, refl);
  here = λ _ _ _ _ _ _. refl;
  others = λ _ _ _ _ _ _ _. refl;
  refused = λ _ _ _ _ _ _ _ _. refl;
  opaque = λ _ _ _ _. refl;
  own = λ _ _. refl;
  clear = λ _ _ _. refl;
}
