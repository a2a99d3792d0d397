-- No place of a side is NaN, so the library's order of floats compares places as numbers.
use Rattle.std.proofs.Common.{◌≡◌, Bool, true, false, cond, T, refl}
use Rattle.std.specs.declared.cmp.Ordering.TheVariants.{Less, Equal, Greater}
use Rattle.std.specs.declared.cmp.Ordering.{Ordering}
use Rattle.std.specs.Float.{Float, nan, inf, fin}
use Rattle.std.specs.Float.Ieee.{is_nan, lt, of_int}
use Rattle.std.specs.Float.Ieee.Scale.{finite}
use Rattle.std.specs.Ordering.{nan_last_cmp}
use Rattle.edges.specs.declared.side.Edge.{Edge}
use Rattle.edges.specs.Side.{is_sound, place64, zero64}
use Rattle.edges.specs.Order.{place_key}
use Rattle.edges.proofs.Laws.{place_finite}

-- 0 is finite
pub zero_finite : T (finite zero64)
unfolding of_int
zero_finite = tt

-- a test that holds has passed
pub passed : (b : Bool) → T b → b ≡ true
passed true t = refl
passed false t = absurd t

-- the place of a side is finite, sound or not
pub key_finite : (x : Edge) → T (finite (place_key x))
key_finite x = go (is_sound x) (place_finite x)
  where
    go : (b : Bool) → (b ≡ true → T (finite (place64 x))) → T (finite (cond b (place64 x) zero64))
    go true h = h refl
    go false h = zero_finite

-- how two binary64 numbers compare that are no NaN, -0 being equal to 0
abbrev pub rank64 : Float → Float → Ordering
rank64 x y = cond (lt x y) Less (cond (lt y x) Greater Equal)

-- two finite numbers compare so by the library's order
finite_ranked : (x y : Float) → T (finite x) → T (finite y) → nan_last_cmp x y ≡ rank64 x y
unfolding lt is_nan
finite_ranked nan y f g = absurd f
finite_ranked (inf s) y f g = absurd f
finite_ranked (fin s m e) nan f g = absurd g
finite_ranked (fin s m e) (inf t) f g = absurd g
finite_ranked (fin s m e) (fin t n d) f g = refl

-- so do the places of two sides
pub places_ranked : (x y : Edge) → nan_last_cmp (place_key x) (place_key y) ≡ rank64 (place_key x) (place_key y)
places_ranked x y = finite_ranked (place_key x) (place_key y) (key_finite x) (key_finite y)
