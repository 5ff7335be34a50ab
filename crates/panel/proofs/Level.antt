-- Where the top or the bottom of a panel is the nearest side.
use Prim.Native.Nat.{ℕ}
use mathlib.Core.Path.{◌≡◌, refl, sym, subst}
use mathlib.Core.Bool.{Bool, true, false, cond, not, ◌&&◌}
use lib.Dec.{T}
use lib.Ieee.{lt}
use Rattle.mathf.specs.Real as Real
use Rattle.panel.specs.declared.Panel.{Panel}
use Rattle.panel.specs.declared.rim.Slope.{Slope}
use Rattle.panel.specs.Rim.{slope, nearest}
use Rattle.panel.specs.Private.{col_past, row_past, level, on_level}

third : (x y z : Slope) (a b : Bool) → cond a false (not b) ≡ true → cond a x (cond b y z) ≡ z
third x y z true b e = absurd (subst T (sym e) tt)
third x y z false true e = absurd (subst T (sym e) tt)
third x y z false false e = refl

pub level_is : (p : Panel) (x y : ℕ) → on_level (col_past p x) (row_past p y) ≡ true → slope p x y ≡ level p y
unfolding slope nearest level on_level
level_is p x y e = third _ _ _ (lt Real.zero (col_past p x) && lt Real.zero (row_past p y)) (lt (row_past p y) (col_past p x)) e
