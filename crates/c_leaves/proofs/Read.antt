-- A signed number goes into a call, and comes out of one, by its bits: what is read from them is the number.
use mathlib.Core.Path.{◌≡◌}
use lib.IntN.{ℤ}
use mir.Syntax.{w32}
use mir.Val.{SFits, to_z, of_z}
use mir.Facts.{to_z-of_z}
use Rattle.geom.specs.declared.IRect.{IRect}

abbrev pub irect : ℤ → ℤ → ℤ → ℤ → IRect
irect x0 y0 x1 y1 = record { x0 = x0; y0 = y0; x1 = x1; y1 = y1 }

abbrev pub read : ℤ → ℤ
read z = to_z w32 (of_z w32 z)

pub same_irect : {x0 y0 x1 y1 : ℤ} → SFits w32 x0 → SFits w32 y0 → SFits w32 x1 → SFits w32 y1
    → irect (read x0) (read y0) (read x1) (read y1) ≡ irect x0 y0 x1 y1
same_irect f g h k = rw (to_z-of_z f, to_z-of_z g, to_z-of_z h, to_z-of_z k)
