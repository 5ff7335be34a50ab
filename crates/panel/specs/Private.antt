-- What the private functions of `glass` ask of the edge. Its contract says nothing of it: a reader who wants to know what `glass` does need not read it.
use Rattle.std.specs.Prelude.{ℕ, Bool, false, cond, not, ◌&&◌, Float}
use Rattle.std.specs.Float.{binary32}
use Rattle.std.specs.Float.Ieee.{sub, lt}
use Rattle.mathf.specs.Real as Real
use Rattle.geom.specs.Geom.{cy}
use Rattle.edge.specs.Edge.{centre}
use Rattle.edge.specs.Corner.{col_axis, row_axis}
use Rattle.panel.specs.declared.Panel.{Panel}
use Rattle.panel.specs.declared.rim.Slope.{Slope}
use Rattle.panel.specs.Rim.{side}

-- how far column x lies past the straight parts of top and bottom, and row y past those of the sides
abbrev pub col_past : Panel → ℕ → Float
col_past p x = col_axis p.rect p.r x

abbrev pub row_past : Panel → ℕ → Float
row_past p y = row_axis p.rect p.r y

-- the slope in row y where the top or the bottom is nearest: the same in each column
unfoldable pub level : Panel → ℕ → Slope
level p y = record { sd = sub binary32 (row_past p y) p.r; nx = Real.zero; ny = side (sub binary32 (centre y) (cy p.rect)) }

-- qx, qy past the straight parts, the top or the bottom is nearest
unfoldable pub on_level : Float → Float → Bool
on_level qx qy = cond (lt Real.zero qx && lt Real.zero qy) false (not (lt qy qx))
