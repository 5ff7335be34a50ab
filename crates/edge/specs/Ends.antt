-- How far in from its sides a row or a column of a rectangle lies.
use Rattle.std.specs.Prelude.{ℕ, ℤ, Bool, ◌||◌, Float}
use Rattle.std.specs.Float.{binary32}
use Rattle.std.specs.Float.Ieee.{add, sub, lt, to_signed}
use Rattle.geom.specs.declared.Rect.{Rect}
use Rattle.geom.specs.Geom.{right, bottom}
use Rattle.mathf.specs.Round.{floor_of, ceil_of}
use Rattle.edge.specs.Edge.{centre}

-- row y lies less than d in from the top or the bottom
abbrev pub near_end : Rect → Float → ℕ → Bool
near_end rect d y = lt (centre y) (add binary32 rect.y d) || lt (sub binary32 (bottom rect) d) (centre y)

-- the first column beyond those that lie less than d in from the left side, and the first of those from the right side
abbrev pub side_end : Rect → Float → ℤ
side_end rect d = to_signed 31 (ceil_of (add binary32 rect.x d))

abbrev pub side_start : Rect → Float → ℤ
side_start rect d = to_signed 31 (floor_of (sub binary32 (right rect) d))
