-- What the private functions of `glass` keep from step to step. The contract of `glass` says nothing of it: a reader who wants to know what `glass` does need not read it.
use Rattle.std.specs.Prelude.{ℕ, ◌+◌, ◌-◌, ◌*◌, ◌/◌, ◌%◌, ◌≤◌, ◌<◌, min, ◌≡◌, Bool, true, cond, ◌&&◌, ◌||◌, List, Option, Some, None, leb, eqb, length, get_or, Float}
use Rattle.std.specs.Float.Ieee.{lt}
use Rattle.color.specs.Color.{pack}
use Rattle.geom.specs.declared.Rect.{Rect}
use Rattle.geom.specs.declared.IRect.{IRect}
use Rattle.geom.specs.Geom.{two, outer_pixels}
use Rattle.canvas.specs.declared.Area.{Area}
use Rattle.canvas.specs.Canvas.{area_on}
use Rattle.edge.specs.Edge.{cov8}
use Rattle.panel.specs.declared.Panel.{Panel}
use Rattle.panel.specs.Panel.{lit}
use Rattle.mathf.specs.Real as Real
use Rattle.panel.specs.Rim.{depth, bent, seen}
use Rattle.panel.specs.Private.{level}
use Rattle.glass.specs.declared.Pair.{Pair}
use Rattle.glass.specs.declared.Runs.{Runs}
use Rattle.glass.specs.declared.general.Column.{Column}
use Rattle.glass.specs.declared.general.Columns.{Columns}
use Rattle.glass.specs.declared.general.level.Shared.{Shared}
use Rattle.glass.specs.Places.{col_place, row_place, cell_at}
use Rattle.glass.specs.Flat.{column, flat_pix}
use Rattle.glass.specs.General.{next, blend, soft, col_inside, edge_row_place}

-- the picture has the panel's cells
pub record Sized (p : Panel) (lo : List ℕ) : Type 0 where
  pub least : 1 ≤ p.k
  pub most : p.k ≤ 4
  pub no_three : p.k ≡ 3 → ⊥
  pub wide : 1 ≤ p.lw
  pub narrow : p.lw ≤ 4096
  pub tall : 1 ≤ p.lh
  pub low : p.lh ≤ 4096
  pub near : p.wx ≤ 4096
  pub high : p.wy ≤ 4096
  pub bytes : length lo ≡ p.lh * p.lw * 3

-- the same, where the window may have no pixel
pub record Fitting (p : Panel) (lo : List ℕ) : Type 0 where
  pub least : 1 ≤ p.k
  pub most : p.k ≤ 4
  pub no_three : p.k ≡ 3 → ⊥
  pub narrow : p.lw ≤ 4096
  pub low : p.lh ≤ 4096
  pub near : p.wx ≤ 4096
  pub high : p.wy ≤ 4096
  pub bytes : length lo ≡ p.lh * p.lw * 3

-- every pixel's top byte is 0
pub record Clear (l : List ℕ) : Type 0 where
  pub is : (i : ℕ) → i < length l → get_or l i 0 < 16777216

-- ---- a flat panel

-- the columns x and x + 1 at the place fy
unfoldable pub pair_at : List ℕ → ℕ → ℕ → ℕ → Pair
pair_at lo lw fy x = record { left = column lo lw fy x; right = column lo lw fy (x + 1) }

-- from column x on each pixel of row y is one cell, until the last column of cells
unfoldable pub is_whole : Panel → ℕ → ℕ → Bool
is_whole p x y = eqb p.k 1 && (leb p.wx x && eqb (row_place p y % 256) 0)

-- a cell is two or four pixels wide
pub data Even : ℕ → Type 0 where
  by_two : Even 2
  by_four : Even 4

-- the runs lie among n pixels from column x on, and in the picture
pub record Fit (p : Panel) (x n : ℕ) (s : Runs) : Type 0 where
  pub even : Even p.k
  pub from : p.wx ≤ x
  pub start : x - p.wx + s.lead ≡ s.m * p.k + p.k / 2
  pub room : s.lead + s.count * p.k ≤ n
  pub cells : s.m + s.count < p.lw

-- ---- a panel with a bezel or round corners

-- the columns x + a up to x + b lie inside
pub record Inside (p : Panel) (x a b : ℕ) : Type 0 where
  pub is : (i : ℕ) → a ≤ i → i < b → col_inside p (x + i) ≡ true

-- channel c of the column x of the picture at the place fy of its rows, times 256
abbrev pub column_ch : (lo : List ℕ) (lw lh fy x c : ℕ) → ℕ
column_ch lo lw lh fy x c = blend (fy % 256) (get_or lo (cell_at lw x (fy / 256) + c) 0) (get_or lo (cell_at lw x (next lh fy) + c) 0)

pub record Small (k : Column) : Type 0 where
  pub r : k.r ≤ 65280
  pub g : k.g ≤ 65280
  pub b : k.b ≤ 65280

pub record IsColumn (lo : List ℕ) (lw lh fy x : ℕ) (k : Column) : Type 0 where
  pub small : Small k
  pub r : k.r ≡ column_ch lo lw lh fy x 0
  pub g : k.g ≡ column_ch lo lw lh fy x 1
  pub b : k.b ≡ column_ch lo lw lh fy x 2

-- the columns x and x + 1, the last having none
pub record AreColumns (lo : List ℕ) (lw lh fy x : ℕ) (k : Columns) : Type 0 where
  pub left : IsColumn lo lw lh fy x k.left
  pub right : IsColumn lo lw lh fy (min (x + 1) (lw - 1)) k.right

-- t of 256 parts of the way between two columns
unfoldable pub between : Columns → ℕ → ℕ
between k t = pack (blend t k.left.r k.right.r / 65536) (blend t k.left.g k.right.g / 65536) (blend t k.left.b k.right.b / 65536)

-- how far from the window's side such a pixel of column x sees
unfoldable pub level_seen : Panel → Option Float → ℕ → ℕ
level_seen p (Some b) x = seen p.wx x Real.zero b
level_seen p None x = (x - p.wx) * 256

-- what the pixels of row y share whose nearest side is the top or the bottom
pub record IsShared (p : Panel) (table : List Float) (y : ℕ) (v : Shared) : Type 0 where
  pub sd : v.sd ≡ (level p y).sd
  pub cov : v.cov ≡ cov8 (level p y).sd
  pub bend : v.bend ≡ bent p table (depth (level p y).sd)
  pub fy : v.fy ≡ edge_row_place p table (level p y) y

-- ---- runs

-- a pixel of a row that may have runs: of a flat panel, or of the inside of another
abbrev pub row_pix : Panel → List ℕ → Bool → ℕ → ℕ → ℕ
row_pix p lo flat x y = cond flat (flat_pix p lo x y) (soft p lo (col_place p x) (row_place p y))

-- a column's channel times 256, which a flat panel rounds down to a level
abbrev pub levels : Bool → ℕ → ℕ
levels flat v = cond flat (v / 256 * 256) v

-- channel c, t of 256 parts of the way from column x to the next
abbrev pub spot_ch : (lo : List ℕ) (lw lh : ℕ) (flat : Bool) (fy x t c : ℕ) → ℕ
spot_ch lo lw lh flat fy x t c = blend t (levels flat (column_ch lo lw lh fy x c)) (levels flat (column_ch lo lw lh fy (x + 1) c)) / 65536

unfoldable pub spot_pix : (lo : List ℕ) (lw lh : ℕ) (flat : Bool) (fy x t : ℕ) → ℕ
spot_pix lo lw lh flat fy x t = pack (spot_ch lo lw lh flat fy x t 0) (spot_ch lo lw lh flat fy x t 1) (spot_ch lo lw lh flat fy x t 2)

-- pixel i of those that begin between the columns m and m + 1 of cells
unfoldable pub run_pix : Panel → List ℕ → Bool → ℕ → ℕ → ℕ → ℕ
run_pix p lo flat fy m i = lit p (spot_pix lo p.lw p.lh flat fy (m + i / p.k) ((i % p.k * 256 + 128) / p.k))

-- the first n numbers of a line are at most 255 * 256
pub record Low (line : List ℕ) (n : ℕ) : Type 0 where
  pub is : (j : ℕ) → j < n → get_or line j 0 ≤ 65280

-- a line of n columns of the picture from m on, three channels each
pub record IsLine (lo : List ℕ) (lw lh : ℕ) (flat : Bool) (fy m n : ℕ) (line : List ℕ) : Type 0 where
  pub low : Low line (n * 3)
  pub is : (x c : ℕ) → x < n → c < 3 → get_or line (x * 3 + c) 0 ≡ levels flat (column_ch lo lw lh fy (m + x) c)

-- t of 256 parts of the way from column x of a line to the next
unfoldable pub line_pix : List ℕ → ℕ → ℕ → ℕ
line_pix line x t =
    pack (blend t (get_or line (x * 3) 0) (get_or line (x * 3 + 3) 0) / 65536) (blend t (get_or line (x * 3 + 1) 0) (get_or line (x * 3 + 4) 0) / 65536)
    (blend t (get_or line (x * 3 + 2) 0) (get_or line (x * 3 + 5) 0) / 65536)

-- pixel i of the runs over a line, k to a column
unfoldable pub line_run : ℕ → List ℕ → ℕ → ℕ
line_run k line i = line_pix line (i / k) ((i % k * 256 + 128) / k)

-- ---- the entry

-- the sides of the box
unfoldable pub panel_area : ℕ → ℕ → ℕ → IRect → Rect → Area
panel_area n w h clip rect = cond (lt rect.w two || lt rect.h two) (record { x0 = 0; y0 = 0; x1 = 0; y1 = 0 }) (area_on n w h clip (outer_pixels rect))
