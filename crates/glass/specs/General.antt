-- A panel with a bezel or round corners. Its inside shows the picture as it is; within the bezel a pixel shows the picture at a place moved along the edge's
-- normal, by the table of displacements; pixels on the edge are mixed with what was there.
use Rattle.std.specs.Prelude.{ℕ, ◌+◌, ◌-◌, ◌*◌, ◌/◌, ◌%◌, min, Bool, cond, ◌&&◌, List, leb, ltb, eqb, get_or, Float}
use Rattle.std.specs.Float.Ieee.{lt}
use Rattle.mathf.specs.Real as Real
use Rattle.color.specs.Color.{pack}
use Rattle.edge.specs.Edge.{cov8}
use Rattle.panel.specs.declared.Panel.{Panel}
use Rattle.panel.specs.declared.rim.Slope.{Slope}
use Rattle.panel.specs.Panel.{lit}
use Rattle.panel.specs.Rim.{slope, depth, bends, bend, seen, laid}
use Rattle.glass.specs.Places.{place, col_place, row_place, cell_at, pix_at}

-- ---- the picture's colour at a place

-- the cell after that of the place f, the last of n having none
abbrev pub next : ℕ → ℕ → ℕ
next n f = min (f / 256 + 1) (n - 1)

-- t of 256 parts of the way from a to b, times 256
abbrev pub blend : ℕ → ℕ → ℕ → ℕ
blend t a b = a * (256 - t) + b * t

-- channel c of the row y of cells at the place fx, times 256
abbrev pub soft_row : List ℕ → ℕ → ℕ → ℕ → ℕ → ℕ
soft_row lo lw fx c y = blend (fx % 256) (get_or lo (cell_at lw (fx / 256) y + c) 0) (get_or lo (cell_at lw (next lw fx) y + c) 0)

-- channel c at the place fx of the columns and fy of the rows, rounded down once
unfoldable pub soft_ch : (lo : List ℕ) (lw lh fx fy c : ℕ) → ℕ
soft_ch lo lw lh fx fy c = blend (fy % 256) (soft_row lo lw fx c (fy / 256)) (soft_row lo lw fx c (next lh fy)) / 65536

unfoldable pub soft : Panel → List ℕ → ℕ → ℕ → ℕ
soft p lo fx fy = lit p (pack (soft_ch lo p.lw p.lh fx fy 0) (soft_ch lo p.lw p.lh fx fy 1) (soft_ch lo p.lw p.lh fx fy 2))

-- ---- the inside

-- from the first of two numbers on, and before the second
unfoldable pub within : ℕ → ℕ → ℕ → Bool
within from to v = leb from v && ltb v to

-- the pixel's row and its column lie inside, clear of bezel and corners
abbrev pub row_inside : Panel → ℕ → Bool
row_inside p y = within p.iy0 p.iy1 y

abbrev pub col_inside : Panel → ℕ → Bool
col_inside p x = within p.ix0 p.ix1 x

-- where cells are pixels it is the cell itself, held to the last one
unfoldable pub inside_pix : Panel → List ℕ → ℕ → ℕ → ℕ
inside_pix p lo x y =
    cond (eqb p.k 1) (lit p (pix_at lo (cell_at p.lw (min (x - p.wx) (p.lw - 1)) (min (y - p.wy) (p.lh - 1))))) (soft p lo (col_place p x) (row_place p y))

-- ---- the edge

-- the place that the pixel sees, along the columns and along the rows
unfoldable pub edge_col_place : Panel → List Float → Slope → ℕ → ℕ
edge_col_place p table s x =
    let d = depth s.sd in
    place p.k p.lw (cond (bends p d) (seen p.wx x s.nx (bend table p.bezel d)) ((x - p.wx) * 256))

unfoldable pub edge_row_place : Panel → List Float → Slope → ℕ → ℕ
edge_row_place p table s y =
    let d = depth s.sd in
    place p.k p.lh (cond (bends p d) (seen p.wy y s.ny (bend table p.bezel d)) ((y - p.wy) * 256))

-- a pixel of the edge: beyond half a pixel outside it stays
unfoldable pub edge_pix : (p : Panel) (table : List Float) (lo : List ℕ) (x y q : ℕ) → ℕ
edge_pix p table lo x y q =
    let s = slope p x y in
    cond (lt Real.point_five s.sd) q (laid (cov8 s.sd) (soft p lo (edge_col_place p table s x) (edge_row_place p table s y)) q)

-- ---- the pixel in column x of row y
unfoldable pub general_pix : (p : Panel) (table : List Float) (lo : List ℕ) (x y q : ℕ) → ℕ
general_pix p table lo x y q = cond (row_inside p y && col_inside p x) (inside_pix p lo x y) (edge_pix p table lo x y q)
