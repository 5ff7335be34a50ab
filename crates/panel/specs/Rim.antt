-- The edge of a panel. Within the bezel a pixel shows the picture at a place moved along the edge's normal, by the table of displacements.
use Rattle.std.specs.Prelude.{ℕ, ◌+◌, ◌*◌, ◌/◌, min, Bool, cond, ◌&&◌, List, Option, Some, None, leb, pos, get_or, Float}
use Rattle.std.specs.Float.{nan, binary32}
use Rattle.std.specs.Float.Ieee.{of_bits, of_int, neg, add, sub, mul, div, lt, to_unsigned}
use Rattle.mathf.specs.Real as Real
use Rattle.mathf.specs.Sqrt.{sqrt_of}
use Rattle.color.specs.Color.{mix_pix}
use Rattle.geom.specs.Geom.{cx, cy}
use Rattle.edge.specs.Edge.{centre, axis}
use Rattle.panel.specs.declared.Panel.{Panel}
use Rattle.panel.specs.declared.rim.Slope.{Slope}

-- -1.0, 0.0001, 32.0 and 256.0
abbrev pub minus_one : Float
minus_one = neg Real.one

abbrev pub tiny : Float
tiny = of_bits binary32 0x38d1_b717

abbrev pub thirty_two : Float
thirty_two = of_bits binary32 0x4200_0000

abbrev pub two_fifty_six : Float
two_fifty_six = of_bits binary32 0x4380_0000

-- to which side of the centre
unfoldable pub side : Float → Float
side d = cond (lt d Real.zero) minus_one Real.one

-- the distance from the edge and the edge's normal, for a point dx, dy from the centre that lies qx, qy past the straight parts: of the corner's circle
unfoldable pub round_corner : Float → Float → Float → Float → Float → Slope
round_corner dx dy qx qy r =
    let l = Real.max (sqrt_of (add binary32 (mul binary32 qx qx) (mul binary32 qy qy))) tiny in
    record { sd = sub binary32 l r; nx = mul binary32 (div binary32 qx l) (side dx); ny = mul binary32 (div binary32 qy l) (side dy) }

-- or, where it is not past both, of the nearer side
unfoldable pub nearest : Float → Float → Float → Float → Float → Slope
nearest dx dy qx qy r =
    cond (lt Real.zero qx && lt Real.zero qy) (round_corner dx dy qx qy r)
    (cond (lt qy qx)
    (record { sd = sub binary32 qx r; nx = side dx; ny = Real.zero })
    (record { sd = sub binary32 qy r; nx = Real.zero; ny = side dy }))

-- those of the pixel (x, y)
unfoldable pub slope : Panel → ℕ → ℕ → Slope
slope p x y =
    let hw = mul binary32 p.rect.w Real.point_five in
    let hh = mul binary32 p.rect.h Real.point_five in
    nearest (sub binary32 (centre x) (cx p.rect)) (sub binary32 (centre y) (cy p.rect))
    (axis (centre x) (cx p.rect) hw p.r) (axis (centre y) (cy p.rect) hh p.r) p.r

-- how deep inside the edge
unfoldable pub depth : Float → Float
depth sd = cond (lt sd Real.zero) (neg sd) Real.zero

-- the bezel bends what is seen at the depth d
unfoldable pub bends : Panel → Float → Bool
bends p d = lt d p.bezel && lt Real.point_five p.bezel

-- by how much, between two entries of the table; the index is held to the last
unfoldable pub bend : List Float → Float → Float → Float
bend table bezel d =
    let t = mul binary32 (Real.saturate (div binary32 d bezel)) thirty_two in
    let i = min (to_unsigned 32 t) 32 in
    let a = get_or table i nan in
    add binary32 a (mul binary32 (sub binary32 (get_or table (min (i + 1) 32) nan) a) (sub binary32 t (of_int binary32 (pos i))))

-- the same, where it does
unfoldable pub bent : Panel → List Float → Float → Option Float
bent p table d = cond (bends p d) (Some (bend table p.bezel d)) None

-- how far from the window's side `from` the pixel v sees along one axis, in 256ths: moved by bent along the normal. What is below zero is held to 0, which gives the same place
unfoldable pub seen : ℕ → ℕ → Float → Float → ℕ
seen from v normal bent =
    min (to_unsigned 32 (mul binary32 (sub binary32 (sub binary32 (centre v) (mul binary32 normal bent)) (of_int binary32 (pos from))) two_fifty_six)) 8388607

-- the colour o at the coverage cov of 255 over the pixel q: at 0 it still clears the top byte
unfoldable pub laid : ℕ → ℕ → ℕ → ℕ
laid cov o q = cond (leb 255 cov) o (mix_pix q o (cov * 256 / 255))
