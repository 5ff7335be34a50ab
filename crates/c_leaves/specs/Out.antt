-- How a struct comes out as numbers, for the callers in Rust.
use Rattle.std.specs.Prelude.{cond, ℕ, ◌+◌, ◌*◌, eqb, ℤ, Float}
use Rattle.color.specs.declared.Color.{Color}
use Rattle.geom.specs.declared.Rect.{Rect}
use Rattle.geom.specs.declared.IRect.{IRect}

-- a colour: its alpha in the top byte, then red, green, blue
abbrev pub word : Color → ℕ
word c = c.a * 0x100_0000 + c.r * 0x1_0000 + c.g * 0x100 + c.b

-- one of four by its place: the last for every place from 3 on
abbrev pub pick : {A : Type 0} (i : ℕ) (a b c d : A) → A
pick i a b c d = cond (eqb i 0) a (cond (eqb i 1) b (cond (eqb i 2) c d))

-- a field of a rectangle by its place
unfoldable pub rect_field : ℕ → Rect → Float
rect_field i r = pick i r.x r.y r.w r.h

unfoldable pub irect_field : ℕ → IRect → ℤ
irect_field i r = pick i r.x0 r.y0 r.x1 r.y1
