-- How numbers that come in are taken as a colour and as a paint.
use Rattle.std.specs.Prelude.{ℕ, ◌/◌, ◌%◌, Float}
use Rattle.color.specs.declared.Color.{Color}
use Rattle.fill.specs.declared.Paint.{Paint}
use Rattle.fill.specs.Paint.{of_number}

-- a colour from its word: alpha in the top byte, then red, green, blue
unfoldable pub color_of : ℕ → Color
color_of v = record { r = v / 0x1_0000 % 256; g = v / 0x100 % 256; b = v % 256; a = v / 0x100_0000 }

-- a paint from its kind, its two colours and its numbers: 1 down the rows from n0 to n1, 2 along the line from (n0, n1) to (n2, n3), 3 out from the centre (n0, n1) to the radius n2; every other kind is the first colour alone
unfoldable pub paint_of : (kind c0 c1 : ℕ) (n0 n1 n2 n3 : Float) → Paint
paint_of kind c0 c1 n0 n1 n2 n3 = of_number kind (color_of c0) (color_of c1) n0 n1 n2 n3
