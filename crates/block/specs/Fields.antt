-- The fields of a block, each at its place of the layout.
use Rattle.std.specs.Prelude.{ℕ, zero, suc, ◌≡◌, ◌+◌, ◌*◌, ◌/◌, ◌%◌, Bool, cond, List, [], ◌∷◌, eqb, ℤ, Float, Option, Some, None, Result, MatchResult}
use Rattle.color.specs.declared.Color.{Color}
use Rattle.geom.specs.declared.Rect.{Rect}
use Rattle.geom.specs.declared.Pt.{Pt}
use Rattle.geom.specs.declared.IRect.{IRect}
use Rattle.fill.specs.declared.Paint.{Paint}
use Rattle.fill.specs.Paint.{of_number}
use Rattle.block.specs.declared.Kind.{Kind}
use Rattle.block.specs.declared.UnknownKind.{UnknownKind}
use Rattle.block.specs.declared.Kind.TheVariants.{Fill, Stroke, Shadow, Glass, Straight, Scaled, Genie, Frame}
use Rattle.block.specs.Bytes.{byte, u16, u32, i32, f32}
use Rattle.block.specs.Layout as Layout
use Rattle.block.specs.Layout.{Field, at}

-- a field of one number, and number i of a field of several
abbrev byte_of : List ℕ → Field → ℕ
byte_of b f = byte b (at f)

abbrev word_of : List ℕ → Field → ℕ
word_of b f = u32 b (at f)

abbrev pub integer : List ℕ → Field → ℕ → ℤ
integer b f i = i32 b (at f + 4 * i)

abbrev pub float : List ℕ → Field → ℕ → Float
float b f i = f32 b (at f + 4 * i)

abbrev pub kind : List ℕ → ℕ
kind b = byte_of b Layout.kind

-- the kind with number k
unfoldable pub kind_of : ℕ → Option Kind
kind_of k =
    cond (eqb k 1) (Some Fill)
    (cond (eqb k 2) (Some Stroke)
    (cond (eqb k 3) (Some Shadow)
    (cond (eqb k 4) (Some Glass)
    (cond (eqb k 5) (Some Straight)
    (cond (eqb k 6) (Some Scaled)
    (cond (eqb k 7) (Some Genie)
    (cond (eqb k 8) (Some Frame) None)))))))

-- the same as std converts it: an error where the number is no kind's
abbrev pub Names : ℕ → Result Kind UnknownKind → Type 0
Names k r = MatchResult r (λ x. kind_of k ≡ Some x) (λ e. kind_of k ≡ None)

abbrev pub flags : List ℕ → ℕ
flags b = byte_of b Layout.flags

-- bit 0 and bit 1 of the flags
abbrev pub first_flag : List ℕ → Bool
first_flag b = eqb (flags b % 2) 1

abbrev pub second_flag : List ℕ → Bool
second_flag b = eqb (flags b / 2 % 2) 1

abbrev pub priority : List ℕ → ℕ
priority b = u16 b (at Layout.priority)

abbrev pub source : List ℕ → ℕ
source b = word_of b Layout.source

abbrev pub x : List ℕ → ℤ
x b = integer b Layout.x 0

abbrev pub y : List ℕ → ℤ
y b = integer b Layout.y 0

-- a frame's x and y, which are never below zero
abbrev pub left : List ℕ → ℕ
left b = word_of b Layout.x

abbrev pub top : List ℕ → ℕ
top b = word_of b Layout.y

abbrev pub width : List ℕ → ℕ
width b = word_of b Layout.width

abbrev pub height : List ℕ → ℕ
height b = word_of b Layout.height

abbrev pub border : List ℕ → ℕ
border b = word_of b Layout.border

abbrev pub tag : List ℕ → ℕ
tag b = byte_of b Layout.tag

-- 0 solid, 1 VGrad, 2 Linear, 3 Radial
abbrev pub paint : List ℕ → ℕ
paint b = byte_of b Layout.paint

unfoldable pub rect : List ℕ → Rect
rect b = record { x = float b Layout.rect 0; y = float b Layout.rect 1; w = float b Layout.rect 2; h = float b Layout.rect 3 }

abbrev pub radius : List ℕ → Float
radius b = float b Layout.radius 0

abbrev pub blur : List ℕ → Float
blur b = float b Layout.blur 0

unfoldable pub color_at : List ℕ → ℕ → Color
color_at b o = record { r = byte b o; g = byte b (o + 1); b = byte b (o + 2); a = byte b (o + 3) }

abbrev pub colour : List ℕ → Color
colour b = color_at b (at Layout.colour)

abbrev pub saturation : List ℕ → Float
saturation b = float b Layout.saturation 0

abbrev pub brightness : List ℕ → Float
brightness b = float b Layout.brightness 0

abbrev pub bezel : List ℕ → Float
bezel b = float b Layout.bezel 0

abbrev pub spec : List ℕ → Float
spec b = float b Layout.spec 0

abbrev pub alpha : List ℕ → ℕ
alpha b = word_of b Layout.alpha

abbrev pub dim : List ℕ → ℕ
dim b = word_of b Layout.dim

abbrev pub float_alpha : List ℕ → Float
float_alpha b = float b Layout.float_alpha 0

abbrev pub t : List ℕ → Float
t b = float b Layout.time 0

abbrev pub target : List ℕ → Pt
target b = record { x = float b Layout.target 0; y = float b Layout.target 1 }

abbrev pub stroke_width : List ℕ → Float
stroke_width b = float b Layout.stroke_width 0

-- entry i of the displacement table, 0 to 32
abbrev pub entry : List ℕ → ℕ → Float
entry b i = float b Layout.table i

-- n floats, from byte o on
unfoldable pub floats : List ℕ → ℕ → ℕ → List Float
floats b o zero = []
floats b o (suc n) = f32 b o ∷ floats b (o + 4) n

-- the table's 33 entries
unfoldable pub entries : List ℕ → List Float
entries b = floats b (at Layout.table) 33

unfoldable pub clip : List ℕ → IRect
clip b = record { x0 = integer b Layout.clip 0; y0 = integer b Layout.clip 1; x1 = integer b Layout.clip 2; y1 = integer b Layout.clip 3 }

abbrev pub second : List ℕ → Color
second b = color_at b (at Layout.second)

-- paint number i, 0 to 3
abbrev pub number : List ℕ → ℕ → Float
number b i = float b (Layout.numbers 4) i

-- the fill's paint
unfoldable pub paint_of : List ℕ → Paint
paint_of b = of_number (paint b) (colour b) (second b) (number b 0) (number b 1) (number b 2) (number b 3)
