-- 01's list of offsets: where each field of a block stands.
use Rattle.std.specs.Prelude.{ℕ, ◌*◌}

-- `numbers n` is the first n of the paint numbers
pub data Field : Type 0 where
  kind flags priority source x y width height border tag paint rect radius blur colour saturation brightness bezel spec alpha dim float_alpha time target stroke_width table clip second check : Field
  numbers : ℕ → Field

-- a field's offset, and its size in bytes
abbrev pub span : Field → ℕ × ℕ
span kind = (0, 1)
span flags = (1, 1)
span priority = (2, 2)
span source = (4, 4)
span x = (8, 4)
span y = (12, 4)
span width = (16, 4)
span height = (20, 4)
span border = (24, 4)
span tag = (28, 1)
span paint = (29, 1)
span rect = (32, 16)
span radius = (48, 4)
span blur = (52, 4)
span colour = (56, 4)
span saturation = (60, 4)
span brightness = (64, 4)
span bezel = (68, 4)
span spec = (72, 4)
span alpha = (76, 4)
span dim = (80, 4)
span float_alpha = (84, 4)
span time = (88, 4)
span target = (92, 8)
span stroke_width = (100, 4)
span table = (104, 132)
span clip = (236, 16)
span second = (252, 4)
span (numbers n) = (256, 4 * n)
span check = (508, 4)

abbrev pub at : Field → ℕ
at f = (span f).0
