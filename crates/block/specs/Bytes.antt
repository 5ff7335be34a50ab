-- Numbers in bytes, the low byte first. A byte past the end counts as 0.
use Rattle.std.specs.Prelude.{ℕ, zero, suc, ◌+◌, ◌-◌, ◌*◌, Bool, true, cond, ◌&&◌, List, [], leb, ltb, eqb, ℤ, pos, negsuc, length, get_or, take, drop, Float}
use Rattle.std.specs.Float.{binary32}
use Rattle.std.specs.Float.Ieee.{of_bits}
use Rattle.block.specs.Layout.{at, check}

-- the 512 bytes of a buffer from byte `from` on, where they lie in it whole; else none of them
unfoldable pub placed : List ℕ → ℕ → List ℕ
placed buf from = cond (leb (from + 512) (length buf)) (take 512 (drop from buf)) []

-- block n of a buffer
unfoldable pub block_at : List ℕ → ℕ → List ℕ
block_at buf n = placed buf (512 * n)

abbrev pub byte : List ℕ → ℕ → ℕ
byte b o = get_or b o 0

unfoldable pub u16 : List ℕ → ℕ → ℕ
u16 b o = byte b o + byte b (o + 1) * 0x100

unfoldable pub u32 : List ℕ → ℕ → ℕ
u32 b o = byte b o + byte b (o + 1) * 0x100 + byte b (o + 2) * 0x1_0000 + byte b (o + 3) * 0x100_0000

-- the numbers from 2 ^ 31 on stand for the negative ones, 2 ^ 32 - 1 for -1 (`negsuc k` is -(k + 1))
unfoldable pub signed : ℕ → ℤ
signed n = cond (ltb n 0x8000_0000) (pos n) (negsuc (0xffff_ffff - n))

abbrev pub i32 : List ℕ → ℕ → ℤ
i32 b o = signed (u32 b o)

-- a float by its bits
unfoldable pub f32 : List ℕ → ℕ → Float
f32 b o = of_bits binary32 (u32 b o)

-- the sum over i from 0 to n - 1 of (i + 1) × byte i
unfoldable pub weighed : List ℕ → ℕ → ℕ
weighed b zero = 0
weighed b (suc i) = weighed b i + (i + 1) * byte b i

-- the check is that of the bytes before it
unfoldable pub check_right : List ℕ → Bool
check_right b = eqb (u32 b (at check)) (weighed b (at check))

-- the same sum for a block that begins at byte `from` of a buffer: the weights count from its own first byte
unfoldable pub weighed_at : List ℕ → ℕ → ℕ → ℕ
weighed_at buf from zero = 0
weighed_at buf from (suc i) = weighed_at buf from i + (i + 1) * byte buf (from + i)

-- and its check
unfoldable pub check_right_at : List ℕ → ℕ → Bool
check_right_at buf from = eqb (u32 buf (from + at check)) (weighed_at buf from (at check))

-- f holds of every number below n
unfoldable pub every : ℕ → (ℕ → Bool) → Bool
every zero f = true
every (suc n) f = every n f && f n
