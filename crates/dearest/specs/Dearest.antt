-- The dearest panel: of all glass layers with one blur one that needs the most scratch on a canvas of w by h, as a finished block, and its need.
use Rattle.answer.specs.Answer.{Answer, refused}
use Rattle.std.specs.Prelude.{ℕ, ◌+◌, ◌*◌, cond, List, [], ◌∷◌, ◌++◌, take, drop, replicate, Float, Ok}
use Rattle.std.specs.Float.{binary32}
use Rattle.std.specs.Float.Ieee.{to_bits}
use Rattle.mathf.specs.Real.{zero}
use Rattle.backdrop.specs.Window.{scale_of, cells}
use Rattle.block.specs.Layout as Layout
use Rattle.block.specs.Layout.{Field, at}
use Rattle.block.specs.Ranges.{within, f64}
use Rattle.rundown.specs.Kept.{bytes_of, sealed}
use Rattle.answer.specs.declared.Cause.TheVariants.{Floats}
use Rattle.answer.specs.Tests.{unless}
use Rattle.accept.specs.Tests.{canvas_test}
use Rattle.forecast.specs.Forecast.{leaves}

-- ---- the need

-- the bytes of each scratch slice: three for each cell, where the window is the whole canvas
unfoldable pub dearest_need : ℕ → ℕ → Float → ℕ
dearest_need w h blur = let k = scale_of blur in 3 * (cells w k * cells h k)

-- ---- the block shown

-- b with v as number i of the field f, by its four bytes
unfoldable pub put : Field → ℕ → ℕ → List ℕ → List ℕ
put f i v b = let o = at f + 4 * i in take o b ++ (bytes_of v ++ drop (o + 4) b)

-- 4096.0 and 1.0 by their bits
abbrev pub f4096 : ℕ
f4096 = 0x4580_0000

abbrev pub f1 : ℕ
f1 = 0x3f80_0000

-- kind 4, glass; from column and row 0 on the rect and the clip are as large as a canvas may be; the rest is 0, the bezel and the priority among it
unfoldable pub dearest_body : Float → List ℕ
dearest_body blur =
    put Layout.rect 2 f4096
    (put Layout.rect 3 f4096
    (put Layout.blur 0 (to_bits binary32 blur)
    (put Layout.saturation 0 f1
    (put Layout.clip 2 4096
    (put Layout.clip 3 4096
    (4 ∷ replicate 507 0))))))

-- with its check
unfoldable pub dearest_block : Float → List ℕ
dearest_block blur = sealed (dearest_body blur)

-- ---- the answer

-- 6: the blur of a panel is 0 to 64
unfoldable pub blur_test : Float → Answer
blur_test blur = cond (within zero f64 blur) (Ok 0) (refused Floats 0)

-- 1, then 6; the value is the need
unfoldable pub dearest_answer : ℕ → ℕ → Float → Answer
dearest_answer w h blur = unless (canvas_test w h (w * h) ∷ blur_test blur ∷ []) (dearest_need w h blur)

-- the 512 bytes lent for the block: as they were after a refusal
unfoldable pub block_after : ℕ → ℕ → Float → List ℕ → List ℕ
block_after w h blur old = leaves (dearest_answer w h blur) (dearest_block blur) old
