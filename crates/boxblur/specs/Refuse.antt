-- Cause 14: what a box pass refuses, what it answers and what it leaves.
use Rattle.answer.specs.Answer.{Answer, refused}
use Rattle.std.specs.Prelude.{Bool, ◌&&◌, cond, List, ℕ, ◌+◌, ◌*◌, leb, eqb, length, Ok}
use Rattle.answer.specs.declared.Cause.TheVariants.{Pass}
use Rattle.boxblur.specs.Box.{box_h, box_v}

-- a side is 1 to 4096
abbrev pub is_side : ℕ → Bool
is_side n = leb 1 n && leb n 4096

-- width and height are sides, 2 r + 1 is at most 65536, and both slices, of a and b bytes, have 3 * width * height
unfoldable pub suitable : (a b w h r : ℕ) → Bool
suitable a b w h r =
    is_side w && (is_side h && (leb (2 * r + 1) 65536 && (eqb a (3 * (w * h)) && eqb b (3 * (w * h)))))

-- the answer: `returned` of `answer` gives it 01's number
unfoldable pub passed : (src dst : List ℕ) (w h r : ℕ) → Answer
passed src dst w h r = cond (suitable (length src) (length dst) w h r) (Ok 0) (refused Pass 0)

-- dst afterwards: what the pass makes of src, or what it held where the pass was refused
unfoldable pub after : (made src dst : List ℕ) (w h r : ℕ) → List ℕ
after made src dst w h r = cond (suitable (length src) (length dst) w h r) made dst

abbrev pub after_h : (src dst : List ℕ) (w h r : ℕ) → List ℕ
after_h src dst w h r = after (box_h w h r src) src dst w h r

abbrev pub after_v : (src dst : List ℕ) (w h r : ℕ) → List ℕ
after_v src dst w h r = after (box_v w h r src) src dst w h r
