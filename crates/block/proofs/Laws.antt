-- What crates above cite of blocks: the tests of one, blocks by their fields, that a block reads the same wherever it lies, and that the part of a
-- buffer that is lent for block n is that block.
pub mod Kinds
pub mod Signed
pub mod Tests
pub mod Written
pub mod Alone
pub mod Examples
use mathlib.Core.Path.{◌≡◌, refl, sym, ap, ◌∙◌}
use mathlib.Core.Bool.{cond}
use mathlib.Core.List.{List, []}
use Prim.Native.Nat.{ℕ, ◌+◌, ◌-◌, ◌*◌, ◌/◌, ◌≤◌, ◌<◌}
use native.Mathlib.Decide.{dec_lt}
use native.Mathlib.Omega.{arith}
use borrow.Author.Tests.{le-leb, lt-leb, lt-ltb, le-ltb}
use lib.Dec.{ltb}
use lib.ListN.{length, get_or, take, drop, length-take, length-drop, get_or-eq_default}
use lib.Seq.{length-take-le, ext_get_or, get_or-take, get_or-drop}
use Rattle.block.specs.Bytes.{byte, u16, placed, block_at}
use Rattle.block.specs.Fields.{priority}

-- parts with the same bytes
pub part_same : (a b : List ℕ) (j i k : ℕ) → j + k ≤ length a → i + k ≤ length b → ((o : ℕ) → o < k → get_or a (j + o) 0 ≡ get_or b (i + o) 0) → take k (drop j a) ≡ take k (drop i b)
part_same a b j i k h l e =
    let m : length (take k (drop j a)) ≡ k = length-take-le k (drop j a) (rw (length-drop j a) (omega arith)) in
    let n : length (take k (drop i b)) ≡ k = length-take-le k (drop i b) (rw (length-drop i b) (omega arith)) in
    ext_get_or 0 (take k (drop j a)) (take k (drop i b)) (m ∙ sym n)
    (λ o q. let r : o < k = omega (arith, m) in
    get_or-take k (drop j a) o 0 r ∙ get_or-drop j a o 0 ∙ e o r ∙ sym (get_or-take k (drop i b) o 0 r ∙ get_or-drop i b o 0))

-- the 512 bytes from a byte on, where they lie in the buffer whole
module _ (buf : List ℕ) (from : ℕ) (h : from + 512 ≤ length buf) where
  pub placed_is : placed buf from ≡ take 512 (drop from buf)
  unfolding placed
  placed_is = rw (le-leb (from + 512) (length buf) h)

  -- as they are lent
  pub placed_lent : take (from + 512 - from) (drop from buf) ≡ placed buf from
  placed_lent = let e : from + 512 - from ≡ 512 = omega arith in rw e (sym placed_is)

  pub placed_long : length (placed buf from) ≡ 512
  placed_long = ap length placed_is ∙ length-take-le 512 (drop from buf) (rw (length-drop from buf) (omega arith))

-- and where they do not
pub placed_none : (buf : List ℕ) (from : ℕ) → length buf < from + 512 → placed buf from ≡ []
unfolding placed
placed_none buf from h = rw (lt-leb (from + 512) (length buf) h)

-- they hang on no byte behind them
pub placed_take : (buf : List ℕ) (from n : ℕ) → from + 512 ≤ n → placed (take n buf) from ≡ placed buf from
placed_take buf from n h = elim (dec_lt (length buf) (from + 512)) [
  | yes l ↦ placed_none (take n buf) from (omega (arith, length-take n buf)) ∙ sym (placed_none buf from l)
  | no l ↦
      let g : from + 512 ≤ length (take n buf) = omega (arith, length-take n buf) in
      let f : from + 512 ≤ length buf = omega arith in
      placed_is (take n buf) from g ∙ part_same (take n buf) buf from from 512 g f (λ o q. get_or-take n buf (from + o) 0 (omega arith)) ∙ sym (placed_is buf from f)
]

module _ (buf : List ℕ) (n : ℕ) (h : n < length buf / 512) where
  pub block_is : take (512 * n + 512 - 512 * n) (drop (512 * n) buf) ≡ block_at buf n
  unfolding block_at
  block_is = placed_lent buf (512 * n) (omega arith)

  pub block_long : length (block_at buf n) ≡ 512
  unfolding block_at
  block_long = placed_long buf (512 * n) (omega arith)

pub block_none : (buf : List ℕ) (n : ℕ) → length buf / 512 ≤ n → block_at buf n ≡ []
unfolding block_at
block_none buf n h = placed_none buf (512 * n) (omega arith)

-- where all of a buffer's numbers are bytes, so are a block's, and its priority is below 65536
module _ (buf : List ℕ) (small : (o : ℕ) → byte buf o < 256) (n : ℕ) where
  pub block_small : (o : ℕ) → byte (block_at buf n) o < 256
  unfolding block_at
  block_small o = elim (dec_lt (length buf) (512 * n + 512)) [
    | yes l ↦ rw (placed_none buf (512 * n) l) (omega arith)
    | no l ↦ elim (dec_lt o 512) [
      | yes m ↦ rw (placed_is buf (512 * n) (omega arith), get_or-take 512 (drop (512 * n) buf) o 0 m, get_or-drop (512 * n) buf o 0) (small (512 * n + o))
      | no m ↦ rw (get_or-eq_default (block_at buf n) 0 {n = o} (omega (arith, placed_long buf (512 * n) (omega arith)))) (omega arith)
    ]
  ]

  pub priority_small : priority (block_at buf n) < 65536
  unfolding u16
  priority_small = omega (arith, block_small 2, block_small 3)

-- block n as it was defined before there were places: the same bytes
pub block_as_before : (buf : List ℕ) (n : ℕ) → block_at buf n ≡ cond (ltb n (length buf / 512)) (take 512 (drop (512 * n) buf)) []
unfolding block_at
block_as_before buf n = elim (dec_lt n (length buf / 512)) [
  | yes l ↦ rw (lt-ltb n (length buf / 512) l) (placed_is buf (512 * n) (omega arith))
  | no l ↦ rw (le-ltb n (length buf / 512) (omega arith)) (placed_none buf (512 * n) (omega arith))
]
