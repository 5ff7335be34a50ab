-- A block reads the same wherever it lies: its numbers, its check, its fields and its refusal are those of its 512 bytes alone.
use mathlib.Core.Path.{◌≡◌, refl, sym, ap, ap₂, ◌∙◌}
use mathlib.Core.List.{List, ◌++◌}
use Prim.Native.Nat.{ℕ, zero, suc, ◌+◌, ◌*◌, ◌≤◌, ◌<◌}
use native.Mathlib.Nat.{add_assoc, zero-add}
use native.Mathlib.Omega.{arith}
use borrow.Author.Tests.{le-leb}
use lib.Dec.{eqb}
use lib.ListN.{length, length-append, get_or-append}
use lib.Seq.{get_or-append-add, drop-append_seam, take_at}
use Rattle.block.specs.Bytes.{placed, block_at, byte, u16, u32, i32, f32, signed, weighed, weighed_at, check_right, check_right_at}
use Rattle.block.specs.Fields as Fields
use Rattle.block.specs.Verdict.{verdict}

-- ---- what a buffer says of the block that begins at byte `from`, beside what the list blk says alone

-- the numbers: one at o has its bytes before the block's end
pub record Numbers (buf : List ℕ) (from : ℕ) (blk : List ℕ) : Type 0 where
  pub bytes : (o : ℕ) → o + 1 ≤ 512 → byte buf (from + o) ≡ byte blk o
  pub u16s : (o : ℕ) → o + 2 ≤ 512 → u16 buf (from + o) ≡ u16 blk o
  pub u32s : (o : ℕ) → o + 4 ≤ 512 → u32 buf (from + o) ≡ u32 blk o
  pub i32s : (o : ℕ) → o + 4 ≤ 512 → i32 buf (from + o) ≡ i32 blk o
  pub f32s : (o : ℕ) → o + 4 ≤ 512 → f32 buf (from + o) ≡ f32 blk o

-- the check
pub record Check (buf : List ℕ) (from : ℕ) (blk : List ℕ) : Type 0 where
  pub sum : (n : ℕ) → n ≤ 508 → weighed_at buf from n ≡ weighed blk n
  pub right : check_right_at buf from ≡ check_right blk

-- the fields
pub record Read (b blk : List ℕ) : Type 0 where
  pub kind : Fields.kind b ≡ Fields.kind blk
  pub flags : Fields.flags b ≡ Fields.flags blk
  pub priority : Fields.priority b ≡ Fields.priority blk
  pub source : Fields.source b ≡ Fields.source blk
  pub x : Fields.x b ≡ Fields.x blk
  pub y : Fields.y b ≡ Fields.y blk
  pub left : Fields.left b ≡ Fields.left blk
  pub top : Fields.top b ≡ Fields.top blk
  pub width : Fields.width b ≡ Fields.width blk
  pub height : Fields.height b ≡ Fields.height blk
  pub border : Fields.border b ≡ Fields.border blk
  pub tag : Fields.tag b ≡ Fields.tag blk
  pub rect : Fields.rect b ≡ Fields.rect blk
  pub radius : Fields.radius b ≡ Fields.radius blk
  pub blur : Fields.blur b ≡ Fields.blur blk
  pub colour : Fields.colour b ≡ Fields.colour blk
  pub saturation : Fields.saturation b ≡ Fields.saturation blk
  pub brightness : Fields.brightness b ≡ Fields.brightness blk
  pub bezel : Fields.bezel b ≡ Fields.bezel blk
  pub spec : Fields.spec b ≡ Fields.spec blk
  pub alpha : Fields.alpha b ≡ Fields.alpha blk
  pub dim : Fields.dim b ≡ Fields.dim blk
  pub float_alpha : Fields.float_alpha b ≡ Fields.float_alpha blk
  pub time : Fields.t b ≡ Fields.t blk
  pub target : Fields.target b ≡ Fields.target blk
  pub stroke_width : Fields.stroke_width b ≡ Fields.stroke_width blk
  pub entries : Fields.entries b ≡ Fields.entries blk
  pub clip : Fields.clip b ≡ Fields.clip blk
  pub paint : Fields.paint_of b ≡ Fields.paint_of blk

-- all of it
pub record Alone (buf : List ℕ) (from : ℕ) (blk : List ℕ) : Type 0 where
  pub numbers : Numbers buf from blk
  pub check : Check buf from blk
  pub whole : placed buf from ≡ blk
  pub fields : Read (placed buf from) blk
  pub refusal : verdict (placed buf from) ≡ verdict blk
  -- whoever takes block n reads these bytes where it begins there
  pub block : (n : ℕ) → from ≡ 512 * n → block_at buf n ≡ blk

-- ---- the parts

-- m bytes that are the same make the same numbers and the same sum
module _ (buf : List ℕ) (from : ℕ) (blk : List ℕ) (m : ℕ) (e : (o : ℕ) → o < m → byte buf (from + o) ≡ byte blk o) where
  on : (o k : ℕ) → o + k < m → byte buf (from + o + k) ≡ byte blk (o + k)
  on o k h = ap (λ (i : ℕ). byte buf i) (add_assoc from o k) ∙ e (o + k) h

  pub u16_same : (o : ℕ) → o + 2 ≤ m → u16 buf (from + o) ≡ u16 blk o
  unfolding u16
  u16_same o h = rw (e o (omega arith), on o 1 (omega arith)) refl

  pub u32_same : (o : ℕ) → o + 4 ≤ m → u32 buf (from + o) ≡ u32 blk o
  unfolding u32
  u32_same o h = rw (e o (omega arith), on o 1 (omega arith), on o 2 (omega arith), on o 3 (omega arith)) refl

  pub i32_same : (o : ℕ) → o + 4 ≤ m → i32 buf (from + o) ≡ i32 blk o
  i32_same o h = ap signed (u32_same o h)

  pub f32_same : (o : ℕ) → o + 4 ≤ m → f32 buf (from + o) ≡ f32 blk o
  unfolding f32
  f32_same o h = rw (u32_same o h) refl

  pub sum_same : (n : ℕ) → n ≤ m → weighed_at buf from n ≡ weighed blk n
  unfolding weighed weighed_at
  sum_same zero h = refl
  sum_same (suc n) h = rw (sum_same n (omega arith), e n (omega arith)) refl

-- two lists that begin with the same m bytes
module _ (a b : List ℕ) (m : ℕ) (e : (o : ℕ) → o < m → byte a o ≡ byte b o) where
  at_front : (o : ℕ) → o < m → byte a (0 + o) ≡ byte b o
  at_front o h = ap (byte a) (zero-add o) ∙ e o h

  pub u16_front : (o : ℕ) → o + 2 ≤ m → u16 a o ≡ u16 b o
  u16_front o h = ap (u16 a) (sym (zero-add o)) ∙ u16_same a 0 b m at_front o h

  pub u32_front : (o : ℕ) → o + 4 ≤ m → u32 a o ≡ u32 b o
  u32_front o h = ap (u32 a) (sym (zero-add o)) ∙ u32_same a 0 b m at_front o h

  pub i32_front : (o : ℕ) → o + 4 ≤ m → i32 a o ≡ i32 b o
  i32_front o h = ap signed (u32_front o h)

  pub f32_front : (o : ℕ) → o + 4 ≤ m → f32 a o ≡ f32 b o
  f32_front o h = ap (f32 a) (sym (zero-add o)) ∙ f32_same a 0 b m at_front o h

  pub sum_front : (n : ℕ) → n ≤ m → weighed a n ≡ weighed b n
  sum_front n h = sym (sum_same a 0 a m (λ o l. ap (byte a) (zero-add o)) n h) ∙ sum_same a 0 b m at_front n h

pub read_same : (b blk : List ℕ) → b ≡ blk → Read b blk
read_same b blk e = rw e (record {
  kind = refl;
  flags = refl;
  priority = refl;
  source = refl;
  x = refl;
  y = refl;
  left = refl;
  top = refl;
  width = refl;
  height = refl;
  border = refl;
  tag = refl;
  rect = refl;
  radius = refl;
  blur = refl;
  colour = refl;
  saturation = refl;
  brightness = refl;
  bezel = refl;
  spec = refl;
  alpha = refl;
  dim = refl;
  float_alpha = refl;
  time = refl;
  target = refl;
  stroke_width = refl;
  entries = refl;
  clip = refl;
  paint = refl;
})

-- ---- the theorem

-- blk stands behind any bytes and before any others
module _ (pre blk post : List ℕ) (long : length blk ≡ 512) where
  byte_in : (o : ℕ) → o < 512 → byte (pre ++ (blk ++ post)) (length pre + o) ≡ byte blk o
  byte_in o h = get_or-append-add pre (blk ++ post) o 0 ∙ get_or-append blk post 0 o (rw long h)

  sum_in : (n : ℕ) → n ≤ 508 → weighed_at (pre ++ (blk ++ post)) (length pre) n ≡ weighed blk n
  sum_in n h = sum_same (pre ++ (blk ++ post)) (length pre) blk 512 byte_in n (omega arith)

  whole_in : placed (pre ++ (blk ++ post)) (length pre) ≡ blk
  unfolding placed
  whole_in =
      let fits : length pre + 512 ≤ length (pre ++ (blk ++ post)) = omega (arith, length-append pre (blk ++ post), length-append blk post, long) in
      rw (le-leb (length pre + 512) (length (pre ++ (blk ++ post))) fits, drop-append_seam pre (blk ++ post)) (take_at blk post 512 long)

  pub alone : Alone (pre ++ (blk ++ post)) (length pre) blk
  unfolding block_at check_right check_right_at
  alone = record {
    numbers = record {
      bytes = λ o h. byte_in o (omega arith);
      u16s = u16_same (pre ++ (blk ++ post)) (length pre) blk 512 byte_in;
      u32s = u32_same (pre ++ (blk ++ post)) (length pre) blk 512 byte_in;
      i32s = i32_same (pre ++ (blk ++ post)) (length pre) blk 512 byte_in;
      f32s = f32_same (pre ++ (blk ++ post)) (length pre) blk 512 byte_in;
    };
    check = record {
      sum = sum_in;
      right = ap₂ eqb (u32_same (pre ++ (blk ++ post)) (length pre) blk 512 byte_in 508 (omega arith)) (sum_in 508 (omega arith));
    };
    whole = whole_in;
    fields = read_same (placed (pre ++ (blk ++ post)) (length pre)) blk whole_in;
    refusal = ap verdict whole_in;
    block = λ n e. rw (← e) whole_in;
  }

-- ---- two buffers, of any lengths, that share the 512 bytes, each at a place of its own, share all that is read of them
pub record Shared (a : List ℕ) (i : ℕ) (b : List ℕ) (j : ℕ) : Type 1 where
  pub bytes : (o : ℕ) → o + 1 ≤ 512 → byte a (i + o) ≡ byte b (j + o)
  pub u16s : (o : ℕ) → o + 2 ≤ 512 → u16 a (i + o) ≡ u16 b (j + o)
  pub u32s : (o : ℕ) → o + 4 ≤ 512 → u32 a (i + o) ≡ u32 b (j + o)
  pub i32s : (o : ℕ) → o + 4 ≤ 512 → i32 a (i + o) ≡ i32 b (j + o)
  pub f32s : (o : ℕ) → o + 4 ≤ 512 → f32 a (i + o) ≡ f32 b (j + o)
  pub sum : (n : ℕ) → n ≤ 508 → weighed_at a i n ≡ weighed_at b j n
  pub right : check_right_at a i ≡ check_right_at b j
  pub fields : Read (placed a i) (placed b j)
  pub refusal : verdict (placed a i) ≡ verdict (placed b j)
  -- and whatever else is made of a block
  pub any : {A : Type 0} (f : List ℕ → A) → f (placed a i) ≡ f (placed b j)

pub share : (pre post pre' post' blk : List ℕ) → length blk ≡ 512 → Shared (pre ++ (blk ++ post)) (length pre) (pre' ++ (blk ++ post')) (length pre')
share pre post pre' post' blk long =
    let l = alone pre blk post long in
    let r = alone pre' blk post' long in
    record {
      bytes = λ o h. l.numbers.bytes o h ∙ sym (r.numbers.bytes o h);
      u16s = λ o h. l.numbers.u16s o h ∙ sym (r.numbers.u16s o h);
      u32s = λ o h. l.numbers.u32s o h ∙ sym (r.numbers.u32s o h);
      i32s = λ o h. l.numbers.i32s o h ∙ sym (r.numbers.i32s o h);
      f32s = λ o h. l.numbers.f32s o h ∙ sym (r.numbers.f32s o h);
      sum = λ n h. l.check.sum n h ∙ sym (r.check.sum n h);
      right = l.check.right ∙ sym r.check.right;
      fields = read_same _ _ (l.whole ∙ sym r.whole);
      refusal = l.refusal ∙ sym r.refusal;
      any = λ f. ap f (l.whole ∙ sym r.whole);
    }
