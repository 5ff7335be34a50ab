-- Worked examples, by computation: of test 15 from the 508 bytes of a panel that `add` is given, and of a block at three places of a buffer.
use Rattle.std.proofs.Common.{Ok, Err}
use Prim.Native.Nat.{ℕ, zero, suc, ◌+◌}
use mathlib.Core.Path.{◌≡◌, refl}
use mathlib.Core.List.{List, [], ◌∷◌, ◌++◌}
use lib.ListN.{take}
use lib.Ieee.{of_bits, neg, mul, le, lt, eq}
use Rattle.answer.specs.declared.Cause.TheVariants.{Check, Form, Floats, Integers, Bend}
use Rattle.block.specs.Bytes.{placed, u32, signed, f32, weighed, check_right, every}
use Rattle.block.specs.Form.{well_formed, fields, flag_bits, among, used, unused_zero, known, flags_in}
use Rattle.block.specs.Ranges.{within, floats_in, rect_in, radius_in, glass_floats, glass_scalars, table_in, integers_in, between, clip_in, bend_most, table_suits, bend_suits}
use Rattle.block.specs.Verdict.{shape, verdict}
use Rattle.block.proofs.Laws.Written.{Field, field, low, zeros, laid, block_of}

-- a panel with this bezel, this first entry, both by their bits, and this left end of the clip; all else is 0
unfoldable pub panel : ℕ → ℕ → ℕ → List ℕ
panel bezel first left = laid 0 (field 0 1 4 ∷ field 68 4 bezel ∷ field 104 4 first ∷ field 236 4 left ∷ [])

-- n fields from byte o on, each a NaN
unfoldable pub nans : ℕ → ℕ → List Field
nans o zero = []
nans o (suc n) = field o 4 0x7fc0_0000 ∷ nans (o + 4) n

pub record Worked : Type 0 where
  -- the float above 0.5 allows its product, which is rounded up, so that the exact one would refuse it; and not the float above that
  pub just_above_half : (shape (panel 0x3f00_0001 0x3f4c_cccf 0) ≡ Ok tt) × (shape (panel 0x3f00_0001 0x3f4c_ccd0 0) ≡ Err Bend)
  -- a bezel of 12 allows 19.2
  pub twelve : (shape (panel 0x4140_0000 0x4199_999a 0) ≡ Ok tt) × (shape (panel 0x4140_0000 0x4199_999b 0) ≡ Err Bend)
  -- and the widest, 256, allows 409.6
  pub widest : (shape (panel 0x4380_0000 0x43cc_cccd 0) ≡ Ok tt) × (shape (panel 0x4380_0000 0x43cc_ccce 0) ≡ Err Bend)
  -- at a bezel of 0.5 the table is not read, whatever is in it
  pub not_read : shape (laid 0 (field 0 1 4 ∷ field 68 4 0x3f00_0000 ∷ nans 104 33)) ≡ Ok tt
  -- an entry above 1024 and a NaN are 6, a clip too far left is 7, though the table does not suit either
  pub too_large : shape (panel 0x4140_0000 0x4480_0001 0) ≡ Err Floats
  pub no_number : shape (panel 0x4140_0000 0x7fc0_0000 0) ≡ Err Floats
  pub clip_first : shape (panel 0x4140_0000 0x4199_999b 0xffff_bfff) ≡ Err Integers

pub worked : Worked
unfolding shape well_formed known flags_in flag_bits unused_zero used among fields every floats_in rect_in radius_in glass_floats glass_scalars table_in within integers_in clip_in between bend_most table_suits bend_suits u32 signed f32 laid zeros low panel nans le lt eq of_bits mul neg
worked = record {
  just_above_half = (refl, refl);
  twelve = (refl, refl);
  widest = (refl, refl);
  not_read = refl;
  too_large = refl;
  no_number = refl;
  clip_first = refl;
}

-- ---- places

-- a panel that passes, with its check
unfoldable pub pane : List ℕ
pane = block_of (field 0 1 4 ∷ field 68 4 0x4140_0000 ∷ field 104 4 0x4199_999a ∷ [])

-- n bytes FF
unfoldable pub full : ℕ → List ℕ
full zero = []
full (suc n) = 255 ∷ full n

pub record Places : Type 0 where
  -- at 0, at 512 and at 3 it has one verdict, whatever stands about it
  pub first : verdict (placed (pane ++ full 512) 0) ≡ Ok tt
  pub second : verdict (placed (full 512 ++ pane) 512) ≡ Ok tt
  pub odd : verdict (placed (full 3 ++ (pane ++ full 1)) 3) ≡ Ok tt
  -- one byte less, and there is no block; one place on or back, and it is another
  pub cut : (placed (full 3 ++ take 511 pane) 3 ≡ []) × (verdict (placed (full 3 ++ take 511 pane) 3) ≡ Err Form)
  pub one_on : verdict (placed (full 3 ++ (pane ++ full 1)) 4) ≡ Err Check
  pub one_back : verdict (placed (full 3 ++ (pane ++ full 1)) 2) ≡ Err Check

pub places : Places
unfolding verdict check_right weighed placed shape well_formed known flags_in flag_bits unused_zero used among fields every floats_in rect_in radius_in glass_floats glass_scalars table_in within integers_in clip_in between bend_most table_suits bend_suits u32 signed f32 block_of laid zeros low pane full le lt eq of_bits mul neg
places = record {
  first = refl;
  second = refl;
  odd = refl;
  cut = (refl, refl);
  one_on = refl;
  one_back = refl;
}
