-- Two lists whose first 508 bytes are the same pass or fail the tests 5 to 7 and 15 alike, and have the same check.
use mathlib.Core.Path.{◌≡◌, refl, ap, ap₂}
use mathlib.Core.Bool.{Bool, ◌||◌}
use mathlib.Core.List.{List}
use Prim.Native.Nat.{ℕ, zero, suc, ◌+◌, ◌*◌, ◌≤◌, ◌<◌}
use native.Mathlib.Nat.{mul-le-mul_right}
use native.Mathlib.Omega.{arith}
use lib.Dec.{eqb}
use lib.Ieee.{le}
use Rattle.block.specs.Bytes.{byte, u32, i32, f32, weighed, every}
use Rattle.block.specs.Fields.{priority, entry}
use Rattle.block.specs.Form.{used, unused_zero, well_formed}
use Rattle.block.specs.Ranges.{within, f1024, rect_in, radius_in, numbers_in, table_in, fill_floats, stroke_floats, shadow_floats, glass_scalars, glass_floats, scaled_floats, genie_floats, floats_in, clip_in, straight_integers, frame_integers, integers_in, bend_most, table_suits, bend_suits}
use Rattle.block.specs.Verdict.{shape}
use Rattle.block.proofs.Laws.Alone.{u16_front, u32_front, i32_front, f32_front, sum_front}
use Rattle.mathf.specs.Real as Real

every_alike : (f g : ℕ → Bool) (n : ℕ) → ((i : ℕ) → i < n → f i ≡ g i) → every n f ≡ every n g
unfolding every
every_alike f g zero h = refl
every_alike f g (suc n) h = rw (every_alike f g n (λ i l. h i (omega arith)), h n (omega arith)) refl

module _ (a b : List ℕ) (e : (o : ℕ) → o < 508 → byte a o ≡ byte b o) where
  u32_at : (o : ℕ) → o + 4 ≤ 508 → u32 a o ≡ u32 b o
  u32_at = u32_front a b 508 e

  f32_at : (o : ℕ) → o + 4 ≤ 508 → f32 a o ≡ f32 b o
  f32_at = f32_front a b 508 e

  i32_at : (o : ℕ) → o + 4 ≤ 508 → i32 a o ≡ i32 b o
  i32_at = i32_front a b 508 e

  pub priority_same : priority a ≡ priority b
  priority_same = u16_front a b 508 e 2 (omega arith)

  rect_in_same : rect_in a ≡ rect_in b
  unfolding rect_in
  rect_in_same = rw (f32_at 32 (omega arith), f32_at 36 (omega arith), f32_at 40 (omega arith), f32_at 44 (omega arith)) refl

  radius_in_same : radius_in a ≡ radius_in b
  unfolding radius_in
  radius_in_same = rw (f32_at 48 (omega arith)) refl

  numbers_in_same : (p : ℕ) → numbers_in p a ≡ numbers_in p b
  unfolding numbers_in
  numbers_in_same p = rw (f32_at 256 (omega arith), f32_at 260 (omega arith), f32_at 264 (omega arith), f32_at 268 (omega arith)) refl

  table_in_same : table_in a ≡ table_in b
  unfolding table_in
  table_in_same = rw (every_alike (λ i. within Real.zero f1024 (entry a i)) (λ i. within Real.zero f1024 (entry b i)) 33 (λ i h. ap (within Real.zero f1024) (f32_at (104 + 4 * i) (omega arith))), f32_at 232 (omega arith)) refl

  fill_floats_same : fill_floats a ≡ fill_floats b
  unfolding fill_floats
  fill_floats_same = rw (rect_in_same, radius_in_same, numbers_in_same, e 29 (omega arith)) refl

  stroke_floats_same : stroke_floats a ≡ stroke_floats b
  unfolding stroke_floats
  stroke_floats_same = rw (rect_in_same, radius_in_same, f32_at 100 (omega arith)) refl

  shadow_floats_same : shadow_floats a ≡ shadow_floats b
  unfolding shadow_floats
  shadow_floats_same = rw (rect_in_same, radius_in_same, f32_at 52 (omega arith)) refl

  glass_scalars_same : glass_scalars a ≡ glass_scalars b
  unfolding glass_scalars
  glass_scalars_same = rw (rect_in_same, radius_in_same, f32_at 52 (omega arith), f32_at 60 (omega arith), f32_at 64 (omega arith), f32_at 68 (omega arith), f32_at 72 (omega arith)) refl

  glass_floats_same : glass_floats a ≡ glass_floats b
  unfolding glass_floats
  glass_floats_same = rw (glass_scalars_same, table_in_same, f32_at 68 (omega arith)) refl

  scaled_floats_same : scaled_floats a ≡ scaled_floats b
  unfolding scaled_floats
  scaled_floats_same = rw (rect_in_same, radius_in_same, f32_at 84 (omega arith)) refl

  genie_floats_same : genie_floats a ≡ genie_floats b
  unfolding genie_floats
  genie_floats_same = rw (rect_in_same, f32_at 92 (omega arith), f32_at 96 (omega arith), f32_at 88 (omega arith), f32_at 84 (omega arith)) refl

  floats_in_same : floats_in a ≡ floats_in b
  unfolding floats_in
  floats_in_same = rw (fill_floats_same, stroke_floats_same, shadow_floats_same, glass_floats_same, radius_in_same, scaled_floats_same, genie_floats_same, e 0 (omega arith)) refl

  clip_in_same : clip_in a ≡ clip_in b
  unfolding clip_in
  clip_in_same = rw (i32_at 236 (omega arith), i32_at 240 (omega arith), i32_at 244 (omega arith), i32_at 248 (omega arith)) refl

  straight_integers_same : straight_integers a ≡ straight_integers b
  unfolding straight_integers
  straight_integers_same = rw (i32_at 8 (omega arith), i32_at 12 (omega arith), u32_at 76 (omega arith), u32_at 80 (omega arith)) refl

  frame_integers_same : frame_integers a ≡ frame_integers b
  unfolding frame_integers
  frame_integers_same = rw (i32_at 8 (omega arith), i32_at 12 (omega arith), u32_at 16 (omega arith), u32_at 20 (omega arith), u32_at 24 (omega arith)) refl

  integers_in_same : integers_in a ≡ integers_in b
  unfolding integers_in
  integers_in_same = rw (clip_in_same, straight_integers_same, frame_integers_same, e 0 (omega arith)) refl

  bend_most_same : bend_most a ≡ bend_most b
  unfolding bend_most
  bend_most_same = rw (f32_at 68 (omega arith)) refl

  table_suits_same : table_suits a ≡ table_suits b
  unfolding table_suits
  table_suits_same =
      every_alike (λ i. le (entry a i) (bend_most a)) (λ i. le (entry b i) (bend_most b)) 33 (λ i h. ap₂ le (f32_at (104 + 4 * i) (omega arith)) bend_most_same)

  bend_suits_same : bend_suits a ≡ bend_suits b
  unfolding bend_suits
  bend_suits_same = rw (table_suits_same, f32_at 68 (omega arith), e 0 (omega arith)) refl

  unused_zero_same : (k p : ℕ) → unused_zero k p a ≡ unused_zero k p b
  unfolding unused_zero
  unused_zero_same k p =
      every_alike (λ o. used k p o || eqb (byte a o) 0) (λ o. used k p o || eqb (byte b o) 0) 508 (λ o h. ap (λ (v : ℕ). used k p o || eqb v 0) (e o h))

  well_formed_same : well_formed a ≡ well_formed b
  unfolding well_formed
  well_formed_same = rw (unused_zero_same, e 0 (omega arith), e 1 (omega arith), e 28 (omega arith), e 29 (omega arith)) refl

  pub shape_same : shape a ≡ shape b
  unfolding shape
  shape_same = rw (well_formed_same, floats_in_same, integers_in_same, bend_suits_same) refl

  pub weighed_same : (n : ℕ) → n ≤ 508 → weighed a n ≡ weighed b n
  weighed_same = sum_front a b 508 e

-- a check is small enough for its four bytes
pub weighed_below : (b : List ℕ) → ((o : ℕ) → byte b o < 256) → (n : ℕ) → n ≤ 508 → weighed b n ≤ 129540 * n
unfolding weighed
weighed_below b s zero h = omega arith
weighed_below b s (suc n) h =
    let l : (n + 1) * byte b n ≤ 508 * byte b n = mul-le-mul_right (byte b n) (omega arith) in
    omega (arith, weighed_below b s n (omega arith), s n)
