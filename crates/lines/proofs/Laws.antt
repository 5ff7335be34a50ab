-- 01's twelve lines hold.
use mathlib.Core.Path.{◌≡◌, refl, ◌∙◌, ap, ap₂}
use mathlib.Core.List.{◌∷◌}
use Prim.Native.Nat.{ℕ, zero, suc, ◌+◌, ◌*◌, ◌/◌, ◌%◌, ◌<◌}
use native.Mathlib.Nat.{mod-lt, div-lt_iff_lt-mul}
use native.Mathlib.Omega.{arith}
use lib.Ieee.{round, span, climb, size, odd, units, of_fields, of_bits, to_bits, to_signed, to_unsigned}
use Rattle.mathf.specs.Sqrt.{whole_root, nearest_root, sqrt_of}
use Rattle.color.specs.Color.{mix_ch, mix_pix, over_ch, blend_pix, dim_pix}
use Rattle.boxblur.specs.Box.{held, window, mean, row, column, table, byte_h, byte_v, box_h, box_v}
use Rattle.boxblur.proofs.Pass.{table_at, place_inside}
use Rattle.boxblur.proofs.Laws.Reach.{total_below}
use Rattle.boxblur.proofs.Laws.Mean.{row_example, stays_149, falls_150}
use Rattle.frame.proofs.Laws as Frame
use Rattle.lines.specs.Lines.{grey, uniform, TwelveLines}

table_ext : (n : ℕ) (f g : ℕ → ℕ) → ((k : ℕ) → k < n → f k ≡ g k) → table n f ≡ table n g
unfolding table
table_ext zero f g e = refl
table_ext (suc n) f g e = ap₂ ◌∷◌ (e 0 (omega arith)) (table_ext n (λ k. f (suc k)) (λ k. g (suc k)) (λ k l. e (suc k) (omega arith)))

wide_of : (w h k : ℕ) → k < 3 * (w * h) → 0 < w
wide_of zero h k l = absurd (omega (arith, l))
wide_of (suc w) h k l = omega arith

-- a pass over a uniform image, where a window of that value has the mean d
module _ (w h r c d : ℕ) (m : (n x : ℕ) → mean r (window n r (λ i. c) x) ≡ d) where
  module _ (k : ℕ) (l : k < 3 * (w * h)) where
    wide : 0 < w
    wide = wide_of w h k l

    line-h : window w r (row w (uniform w h c) (k / 3 / w) (k % 3)) (k / 3 % w) ≡ window w r (λ i. c) (k / 3 % w)
    unfolding window
    line-h =
        total_below (2 * r + 1) _ _
        (λ j b. table_at (3 * (w * h)) (λ i. c) _ (place_inside w (held w r (k / 3 % w) j) (k / 3 / w) (k % 3) (omega (arith, wide)) (mod-lt k (omega arith)) h ((div-lt_iff_lt-mul wide).1 (omega arith))))

    line-v : window h r (column w (uniform w h c) (k / 3 % w) (k % 3)) (k / 3 / w) ≡ window h r (λ i. c) (k / 3 / w)
    unfolding window
    line-v =
        let y : k / 3 / w < h = (div-lt_iff_lt-mul wide).1 (omega arith) in
        total_below (2 * r + 1) _ _
        (λ j b. table_at (3 * (w * h)) (λ i. c) _ (place_inside w (k / 3 % w) (held h r (k / 3 / w) j) (k % 3) (mod-lt (k / 3) wide) (mod-lt k (omega arith)) h (omega arith)))

  pass_h : box_h w h r (uniform w h c) ≡ uniform w h d
  unfolding byte_h
  pass_h = table_ext (3 * (w * h)) (byte_h w h r (uniform w h c)) (λ k. d) (λ k l. ap (mean r) (line-h k l) ∙ m w (k / 3 % w))

  pass_v : box_v w h r (uniform w h c) ≡ uniform w h d
  unfolding byte_v
  pass_v = table_ext (3 * (w * h)) (byte_v w h r (uniform w h c)) (λ k. d) (λ k l. ap (mean r) (line-v k l) ∙ m h (k / 3 / w))

pub twelve_lines : TwelveLines
unfolding round span climb size odd units of_fields of_bits to_bits to_signed to_unsigned whole_root nearest_root sqrt_of grey mix_ch mix_pix over_ch blend_pix dim_pix
twelve_lines =
    record {
      mix_none = refl;
      mix_255 = refl;
      mix_128 = refl;
      blend_128 = refl;
      dim_255 = refl;
      dim_128 = refl;
      row = row_example;
      uniform_149 = λ w h. (pass_h w h 150 149 149 stays_149, pass_v w h 150 149 149 stays_149);
      uniform_150 = λ w h. (pass_h w h 150 150 149 falls_150, pass_v w h 150 150 149 falls_150);
      dark_fill = Frame.dark_fill;
      minus_half = (refl, refl);
      root_2 = refl;
    }
