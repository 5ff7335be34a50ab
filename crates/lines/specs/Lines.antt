-- 01's twelve lines, "Accepted only if": worked numbers, each said of a definition that the contract of a public function cites.
use Rattle.std.specs.Prelude.{◌≡◌, false, List, [], ◌∷◌, ℕ, ◌*◌, pos}
use Rattle.std.specs.Float.{binary32}
use Rattle.std.specs.Float.Ieee.{of_bits, to_bits, to_signed, to_unsigned}
use Rattle.mathf.specs.Sqrt.{sqrt_of}
use Rattle.color.specs.Color.{mix_pix, blend_pix, dim_pix}
use Rattle.boxblur.specs.Box.{table, box_h, box_v}
use Rattle.frame.specs.Frame.{window_pix}

-- a row of cells with these values, each in all three channels
unfoldable pub grey : List ℕ → List ℕ
grey [] = []
grey (v ∷ vs) = v ∷ v ∷ v ∷ grey vs

-- an image of w by h cells that is c all over
abbrev pub uniform : ℕ → ℕ → ℕ → List ℕ
uniform w h c = table (3 * (w * h)) (λ k. c)

pub record TwelveLines : Type 0 where
  -- mix(AA112233, 0, 0) = 112233
  pub mix_none : mix_pix 0xAA112233 0 0 ≡ 0x112233
  -- mix(0, FFFFFF, 255) = FEFEFE
  pub mix_255 : mix_pix 0 0xFFFFFF 255 ≡ 0xFEFEFE
  -- the same at 128 = 7F7F7F
  pub mix_128 : mix_pix 0 0xFFFFFF 128 ≡ 0x7F7F7F
  -- white blended on 0 at a = 128 = 808080
  pub blend_128 : blend_pix 0 255 255 255 128 ≡ 0x808080
  -- FFFFFF dimmed by 255 = 0
  pub dim_255 : dim_pix 0xFFFFFF 255 ≡ 0
  -- by 128 = 7F7F7F
  pub dim_128 : dim_pix 0xFFFFFF 128 ≡ 0x7F7F7F
  -- row 0, 0, 255 at r = 1 gives 0, 85, 170
  pub row : box_h 3 1 1 (grey (0 ∷ 0 ∷ 255 ∷ [])) ≡ grey (0 ∷ 85 ∷ 170 ∷ [])
  -- uniform 149 at r = 150 stays: on images of every size, along rows and along columns
  pub uniform_149 : (w h : ℕ) → (box_h w h 150 (uniform w h 149) ≡ uniform w h 149) × (box_v w h 150 (uniform w h 149) ≡ uniform w h 149)
  -- 150 gives 149
  pub uniform_150 : (w h : ℕ) → (box_h w h 150 (uniform w h 150) ≡ uniform w h 149) × (box_v w h 150 (uniform w h 150) ≡ uniform w h 149)
  -- frame dark fill on 0 = FF121418: no tint and no x-ray, whatever the tag
  pub dark_fill : (tag : ℕ) → window_pix tag false false 0 ≡ 0xFF121418
  -- −0.5 becomes 0: as an i32 and as a u32
  pub minus_half : (to_signed 31 (of_bits binary32 0xBF00_0000) ≡ pos 0) × (to_unsigned 32 (of_bits binary32 0xBF00_0000) ≡ 0)
  -- root of 2.0 has bits 3FB504F3
  pub root_2 : to_bits binary32 (sqrt_of (of_bits binary32 0x4000_0000)) ≡ 0x3FB5_04F3
