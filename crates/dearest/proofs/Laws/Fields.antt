-- The block shown, read field by field, and that it passes its tests. Its first 508 bytes decide: t stands for any behind them.
use Rattle.std.proofs.Common.{Ok}
use Prim.Native.Nat.{ℕ, zero, suc, ◌+◌, ◌-◌, ◌*◌, ◌<◌}
use mathlib.Core.Path.{◌≡◌, refl, ap, ◌∙◌}
use mathlib.Core.Bool.{true, false}
use mathlib.Core.List.{List, [], ◌∷◌, ◌++◌, append-nil}
use native.Mathlib.Decide.{dec_lt}
use native.Mathlib.Omega.{arith}
use lib.Dec.{T}
use lib.ListN.{length, take, drop, replicate, length-take, get_or-replicate, get_or-append, get_or-eq_default}
use lib.Seq.{get_or-append-add, get_or-take, get_or-drop}
use lib.Ieee.{Float, binary32, fits, of_bits, to_bits, neg, le, lt, eq}
use lib.Ieee.Bits.{of_bits-to_bits, to_bits-lt}
use Rattle.mathf.specs.Real as Real
use Rattle.geom.specs.declared.Rect.{Rect}
use Rattle.geom.proofs.Laws.{box}
use Rattle.block.specs.Bytes.{byte, u32, signed, f32, weighed, every}
use Rattle.block.specs.Layout.{Field, at}
use Rattle.block.specs.Fields as Fields
use Rattle.block.specs.Form.{well_formed, fields, flag_bits, among, used, unused_zero, known, flags_in}
use Rattle.block.specs.Ranges.{within, f8, f64, f256, minus1, floats_in, rect_in, radius_in, glass_floats, glass_scalars, integers_in, between, clip_in, bend_suits}
use Rattle.block.specs.Verdict.{shape, verdict}
use Rattle.rundown.specs.Kept.{bytes_of, sealed}
use Rattle.rundown.proofs.Laws.Sealed.{byte_by_byte, sealed_long, sealed_passes}
use Rattle.dearest.specs.Dearest.{put, f4096, dearest_body, dearest_block}

-- ---- bytes

record Small (b : List ℕ) : Type 0 where
  small : (o : ℕ) → byte b o < 256

small_append : {a b : List ℕ} → Small a → Small b → Small (a ++ b)
small_append {a} {b} f g = record {
  small = λ o. elim (dec_lt o (length a)) [
    | yes h ↦ rw (get_or-append a b 0 o h) (f.small o)
    | no h ↦
        let e : o ≡ length a + (o - length a) = omega arith in
        rw (ap (λ (i : ℕ). byte (a ++ b) i) e ∙ get_or-append-add a b (o - length a) 0) (g.small (o - length a))
  ];
}

small_take : (n : ℕ) {b : List ℕ} → Small b → Small (take n b)
small_take n {b} f = record {
  small = λ o. elim (dec_lt o n) [
    | yes h ↦ rw (get_or-take n b o 0 h) (f.small o)
    | no h ↦ rw (get_or-eq_default (take n b) 0 {n = o} (omega (arith, length-take n b))) (omega arith)
  ];
}

small_drop : (n : ℕ) {b : List ℕ} → Small b → Small (drop n b)
small_drop n {b} f = record { small = λ o. rw (get_or-drop n b o 0) (f.small (n + o)) }

four_below : (v o : ℕ) → byte (bytes_of v) o < 256
unfolding bytes_of
four_below v zero = omega arith
four_below v (suc zero) = omega arith
four_below v (suc (suc zero)) = omega arith
four_below v (suc (suc (suc zero))) = omega arith
four_below v (suc (suc (suc (suc o)))) = omega arith

small_four : (v : ℕ) → Small (bytes_of v)
small_four v = record { small = four_below v }

put_small : (f : Field) (i v : ℕ) {b : List ℕ} → Small b → Small (put f i v b)
unfolding put
put_small f i v b = let o = at f + 4 * i in small_append (small_take o b) (small_append (small_four v) (small_drop (o + 4) b))

start_below : (o : ℕ) → byte (4 ∷ replicate 507 0) o < 256
start_below zero = omega arith
start_below (suc o) = elim (dec_lt o 507) [
  | yes h ↦ rw (get_or-replicate {A = ℕ} 507 o 0 0 h) (omega arith)
  | no h ↦ rw (get_or-eq_default {A = ℕ} (replicate 507 0) 0 {n = o} (omega arith)) (omega arith)
]

module _ (blur : Float) where
  body_small : Small (dearest_body blur)
  unfolding dearest_body
  body_small = put_small _ _ _ (put_small _ _ _ (put_small _ _ _ (put_small _ _ _ (put_small _ _ _ (put_small _ _ _ (record { small = start_below }))))))

  body_long : length (dearest_body blur) ≡ 508
  unfolding dearest_body put bytes_of
  body_long = refl

-- ---- fields

-- the rect
abbrev pub widest : Rect
widest = record { x = Real.zero; y = Real.zero; w = of_bits binary32 f4096; h = of_bits binary32 f4096 }

module _ (blur : Float) (t : List ℕ) where
  -- the bytes shown, and any others
  abbrev shown : List ℕ
  shown = dearest_body blur ++ t

  kind_is : Fields.kind shown ≡ 4
  unfolding dearest_body put bytes_of
  kind_is = refl

  clip_is : Fields.clip shown ≡ box 0 0 4096 4096
  unfolding dearest_body put bytes_of Fields.clip u32 signed
  clip_is = refl

  rect_is : Fields.rect shown ≡ widest
  unfolding dearest_body put bytes_of Fields.rect u32 f32
  rect_is = refl

  -- the blur's own bits
  bits_are : T (fits binary32 blur) → u32 shown 52 ≡ to_bits binary32 blur
  unfolding dearest_body put bytes_of u32
  bits_are f = byte_by_byte (to_bits binary32 blur) (to_bits-lt binary32 blur f)

  blur_is : T (fits binary32 blur) → Fields.blur shown ≡ blur
  unfolding f32
  blur_is f = ap (of_bits binary32) (bits_are f) ∙ of_bits-to_bits binary32 blur f

  -- ---- the tests 5, 6, 7 and 15

  formed : well_formed shown ≡ true
  unfolding dearest_body put bytes_of well_formed known flags_in flag_bits unused_zero used among fields every
  formed = refl

  -- the other floats, and the table is not read
  others : (rect_in shown ≡ true) × (radius_in shown ≡ true) × (within Real.zero f8 (Fields.saturation shown) ≡ true) × (within minus1 Real.one (Fields.brightness shown) ≡ true)
      × (within Real.zero f256 (Fields.bezel shown) ≡ true) × (within Real.zero Real.one (Fields.spec shown) ≡ true) × (lt Real.point_five (Fields.bezel shown) ≡ false)
  unfolding dearest_body put bytes_of rect_in radius_in within u32 f32 of_bits neg le lt eq
  others = (refl, refl, refl, refl, refl, refl, refl)

  floats_in_lem : T (fits binary32 blur) → within Real.zero f64 blur ≡ true → floats_in shown ≡ true
  unfolding floats_in glass_floats glass_scalars
  floats_in_lem f e =
      let o = others in
      rw (kind_is, o.6, o.0, o.1, blur_is f, e, o.2, o.3, o.4, o.5) refl

  integers_in_lem : integers_in shown ≡ true
  unfolding dearest_body put bytes_of integers_in clip_in between u32 signed
  integers_in_lem = refl

  suits : bend_suits shown ≡ true
  unfolding bend_suits
  suits = rw (kind_is, others.6) refl

  shape_passes : T (fits binary32 blur) → within Real.zero f64 blur ≡ true → shape shown ≡ Ok tt
  unfolding shape
  shape_passes f e = rw (formed, floats_in_lem f e, integers_in_lem, suits) refl

-- ---- the block, with its check

module _ (blur : Float) where
  check : List ℕ
  check = bytes_of (weighed (dearest_body blur) 508)

  pub block_long : length (dearest_block blur) ≡ 512
  unfolding dearest_block
  block_long = sealed_long (dearest_body blur) (body_long blur)

  pub block_kind : Fields.kind (dearest_block blur) ≡ 4
  unfolding dearest_block sealed check
  block_kind = kind_is blur check

  pub block_clip : Fields.clip (dearest_block blur) ≡ box 0 0 4096 4096
  unfolding dearest_block sealed check
  block_clip = clip_is blur check

  pub block_rect : Fields.rect (dearest_block blur) ≡ widest
  unfolding dearest_block sealed check
  block_rect = rect_is blur check

  pub block_blur : T (fits binary32 blur) → Fields.blur (dearest_block blur) ≡ blur
  unfolding dearest_block sealed check
  block_blur f = blur_is blur check f

  pub block_passes : T (fits binary32 blur) → within Real.zero f64 blur ≡ true → verdict (dearest_block blur) ≡ Ok tt
  unfolding dearest_block
  block_passes f e =
      sealed_passes (dearest_body blur) (body_long blur) (body_small blur).small
      (rw (append-nil (dearest_body blur)) at (shape_passes blur [] f e))
