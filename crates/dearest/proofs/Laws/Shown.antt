-- The block shown: a glass layer with the blur given, bit for bit, that passes its tests, and needs as much as is said. Its window and its box are the whole canvas.
use Rattle.std.proofs.Common.{Ok}
use Prim.Native.Nat.{ℕ, zero, suc, ◌-◌, ◌*◌, ◌≤◌, max}
use mathlib.Core.Path.{◌≡◌, refl, sym, ap, ◌∙◌}
use mathlib.Core.Bool.{Bool, true, false, cond, ◌||◌}
use mathlib.Core.List.{List}
use native.Mathlib.Nat.{mul-le-mul}
use native.Mathlib.Omega.{arith}
use borrow.Author.Tests.{lt-leb}
use lib.Dec.{T, leb}
use lib.IntN.{pos, negsuc, ◌-ℤ◌}
use lib.ListN.{length}
use lib.Ieee.{Float, binary32, fits, of_bits, add, lt, le, to_signed}
use Rattle.mathf.specs.Real as Real
use Rattle.mathf.specs.Round.{floor_of, ceil_of}
use Rattle.geom.specs.declared.IRect.{IRect}
use Rattle.geom.specs.Geom.{two, canvas, intersect, is_empty, outer_pixels}
use Rattle.geom.proofs.Laws.{both_true, box, low, clip, cut_sides}
use Rattle.canvas.specs.Canvas.{is_canvas, box_on}
use Rattle.canvas.proofs.Laws.Area.{IsCanvas, canvas_is}
use Rattle.backdrop.specs.declared.GlassStyle.{GlassStyle}
use Rattle.backdrop.specs.Window.{grown, window_of, area_of, window_area, scale_of, cells, picture_bytes, glass_box, need_of}
use Rattle.backdrop.proofs.Laws.Window.{scale_is, cells_some}
use Rattle.glass.proofs.Signs.{margin_out}
use Rattle.block.specs.Bytes.{f32}
use Rattle.block.specs.Fields as Fields
use Rattle.block.specs.Ranges.{within, f64}
use Rattle.block.specs.Verdict.{verdict}
use Rattle.layer.specs.Layer.{style_of, needed}
use Rattle.layer.proofs.Laws.Tests.{not_below}
use Rattle.layer.proofs.ByKind.{need_glass}
use Rattle.dearest.specs.Dearest.{dearest_need, dearest_block, block_after}
use Rattle.dearest.proofs.Answers.{answers, block_shown}
use Rattle.dearest.proofs.Laws.Fields.{widest, block_long, block_kind, block_clip, block_rect, block_blur, block_passes}

-- ---- the whole canvas

-- what covers the canvas is cut to it
covering : (w h : ℕ) (r : IRect) → low r.x0 ≡ 0 → low r.y0 ≡ 0 → clip r.x1 w ≡ w → clip r.y1 h ≡ h → intersect r (canvas w h) ≡ canvas w h
covering w h r a b c d =
    let e : (n : ℕ) → max n (max 0 0) ≡ n = λ n. omega arith in
    cut_sides r 0 0 w h ∙ rw (a, b, c, d, e w, e h) refl

module _ (w h : ℕ) (right : is_canvas w h (w * h) ≡ true) where
  sides : IsCanvas w h (w * h)
  sides = canvas_is w h (w * h) right

  pub some : is_empty (canvas w h) ≡ false
  unfolding is_empty
  some = rw (lt-leb w 0 (omega (arith, sides.wide)), lt-leb h 0 (omega (arith, sides.tall))) refl

  -- a rectangle of 4096 by 4096, with any margin
  grown_covers : (m : ℕ) → intersect (grown (box 0 0 4096 4096) (pos m)) (canvas w h) ≡ canvas w h
  unfolding grown
  grown_covers m =
      covering w h (grown (box 0 0 4096 4096) (pos m)) (before m) (before m) (omega (arith, sides.narrow)) (omega (arith, sides.low))
    where
      either : (t : Bool) (k n : ℕ) → low (cond t (negsuc k) (pos (0 - suc n))) ≡ 0
      either true k n = refl
      either false k n = omega arith

      before : (n : ℕ) → low (pos 0 -ℤ pos n) ≡ 0
      before zero = refl
      before (suc n) = either (leb 1 (suc n)) (suc n - 1) n

  covers : intersect (box 0 0 4096 4096) (canvas w h) ≡ canvas w h
  covers = covering w h (box 0 0 4096 4096) refl refl (omega (arith, sides.narrow)) (omega (arith, sides.low))

outer_is : outer_pixels widest ≡ box 0 0 4096 4096
unfolding outer_pixels floor_of ceil_of to_signed add of_bits
outer_is = refl

-- two pixels wide and high, at least
large : (lt widest.w two || lt widest.h two) ≡ false
unfolding lt of_bits
large = refl

module _ (w h : ℕ) (right : is_canvas w h (w * h) ≡ true) where
  box_whole : glass_box w h (box 0 0 4096 4096) widest ≡ canvas w h
  unfolding glass_box box_on
  box_whole = rw (large, outer_is, covers w h right, covers w h right) refl

  module _ (style : GlassStyle) (table : List Float) (up : lt style.blur Real.zero ≡ false) where
    window-whole : window_of w h widest style table ≡ canvas w h
    unfolding window_of
    window-whole = let m = margin_out style table up in rw (outer_is, m.1) (grown_covers w h right m.0)

    needs : need_of w h (box 0 0 4096 4096) widest style table ≡ dearest_need w h style.blur
    unfolding need_of picture_bytes window_area area_of dearest_need
    needs =
        let a : w - 0 ≡ w = omega arith in
        let b : h - 0 ≡ h = omega arith in
        rw (right, box_whole, window-whole, some w h right, a, b) refl

-- ---- the block

pub box_shown : (w h : ℕ) (blur : Float) → is_canvas w h (w * h) ≡ true → glass_box w h (Fields.clip (dearest_block blur)) (Fields.rect (dearest_block blur)) ≡ canvas w h
box_shown w h blur right = rw (block_clip blur, block_rect blur) (box_whole w h right)

pub record Shown (w h : ℕ) (blur : Float) (need : ℕ) (b : List ℕ) : Type 0 where
  pub long : length b ≡ 512
  pub glass : Fields.kind b ≡ 4
  pub same_blur : f32 b 52 ≡ blur
  pub passed : verdict b ≡ Ok tt
  pub needs : needed w h b ≡ need
  pub some : 3 ≤ need

-- the blur is an f32 from 0 to 64
module _ (w h : ℕ) (blur : Float) (right : is_canvas w h (w * h) ≡ true) (number : T (fits binary32 blur)) (in_range : within Real.zero f64 blur ≡ true) where
  not_less : lt blur Real.zero ≡ false
  unfolding within
  not_less = not_below blur (both_true (le Real.zero blur) (le blur f64) in_range).0

  block_needs : needed w h (dearest_block blur) ≡ dearest_need w h blur
  unfolding style_of
  block_needs =
      let e = block_blur blur number in
      sym (need_glass w h (dearest_block blur) (block_kind blur))
      ∙ rw (block_clip blur, block_rect blur) (needs w h right (style_of (dearest_block blur)) (Fields.entries (dearest_block blur)) (rw e not_less))
      ∙ ap (dearest_need w h) e

  need_some : 3 ≤ dearest_need w h blur
  unfolding dearest_need
  need_some =
      let i = canvas_is w h (w * h) right in
      let s = scale_is blur in
      let m : 1 * 1 ≤ cells w (scale_of blur) * cells h (scale_of blur) = mul-le-mul (cells_some w s i.wide) (cells_some h s i.tall) in
      omega arith

  pub shown : Shown w h blur (dearest_need w h blur) (dearest_block blur)
  shown = record {
    long = block_long blur;
    glass = block_kind blur;
    same_blur = block_blur blur number;
    passed = block_passes blur number in_range;
    needs = block_needs;
    some = need_some;
  }

  -- and a call leaves it, whatever the bytes held
  pub left : (old : List ℕ) → Shown w h blur (dearest_need w h blur) (block_after w h blur old)
  left old = rw (← block_shown w h blur old (answers w h blur right in_range)) shown
