-- The cells of a panel beside the bytes that it needs: three for each. On a canvas of w by h.
use Prim.Native.Nat.{ℕ, zero, suc, ◌+◌, ◌*◌, ◌≤◌}
use mathlib.Core.Path.{◌≡◌, refl, ◌∙◌}
use mathlib.Core.Bool.{Bool, true, false, cond}
use mathlib.Core.List.{List, []}
use native.Mathlib.Omega.{arith}
use borrow.Author.Tests.{eqb-true, eqb-false}
use lib.Dec.{eqb}
use Rattle.geom.specs.declared.IRect.{IRect}
use Rattle.geom.specs.Geom.{is_empty}
use Rattle.geom.proofs.Laws.{Cut}
use Rattle.canvas.specs.Canvas.{is_canvas, area_box}
use Rattle.canvas.proofs.Laws.Area.{canvas_is}
use Rattle.backdrop.specs.Window.{area_of, window_area, columns, rows, scale_of, cells, picture_bytes, glass_box, need_of}
use Rattle.backdrop.proofs.Laws.Window.{scale_is, window_on_it, cells_room}
use Rattle.block.specs.Bytes.{block_at}
use Rattle.std.specs.Prelude.{Some}
use Rattle.block.specs.declared.Kind.TheVariants.{Glass}
use Rattle.block.specs.Fields as Fields
use Rattle.layer.specs.Layer.{box_by, window, style_of, needed}
use Rattle.layer.proofs.ByKind.{need_none, need_glass}
use Rattle.boxes.proofs.Laws.{layer_cut}
use Rattle.forecast.specs.Forecast.{panel_cells, cells_of, cells_sum}

thrice : (t : Bool) (c : ℕ) → 3 * cond t 0 c ≡ cond t 0 (3 * c)
thrice true c = refl
thrice false c = refl

at_most : (t : Bool) (c m : ℕ) → c ≤ m → cond t 0 c ≤ m
at_most true c m h = omega arith
at_most false c m h = h

-- what the first n blocks need in one slice, all together
unfoldable pub need_sum : ℕ → ℕ → List ℕ → ℕ → ℕ
need_sum w h buf zero = 0
need_sum w h buf (suc n) = need_sum w h buf n + needed w h (block_at buf n)

-- whether the sides hold a pixel is whether what was cut to the canvas does
pixel_by : {w h : ℕ} {r : IRect} → Cut w h r → is_empty (area_box (area_of r)) ≡ is_empty r
unfolding area_of is_empty
pixel_by {r = r} c = go (is_empty r) refl
  where
    go : (t : Bool) → is_empty r ≡ t → is_empty (area_box (area_of r)) ≡ is_empty r
    go true e = rw e refl
    go false e = rw (e, c.is) (rw c.is at e)

module _ (w h : ℕ) where
  -- whether the box has a pixel, by its sides
  pub panel_by : (b : List ℕ) → is_empty (area_box (area_of (glass_box w h (Fields.clip b) (Fields.rect b)))) ≡ is_empty (glass_box w h (Fields.clip b) (Fields.rect b))
  unfolding box_by
  panel_by b = pixel_by (layer_cut w h (Some Glass) [] b)

  pub panel_none : (b : List ℕ) → is_empty (glass_box w h (Fields.clip b) (Fields.rect b)) ≡ true → 0 ≡ panel_cells w h b
  unfolding panel_cells
  panel_none b e = rw e refl

  pub panel_some : (b : List ℕ) → is_empty (glass_box w h (Fields.clip b) (Fields.rect b)) ≡ false
      → panel_cells w h b ≡ cells (columns (area_of (window w h b))) (scale_of (Fields.blur b)) * cells (rows (area_of (window w h b))) (scale_of (Fields.blur b))
  unfolding panel_cells
  panel_some b e = rw e refl

module _ (w h : ℕ) (right : is_canvas w h (w * h) ≡ true) where
  panel_three : (b : List ℕ) → 3 * panel_cells w h b ≡ need_of w h (Fields.clip b) (Fields.rect b) (style_of b) (Fields.entries b)
  unfolding panel_cells need_of picture_bytes window_area style_of
  panel_three b = rw right (thrice (is_empty (glass_box w h (Fields.clip b) (Fields.rect b))) _)

  -- a layer needs three bytes for each cell that it works on
  pub three_cells : (b : List ℕ) → 3 * cells_of w h b ≡ needed w h b
  unfolding cells_of
  three_cells b = go (eqb (Fields.kind b) 4) refl
    where
      go : (t : Bool) → eqb (Fields.kind b) 4 ≡ t → 3 * cond t (panel_cells w h b) 0 ≡ needed w h b
      go true e = panel_three b ∙ need_glass w h b (eqb-true (Fields.kind b) 4 e)
      go false e = need_none (Fields.kind b) w h b refl (eqb-false (Fields.kind b) 4 e)

  -- and so the layers together
  pub three_sums : (buf : List ℕ) (n : ℕ) → 3 * cells_sum w h buf n ≡ need_sum w h buf n
  unfolding cells_sum need_sum
  three_sums buf zero = refl
  three_sums buf (suc n) = omega (arith, three_sums buf n, three_cells (block_at buf n))

  panel_most : (b : List ℕ) → panel_cells w h b ≤ 4096 * 4096
  unfolding panel_cells window_area
  panel_most b =
      let i = canvas_is w h (w * h) right in
      at_most (is_empty (glass_box w h (Fields.clip b) (Fields.rect b))) _ (4096 * 4096)
      (cells_room (window_on_it w h (Fields.rect b) (style_of b) (Fields.entries b)) i.narrow i.low (scale_is (Fields.blur b)))

  -- no layer has more cells than the largest canvas has pixels
  pub layer_most : (b : List ℕ) → cells_of w h b ≤ 4096 * 4096
  unfolding cells_of
  layer_most b = go (eqb (Fields.kind b) 4)
    where
      go : (t : Bool) → cond t (panel_cells w h b) 0 ≤ 4096 * 4096
      go true = panel_most b
      go false = omega arith

  pub sum_most : (buf : List ℕ) (n : ℕ) → cells_sum w h buf n ≤ n * 0x100_0000
  unfolding cells_sum
  sum_most buf zero = omega arith
  sum_most buf (suc n) = omega (arith, sum_most buf n, layer_most (block_at buf n))
