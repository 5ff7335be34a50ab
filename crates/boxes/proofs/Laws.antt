-- The laws of a layer's box by four numbers: it lies on the canvas, and holds the pixels that the box holds.
use mathlib.Core.Path.{◌≡◌, refl, sym, ◌∙◌}
use mathlib.Core.Bool.{Bool, true, false, cond, ◌||◌}
use mathlib.Core.List.{List}
use Prim.Native.Nat.{ℕ, ◌*◌}
use native.Mathlib.Omega.{arith}
use lib.Ieee.{lt}
use lib.IntN.{ℤ}
use Rattle.geom.specs.declared.IRect.{IRect}
use Rattle.geom.specs.Geom.{two, canvas, is_empty, holds, outer_pixels}
use Rattle.geom.proofs.Laws.{holds_none, Cut, cut_canvas, cut_again}
use Rattle.canvas.specs.Canvas.{is_canvas, box_on, area_box}
use Rattle.canvas.proofs.Laws.Area.{box_cut}
use Rattle.shadow.specs.Shadow.{shadow_box}
use Rattle.frame.specs.Frame.{frame_box}
use Rattle.backdrop.specs.Window.{area_of, glass_box}
use Rattle.std.specs.Prelude.{Option, Some, None}
use Rattle.block.specs.declared.Kind.{Kind}
use Rattle.block.specs.declared.Kind.TheVariants.{Fill, Stroke, Shadow, Glass, Straight, Scaled, Genie, Frame}
use Rattle.block.specs.Fields as Fields
use Rattle.layer.specs.Layer.{kind_of, box_by}
use Rattle.boxes.specs.Boxes.{box_area}

-- what was cut to the canvas holds the pixels that its sides hold
pub holds_area : {w h : ℕ} {r : IRect} → Cut w h r → (x y : ℤ) → holds (area_box (area_of r)) x y ≡ holds r x y
unfolding area_of is_empty
holds_area {r = r} c x y = go (is_empty r) refl
  where
    go : (t : Bool) → is_empty r ≡ t → holds (area_box (area_of r)) x y ≡ holds r x y
    go true e = rw e (holds_none (canvas 0 0) refl x y ∙ sym (holds_none r e x y))
    go false e = rw (e, c.is) refl

-- nothing is cut to any canvas
no_box_cut : (w h : ℕ) → Cut w h (canvas 0 0)
no_box_cut w h = record { left = 0; top = 0; right = 0; bottom = 0; is = refl; in_width = λ l. omega arith; in_height = λ l. omega arith }

-- every layer's box is cut to the canvas, and so is every window
pub layer_cut : (w h : ℕ) (κ : Option Kind) (table b : List ℕ) → Cut w h (box_by κ w h table b)
unfolding box_by shadow_box frame_box glass_box
layer_cut w h (Some Fill) table b = box_cut w h (Fields.clip b) _
layer_cut w h (Some Stroke) table b = box_cut w h (Fields.clip b) _
layer_cut w h (Some Shadow) table b = box_cut w h (Fields.clip b) _
layer_cut w h (Some Glass) table b = pick (lt (Fields.rect b).w two || lt (Fields.rect b).h two)
  where
    pick : (t : Bool) → Cut w h (cond t (canvas 0 0) (box_on w h (Fields.clip b) (outer_pixels (Fields.rect b))))
    pick true = no_box_cut w h
    pick false = box_cut w h (Fields.clip b) (outer_pixels (Fields.rect b))
layer_cut w h (Some Straight) table b = box_cut w h (Fields.clip b) _
layer_cut w h (Some Scaled) table b = box_cut w h (Fields.clip b) _
layer_cut w h (Some Genie) table b = cut_again (Fields.clip b) (cut_canvas w h)
layer_cut w h (Some Frame) table b = cut_again _ (cut_canvas w h)
layer_cut w h None table b = no_box_cut w h

-- on a canvas the box is the layer's
pub box_is : (w h : ℕ) (table b : List ℕ) → is_canvas w h (w * h) ≡ true → box_area w h table b ≡ area_of (box_by (kind_of (Fields.kind b)) w h table b)
unfolding box_area
box_is w h table b e = rw e refl
