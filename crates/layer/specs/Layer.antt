-- One layer of a rundown on a canvas of w by h: its box, what the stain sees of it, and what it paints. b is its block.
use Rattle.std.specs.Prelude.{Option, Some, None, ℕ, ◌+◌, ◌≡◌, Bool, true, false, cond, ◌&&◌, List, leb, eqb, Ok}
use Rattle.std.specs.Float.Ieee.{eq}
use Rattle.mathf.specs.Real.{zero}
use Rattle.geom.specs.declared.IRect.{IRect}
use Rattle.geom.specs.Geom.{canvas, intersect, outer_pixels}
use Rattle.canvas.specs.Canvas.{box_on, painted_on}
use Rattle.fill.specs.Fill.{fill_rule}
use Rattle.stroke.specs.Stroke.{stroke_rule}
use Rattle.shadow.specs.declared.Shadow.{Shadow}
use Rattle.shadow.specs.Shadow.{shadow_box, shadow_rule}
use Rattle.straight.specs.declared.Blit.{Blit}
use Rattle.straight.specs.Straight.{copy_box, straight_rule}
use Rattle.scaled.specs.declared.Stretch.{Stretch}
use Rattle.scaled.specs.Scaled.{scaled_rule}
use Rattle.genie.specs.declared.Flight.{Flight}
use Rattle.genie.specs.Genie.{genied}
use Rattle.backdrop.specs.declared.GlassStyle.{GlassStyle}
use Rattle.backdrop.specs.Window.{window_of, glass_box, need_of}
use Rattle.glass.specs.Glass.{glassed, picture_in, scratch_used}
use Rattle.frame.specs.declared.GlassSurface.{GlassSurface}
use Rattle.frame.specs.Frame.{frame_box, frame_rule}
use Rattle.block.specs.Verdict.{verdict}
use Rattle.block.specs.declared.Kind.{Kind}
use Rattle.block.specs.declared.Kind.TheVariants.{Fill, Stroke, Shadow as Shade, Glass, Straight, Scaled, Genie, Frame}
use Rattle.block.specs.Fields as Fields
use Rattle.taint.specs.Stain as Stain
use Rattle.sources.specs.Table.{sides_of, pixels, listed}
-- ---- kinds: none where a block's number is no kind's
unfoldable pub use Rattle.block.specs.Fields.{kind_of}

-- ---- what the painters take whole

-- a glass panel's style; its tint is the colour
unfoldable pub style_of : List ℕ → GlassStyle
style_of b = record {
  radius = Fields.radius b;
  blur = Fields.blur b;
  tint = Fields.colour b;
  saturation = Fields.saturation b;
  brightness = Fields.brightness b;
  bezel = Fields.bezel b;
  spec = Fields.spec b;
}

-- a shadow's own numbers; flag 0 leaves out its inside
unfoldable pub shadow_of : List ℕ → Shadow
shadow_of b = record { r = Fields.radius b; blur = Fields.blur b; color = Fields.colour b; skip_inside = Fields.first_flag b }

-- a straight copy's own numbers, a scaled copy's and a genie's
unfoldable pub blit_of : List ℕ → Blit
blit_of b = record { x = Fields.x b; y = Fields.y b; r = Fields.radius b; alpha = Fields.alpha b; dim = Fields.dim b }

unfoldable pub stretch_of : List ℕ → Stretch
stretch_of b = record { dest = Fields.rect b; r = Fields.radius b; alpha = Fields.float_alpha b }

unfoldable pub flight_of : List ℕ → Flight
flight_of b = record { from = Fields.rect b; target = Fields.target b; t = Fields.t b; alpha = Fields.float_alpha b }

-- a frame's surface
unfoldable pub surface_of : List ℕ → GlassSurface
surface_of b = record { x = Fields.left b; y = Fields.top b; width = Fields.width b; height = Fields.height b; border_thickness = Fields.border b }

-- ---- boxes

-- 01's box of a layer: no pixel outside it changes
unfoldable pub box_by : Option Kind → ℕ → ℕ → List ℕ → List ℕ → IRect
box_by (Some Fill) w h table b = box_on w h (Fields.clip b) (outer_pixels (Fields.rect b))
box_by (Some Stroke) w h table b = box_on w h (Fields.clip b) (outer_pixels (Fields.rect b))
box_by (Some Shade) w h table b = shadow_box w h (Fields.clip b) (Fields.rect b) (Fields.blur b)
box_by (Some Glass) w h table b = glass_box w h (Fields.clip b) (Fields.rect b)
box_by (Some Straight) w h table b =
    box_on w h (Fields.clip b) (copy_box (Fields.x b) (Fields.y b) (sides_of table (Fields.source b)))
box_by (Some Scaled) w h table b = box_on w h (Fields.clip b) (outer_pixels (Fields.rect b))
box_by (Some Genie) w h table b = intersect (Fields.clip b) (canvas w h)
box_by (Some Frame) w h table b = frame_box w h (surface_of b)
box_by None w h table b = canvas 0 0

-- 01's window of a glass layer
abbrev pub window : ℕ → ℕ → List ℕ → IRect
window w h b = window_of w h (Fields.rect b) (style_of b) (Fields.entries b)

-- 01's exact copy: a straight copy of radius 0 (or -0), alpha 255, dim 0
unfoldable pub is_exact : List ℕ → Bool
is_exact b = eq (Fields.radius b) zero && (eqb (Fields.alpha b) 255 && eqb (Fields.dim b) 0)

-- ---- what the stain sees

unfoldable pub sort_by : Option Kind → ℕ → ℕ → List ℕ → Stain.Sort
sort_by (Some Fill) w h b = Stain.plain
sort_by (Some Stroke) w h b = Stain.plain
sort_by (Some Shade) w h b = Stain.plain
sort_by (Some Glass) w h b = Stain.glass (window w h b)
sort_by (Some Straight) w h b = Stain.copy (Fields.source b) (is_exact b)
sort_by (Some Scaled) w h b = Stain.copy (Fields.source b) false
sort_by (Some Genie) w h b = Stain.copy (Fields.source b) false
sort_by (Some Frame) w h b = Stain.plain
sort_by None w h b = Stain.plain

unfoldable pub layer_of : ℕ → ℕ → List ℕ → List ℕ → Stain.Layer
layer_of w h table b = record { sort = sort_by (kind_of (Fields.kind b)) w h b; box = box_by (kind_of (Fields.kind b)) w h table b }

-- ---- what it paints on the canvas cv

unfoldable pub filled : ℕ → ℕ → List ℕ → List ℕ → List ℕ
filled w h b cv = painted_on w h (fill_rule w h (Fields.clip b) (Fields.rect b) (Fields.radius b) (Fields.paint_of b)) cv

unfoldable pub stroked : ℕ → ℕ → List ℕ → List ℕ → List ℕ
stroked w h b cv = painted_on w h (stroke_rule w h (Fields.clip b) (Fields.rect b) (Fields.radius b) (Fields.stroke_width b) (Fields.colour b)) cv

unfoldable pub shadowed : ℕ → ℕ → List ℕ → List ℕ → List ℕ
shadowed w h b cv = painted_on w h (shadow_rule w h (Fields.clip b) (Fields.rect b) (shadow_of b)) cv

unfoldable pub glazed : ℕ → ℕ → List ℕ → List ℕ → List ℕ
glazed w h b cv = glassed w h (Fields.clip b) (Fields.rect b) (style_of b) (Fields.entries b) cv

unfoldable pub copied_onto : (w h : ℕ) (table pool b cv : List ℕ) → List ℕ
copied_onto w h table pool b cv =
    let t = Fields.source b in
    painted_on w h (straight_rule w h (Fields.clip b) (pixels table pool t) (sides_of table t) (blit_of b)) cv

unfoldable pub stretched : (w h : ℕ) (table pool b cv : List ℕ) → List ℕ
stretched w h table pool b cv =
    let t = Fields.source b in
    painted_on w h (scaled_rule w h (Fields.clip b) (pixels table pool t) (sides_of table t) (stretch_of b)) cv

unfoldable pub drawn : (w h : ℕ) (table pool b cv : List ℕ) → List ℕ
drawn w h table pool b cv =
    let t = Fields.source b in
    genied w h (Fields.clip b) (pixels table pool t) (sides_of table t) (flight_of b) cv

-- flag 0 is its tint, flag 1 x-ray
unfoldable pub framed : ℕ → ℕ → List ℕ → List ℕ → List ℕ
framed w h b cv = painted_on w h (frame_rule w h (surface_of b) (Fields.tag b) (Fields.first_flag b) (Fields.second_flag b)) cv

unfoldable pub painting_by : Option Kind → (w h : ℕ) (table pool b cv : List ℕ) → List ℕ
painting_by (Some Fill) w h table pool b cv = filled w h b cv
painting_by (Some Stroke) w h table pool b cv = stroked w h b cv
painting_by (Some Shade) w h table pool b cv = shadowed w h b cv
painting_by (Some Glass) w h table pool b cv = glazed w h b cv
painting_by (Some Straight) w h table pool b cv = copied_onto w h table pool b cv
painting_by (Some Scaled) w h table pool b cv = stretched w h table pool b cv
painting_by (Some Genie) w h table pool b cv = drawn w h table pool b cv
painting_by (Some Frame) w h table pool b cv = framed w h b cv
painting_by None w h table pool b cv = cv

unfoldable pub painting : (w h : ℕ) (table pool b cv : List ℕ) → List ℕ
painting w h table pool b cv = painting_by (kind_of (Fields.kind b)) w h table pool b cv

-- ---- scratch

-- how many bytes of each scratch slice a layer needs: only glass needs any
unfoldable pub need_by : Option Kind → ℕ → ℕ → List ℕ → ℕ
need_by (Some Fill) w h b = 0
need_by (Some Stroke) w h b = 0
need_by (Some Shade) w h b = 0
need_by (Some Glass) w h b = need_of w h (Fields.clip b) (Fields.rect b) (style_of b) (Fields.entries b)
need_by (Some Straight) w h b = 0
need_by (Some Scaled) w h b = 0
need_by (Some Genie) w h b = 0
need_by (Some Frame) w h b = 0
need_by None w h b = 0

unfoldable pub needed : ℕ → ℕ → List ℕ → ℕ
needed w h b = need_by (kind_of (Fields.kind b)) w h b

-- scratch slices of la and lb bytes are long enough
unfoldable pub has_room : ℕ → ℕ → List ℕ → ℕ → ℕ → Bool
has_room w h b la lb = leb (needed w h b) la && leb (needed w h b) lb

-- the canvas after the layer; where a slice is too short nothing changes
unfoldable pub painting_in : (w h : ℕ) (table pool : List ℕ) (la lb : ℕ) (b cv : List ℕ) → List ℕ
painting_in w h table pool la lb b cv = cond (has_room w h b la lb) (painting w h table pool b cv) cv

-- the first slice, a, after the layer: glass, kind 4, leaves its small picture in the bytes that it needs, the other kinds leave the slice alone
unfoldable pub first_after : (w h : ℕ) (b cv a : List ℕ) (lb : ℕ) → List ℕ
first_after w h b cv a lb =
    cond (eqb (Fields.kind b) 4) (picture_in w h (Fields.clip b) (Fields.rect b) (style_of b) (Fields.entries b) cv a lb) a

-- how many bytes of the second slice are used: only glass uses any, and none where a slice is too short, the box is empty or n pixels are no canvas of w by h
unfoldable pub second_used : (w h : ℕ) (b : List ℕ) (n la lb : ℕ) → ℕ
second_used w h b n la lb =
    cond (eqb (Fields.kind b) 4) (scratch_used w h (Fields.clip b) (Fields.rect b) (style_of b) (Fields.entries b) n la lb) 0

-- ---- what the tests 4 to 7, 15, 9 and 10 ask of a block

-- test 9: the source of a copy is in the table
unfoldable pub source_there : List ℕ → List ℕ → Bool
source_there table b = cond (leb 5 (Fields.kind b) && leb (Fields.kind b) 7) (listed table (Fields.source b)) true

-- test 10: a frame ends within the canvas's width
unfoldable pub frame_there : ℕ → List ℕ → Bool
frame_there w b = cond (eqb (Fields.kind b) 8) (leb (Fields.left b + Fields.width b) w) true

pub record Accepted (w : ℕ) (table b : List ℕ) : Type 0 where
  pub passed : verdict b ≡ Ok tt
  pub source_listed : source_there table b ≡ true
  pub frame_fits : frame_there w b ≡ true
