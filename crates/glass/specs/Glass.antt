-- What `glass` does to a canvas.
use Rattle.std.specs.Prelude.{ℕ, ◌≡◌, Bool, cond, ◌&&◌, ◌||◌, List, ◌++◌, leb, eqb, length, take, drop, Float}
use Rattle.geom.specs.declared.Rect.{Rect}
use Rattle.geom.specs.declared.IRect.{IRect}
use Rattle.canvas.specs.Canvas.{is_canvas, painted_on, boxed}
use Rattle.backdrop.specs.declared.GlassStyle.{GlassStyle}
use Rattle.backdrop.specs.Window.{glass_box, need_of}
use Rattle.backdrop.specs.Picture.{picture}
use Rattle.panel.specs.declared.Panel.{Panel}
use Rattle.panel.specs.Panel.{panel_of, is_flat}
use Rattle.glass.specs.Flat.{flat_pix}
use Rattle.glass.specs.General.{general_pix}

-- the window has no pixel
unfoldable pub is_bare : Panel → Bool
is_bare p = eqb p.lw 0 || eqb p.lh 0

-- the pixel in column x of row y, lo being the small picture
unfoldable pub panel_pix : (p : Panel) (spec : Float) (table : List Float) (lo : List ℕ) (x y q : ℕ) → ℕ
panel_pix p spec table lo x y q = cond (is_bare p) q (cond (is_flat p spec) (flat_pix p lo x y) (general_pix p table lo x y q))

-- what `glass` does to each pixel of a canvas of w by h, lo being the small picture
unfoldable pub glass_rule : (w h : ℕ) (clip : IRect) (rect : Rect) (style : GlassStyle) (table : List Float) (lo : List ℕ) → ℕ → ℕ → ℕ → ℕ
glass_rule w h clip rect style table lo = boxed (glass_box w h clip rect) (panel_pix (panel_of w h rect style table) style.spec table lo)

-- the canvas afterwards, the small picture being that of the canvas before
unfoldable pub glassed : (w h : ℕ) (clip : IRect) (rect : Rect) (style : GlassStyle) (table : List Float) (cv : List ℕ) → List ℕ
glassed w h clip rect style table cv = painted_on w h (glass_rule w h clip rect style table (picture w h rect style table cv)) cv

-- scratch slices of la and lb bytes are long enough
unfoldable pub has_room : (w h : ℕ) (clip : IRect) (rect : Rect) (style : GlassStyle) (table : List Float) (la lb : ℕ) → Bool
has_room w h clip rect style table la lb = let n = need_of w h clip rect style table in leb n la && leb n lb

-- where they are not, nothing changes
unfoldable pub glassed_in : (w h : ℕ) (clip : IRect) (rect : Rect) (style : GlassStyle) (table : List Float) (la lb : ℕ) (cv : List ℕ) → List ℕ
glassed_in w h clip rect style table la lb cv = cond (has_room w h clip rect style table la lb) (glassed w h clip rect style table cv) cv

-- ---- what the scratch slices hold afterwards

-- how many bytes of each slice are used: those that are needed, none for an empty box, and none where n pixels are no canvas of w by h or a slice is too short
unfoldable pub scratch_used : (w h : ℕ) (clip : IRect) (rect : Rect) (style : GlassStyle) (table : List Float) (n la lb : ℕ) → ℕ
scratch_used w h clip rect style table n la lb = cond (is_canvas w h n && has_room w h clip rect style table la lb) (need_of w h clip rect style table) 0

-- the first slice, a: the small picture in the bytes that are used
unfoldable pub picture_in : (w h : ℕ) (clip : IRect) (rect : Rect) (style : GlassStyle) (table : List Float) (cv a : List ℕ) (lb : ℕ) → List ℕ
picture_in w h clip rect style table cv a lb =
    let n = scratch_used w h clip rect style table (length cv) (length a) lb in
    take n (picture w h rect style table cv) ++ drop n a

-- the second: all but the first n bytes of the slice l, whose bytes are now l', are as they were
pub record Kept (n : ℕ) (l l' : List ℕ) : Type 0 where
  pub long : length l' ≡ length l
  pub rest : drop n l' ≡ drop n l
