-- What `glass` does, from what its parts do: where a slice is too short or the box is empty nothing, else the picture is made and the box is painted.
use Prim.Native.Nat.{ℕ, ◌*◌, ◌/◌, ◌%◌, ◌≤◌, ◌<◌}
use mathlib.Core.Path.{◌≡◌, refl, sym, ap, ◌∙◌}
use mathlib.Core.Bool.{Bool, true, false, cond, ◌&&◌, ◌||◌}
use mathlib.Core.List.{List, ◌++◌}
use native.Mathlib.Nat.{mul_comm}
use native.Mathlib.Omega.{arith}
use lib.IntN.{pos}
use lib.ListN.{length, take, drop, get_or}
use lib.Seq.{take_at, take_all}
use lib.Ieee.{Float, lt}
use borrow.Author.Tests.{le-leb, lt-leb}
use Rattle.geom.specs.declared.Rect.{Rect}
use Rattle.geom.specs.declared.IRect.{IRect}
use Rattle.geom.specs.Geom.{two, canvas, is_empty, outer_pixels}
use Rattle.geom.proofs.Laws.{holds_none}
use Rattle.canvas.specs.declared.Area.{Area}
use Rattle.canvas.specs.Canvas.{flat, is_canvas, painted, painted_on, boxed, box_on, area_box, area_on}
use Rattle.canvas.proofs.Laws.Area.{OnCanvas, canvas_is, area_none, area_some, area_bare, area_full, painted_on_lem, painted_off}
use Rattle.canvas.proofs.Laws.Rows.{map_row_id}
use Rattle.canvas.proofs.Laws.Box.{boxed_out}
use Rattle.backdrop.specs.declared.GlassStyle.{GlassStyle}
use Rattle.backdrop.specs.Window.{window_area, columns, rows, scale_of, cells, picture_bytes, glass_box, need_of}
use Rattle.backdrop.specs.Picture.{picture, pictured, used}
use Rattle.backdrop.proofs.Laws.Window.{Scale, by_one, by_two, by_four, scale_is, scale_some, scale_most, cells_most, window_on_it, need_small, need_none, need_some}
use Rattle.backdrop.proofs.Laws.Picture.{length_picture, room-first, room-second}
use Rattle.panel.specs.declared.Panel.{Panel}
use Rattle.panel.specs.Panel.{panel_of}
use Rattle.glass.specs.Glass.{panel_pix, glass_rule, glassed, has_room, glassed_in, scratch_used, picture_in, Kept}
use Rattle.glass.specs.Private.{Fitting, panel_area}
use Rattle.glass.proofs.Laws.{no_room, short_unused, unused}

-- ---- nothing

pub kept_all : (n : ℕ) (l : List ℕ) → Kept n l l
kept_all n l = record { long = refl; rest = refl }

-- a box that holds no pixel, whatever its rule
empty_box : (w : ℕ) (r : IRect) (F : ℕ → ℕ → ℕ → ℕ) (cv : List ℕ) → is_empty r ≡ true → cv ≡ painted w (boxed r F) cv
empty_box w r F cv e = map_row_id (flat w (boxed r F)) cv (λ i _. boxed_out r F (i % w) (i / w) (get_or cv i 0) (holds_none r e (pos (i % w)) (pos (i / w))))

none_on : (w h : ℕ) (r : IRect) (F : ℕ → ℕ → ℕ → ℕ) (cv : List ℕ) → is_empty r ≡ true → cv ≡ painted_on w h (boxed r F) cv
none_on w h r F cv e = go (is_canvas w h (length cv)) refl
  where
    go : (t : Bool) → is_canvas w h (length cv) ≡ t → cv ≡ painted_on w h (boxed r F) cv
    go true c = empty_box w r F cv e ∙ painted_on_lem w h (boxed r F) cv c
    go false c = painted_off w h (boxed r F) cv c

no_pixel : is_empty (canvas 0 0) ≡ true
unfolding is_empty
no_pixel = refl

not_three : {k : ℕ} → Scale k → k ≡ 3 → ⊥
not_three by_one e = omega arith
not_three by_two e = omega arith
not_three by_four e = omega arith

module _ (w h : ℕ) (clip : IRect) (rect : Rect) (style : GlassStyle) (table : List Float) where
  abbrev small : Bool
  small = lt rect.w two || lt rect.h two

  abbrev need : ℕ
  need = need_of w h clip rect style table

  no_box : (cv : List ℕ) → (panel_area (length cv) w h clip rect).x1 ≡ 0 → cv ≡ glassed w h clip rect style table cv
  unfolding glassed glass_rule glass_box panel_area
  no_box cv = go small
    where
      F : ℕ → ℕ → ℕ → ℕ
      F = panel_pix (panel_of w h rect style table) style.spec table (picture w h rect style table cv)

      go : (t : Bool) → (cond t (record { x0 = 0; y0 = 0; x1 = 0; y1 = 0 }) (area_on (length cv) w h clip (outer_pixels rect))).x1 ≡ 0
          → cv ≡ painted_on w h (boxed (cond t (canvas 0 0) (box_on w h clip (outer_pixels rect))) F) cv
      go true z = none_on w h (canvas 0 0) F cv no_pixel
      go false z = area_none w h clip (outer_pixels rect) cv F z

  -- the test by which the code leaves
  pub bare_box : (n : ℕ) → is_empty (area_box (panel_area n w h clip rect)) ≡ true → (panel_area n w h clip rect).x1 ≡ 0
  unfolding panel_area is_empty
  bare_box n = go small
    where
      go : (t : Bool) → is_empty (area_box (cond t (record { x0 = 0; y0 = 0; x1 = 0; y1 = 0 }) (area_on n w h clip (outer_pixels rect)))) ≡ true
          → (cond t (record { x0 = 0; y0 = 0; x1 = 0; y1 = 0 }) (area_on n w h clip (outer_pixels rect))).x1 ≡ 0
      go true e = refl
      go false e = area_bare n w h clip (outer_pixels rect) e

  pub full_box : (n : ℕ) → is_empty (area_box (panel_area n w h clip rect)) ≡ false → (panel_area n w h clip rect).x1 ≡ 0 → ⊥
  unfolding panel_area is_empty
  full_box n = go small
    where
      go : (t : Bool) → is_empty (area_box (cond t (record { x0 = 0; y0 = 0; x1 = 0; y1 = 0 }) (area_on n w h clip (outer_pixels rect)))) ≡ false
          → (cond t (record { x0 = 0; y0 = 0; x1 = 0; y1 = 0 }) (area_on n w h clip (outer_pixels rect))).x1 ≡ 0 → ⊥
      go true e z = let t : true ≡ false = e in cc
      go false e z = area_full n w h clip (outer_pixels rect) e z

  -- no byte of the slices is used for an empty box
  none_used : (cv : List ℕ) (la lb : ℕ) → (panel_area (length cv) w h clip rect).x1 ≡ 0 → scratch_used w h clip rect style table (length cv) la lb ≡ 0
  unfolding scratch_used panel_area
  none_used cv la lb z = on (is_canvas w h (length cv)) refl
    where
      empty : is_canvas w h (length cv) ≡ true → (t : Bool) → small ≡ t → (cond t (record { x0 = 0; y0 = 0; x1 = 0; y1 = 0 }) (area_on (length cv) w h clip (outer_pixels rect))).x1 ≡ 0 → need ≡ 0
      empty c true e z = sym (need_small w h clip rect style table e)
      empty c false e z =
          let size : w * h ≡ length cv = mul_comm w h ∙ sym (canvas_is w h (length cv) c).size in
          sym (need_none w h clip rect style table e (ap (λ (k : ℕ). (area_on k w h clip (outer_pixels rect)).x1) size ∙ z))

      same : (t : Bool) → need ≡ 0 → cond t need 0 ≡ 0
      same true e = e
      same false e = refl

      on : (t : Bool) → is_canvas w h (length cv) ≡ t → cond (t && has_room w h clip rect style table la lb) need 0 ≡ 0
      on true c = same (has_room w h clip rect style table la lb) (empty c small refl z)
      on false c = refl

  -- what holds where nothing is painted: canvas and slices are as they were
  abbrev pub Still : List ℕ → List ℕ → List ℕ → Type 0
  Still cv a b =
      (cv ≡ glassed_in w h clip rect style table (length a) (length b) cv)
      × ((a ≡ picture_in w h clip rect style table cv a (length b)) × Kept (scratch_used w h clip rect style table (length cv) (length a) (length b)) b b)

  pub unpainted : (cv a b : List ℕ) → (panel_area (length cv) w h clip rect).x1 ≡ 0 → Still cv a b
  unfolding glassed_in
  unpainted cv a b z =
      (go (has_room w h clip rect style table (length a) (length b)) (no_box cv z), (sym (unused w h clip rect style table cv a (length b) (none_used cv (length a) (length b) z)), kept_all _ b))
    where
      go : (t : Bool) {u : List ℕ} → cv ≡ u → cv ≡ cond t u cv
      go true e = e
      go false e = refl

  short : (cv a b : List ℕ) → has_room w h clip rect style table (length a) (length b) ≡ false → Still cv a b
  short cv a b e =
      (sym (no_room w h clip rect style table (length a) (length b) cv e), (sym (unused w h clip rect style table cv a (length b) (short_unused w h clip rect style table (length cv) (length a) (length b) e)), kept_all _ b))

  pub first_short : (cv a b : List ℕ) → length a < need → Still cv a b
  unfolding has_room
  first_short cv a b k = short cv a b (rw (lt-leb need (length a) k))

  pub second_short : (cv a b : List ℕ) → need ≤ length a → length b < need → Still cv a b
  unfolding has_room
  second_short cv a b j k = short cv a b (rw (le-leb need (length a) j, lt-leb need (length b) k))

  -- ---- the box is painted

  -- a box with a pixel: what is known of it
  pub record Box (cv : List ℕ) (s : Area) : Type 0 where
    pub big : small ≡ false
    pub sides : s ≡ area_on (length cv) w h clip (outer_pixels rect)
    pub on : OnCanvas w h clip (outer_pixels rect) cv s
    pub bytes : picture_bytes w h rect style table ≡ need

  pub box_of : (cv : List ℕ) → ((panel_area (length cv) w h clip rect).x1 ≡ 0 → ⊥) → Box cv (panel_area (length cv) w h clip rect)
  unfolding panel_area
  box_of cv z = go small refl z
    where
      go : (t : Bool) → small ≡ t → ((cond t (record { x0 = 0; y0 = 0; x1 = 0; y1 = 0 }) (area_on (length cv) w h clip (outer_pixels rect))).x1 ≡ 0 → ⊥)
          → Box cv (cond t (record { x0 = 0; y0 = 0; x1 = 0; y1 = 0 }) (area_on (length cv) w h clip (outer_pixels rect)))
      go true e n = absurd (n refl)
      go false e n =
          let o = area_some w h clip (outer_pixels rect) cv n in
          let size : length cv ≡ w * h = o.canvas.size ∙ mul_comm h w in
          record {
            big = e;
            sides = refl;
            on = o;
            bytes = need_some w h clip rect style table e (λ y. n (ap (λ (k : ℕ). (area_on k w h clip (outer_pixels rect)).x1) size ∙ y));
          }

-- what is known of the slices and the panel where the box is painted
pub record Ready (w h : ℕ) (clip : IRect) (rect : Rect) (style : GlassStyle) (table : List Float) (cv a : List ℕ) (s : Area) (lb n : ℕ) : Type 0 where
  pub box : Box w h clip rect style table cv s
  pub is : n ≡ need_of w h clip rect style table
  pub first : n ≤ length a
  pub second : n ≤ lb

module _ {w h : ℕ} {clip : IRect} {rect : Rect} {style : GlassStyle} {table : List Float} {cv a : List ℕ} {s : Area} {lb n : ℕ} (R : Ready w h clip rect style table cv a s lb n) where
  abbrev bytes : ℕ
  bytes = picture_bytes w h rect style table

  fits_first : bytes ≤ length a
  fits_first = omega (arith, R.box.bytes, R.is, R.first)

  fits_second : bytes ≤ lb
  fits_second = omega (arith, R.box.bytes, R.is, R.second)

  first_is : {a' : List ℕ} → a' ≡ pictured w h rect style table cv a lb → a' ≡ picture w h rect style table cv ++ drop bytes a
  first_is f = f ∙ sym (room-first w h rect style table cv a lb R.box.on.test fits_first fits_second)

  -- the slice that is lent is the picture
  pub lent_is : {a' : List ℕ} → a' ≡ pictured w h rect style table cv a lb → take n a' ≡ picture w h rect style table cv
  lent_is f =
      let all : length (picture w h rect style table cv) ≡ n = omega (arith, length_picture w h rect style table cv, R.box.bytes, R.is) in
      rw (first_is f) (take_at (picture w h rect style table cv) (drop bytes a) n all)

  room : has_room w h clip rect style table (length a) lb ≡ true
  unfolding has_room
  room =
      let need : ℕ = need_of w h clip rect style table in
      rw (le-leb need (length a) (omega (arith, R.is, R.first)), le-leb need lb (omega (arith, R.is, R.second)))

  used_is : scratch_used w h clip rect style table (length cv) (length a) lb ≡ bytes
  unfolding scratch_used
  used_is = rw (R.box.on.test, room) (sym R.box.bytes)

  -- the first slice
  pub pictured_in : {a' : List ℕ} → a' ≡ pictured w h rect style table cv a lb → a' ≡ picture_in w h clip rect style table cv a lb
  unfolding picture_in
  pictured_in f =
      let all : length (picture w h rect style table cv) ≤ bytes = omega (arith, length_picture w h rect style table cv) in
      first_is f ∙ rw (used_is, take_all bytes (picture w h rect style table cv) all)

  -- and the second
  pub kept_second : {b b' : List ℕ} → drop (used w h rect style table (length cv) (length a) lb) b' ≡ drop (used w h rect style table (length cv) (length a) lb) b
      → length b' ≡ length b → Kept (scratch_used w h clip rect style table (length cv) (length a) lb) b b'
  kept_second f g = record { long = g; rest = rw (used_is) (rw (room-second w h rect style table cv a lb R.box.on.test fits_first fits_second) at f) }

  -- the canvas
  pub painted_is : {px lo : List ℕ} {p : Panel} → p ≡ panel_of w h rect style table → lo ≡ picture w h rect style table cv
      → px ≡ painted_on w h (boxed (area_box s) (panel_pix p style.spec table lo)) cv
      → px ≡ glassed_in w h clip rect style table (length a) lb cv
  unfolding glassed_in glassed glass_rule glass_box
  painted_is ep el f =
      f ∙ rw (ep, el, ← R.box.on.sides, room, R.box.big)

  cells_bytes : bytes ≡ cells (rows (window_area w h rect style table)) (scale_of style.blur) * cells (columns (window_area w h rect style table)) (scale_of style.blur) * 3
  unfolding picture_bytes
  cells_bytes = omega arith

  -- the panel fits its picture
  pub fitting : {lo : List ℕ} {p : Panel} → p ≡ panel_of w h rect style table → lo ≡ picture w h rect style table cv → Fitting p lo
  unfolding panel_of
  fitting ep el =
      let o = window_on_it w h rect style table in
      let win = window_area w h rect style table in
      let scale = scale_is style.blur in
      let c = R.box.on.canvas in
      rw (ep, el)
      (record {
        least = scale_some scale;
        most = scale_most scale;
        no_three = not_three scale;
        narrow = omega (arith, cells_most (columns win) scale, o.in_width, c.narrow);
        low = omega (arith, cells_most (rows win) scale, o.in_height, c.low);
        near = omega (arith, o.across, o.in_width, c.narrow);
        high = omega (arith, o.down, o.in_height, c.low);
        bytes = length_picture w h rect style table cv ∙ cells_bytes;
      })
