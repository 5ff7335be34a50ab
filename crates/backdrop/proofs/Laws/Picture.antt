-- The laws of the small picture: how long it is, and that it goes by the window's pixels alone.
use Prim.Native.Nat.{ℕ, zero, suc, ◌+◌, ◌*◌, ◌/◌, ◌%◌, ◌≤◌, ◌<◌}
use mathlib.Core.Path.{◌≡◌, refl, sym, ap, ◌∙◌, subst}
use mathlib.Core.Bool.{Bool, true, false, cond, ◌&&◌}
use mathlib.Core.List.{List, [], ◌++◌}
use native.Mathlib.Nat.{mod-lt, div-lt_iff_lt-mul, mul-zero}
use native.Mathlib.Omega.{arith}
use lib.Dec.{leb}
use lib.IntN.{ℤ, pos, negsuc}
use borrow.Author.Tests.{le-leb, lt-leb, lt-ltb}
use lib.ListN.{length, get_or, take, drop, length-append, length-take, length-drop}
use lib.Seq.{ext_get_or, drop-append_seam}
use lib.Ieee.{Float, le}
use Rattle.boxblur.specs.Box.{table}
use Rattle.boxblur.proofs.Pass.{table_length, table_at}
use Rattle.color.specs.declared.Color.{Color}
use Rattle.geom.specs.declared.Rect.{Rect}
use Rattle.geom.specs.Geom.{is_empty, holds}
use Rattle.geom.proofs.Laws.{Cut, holds_box}
use Rattle.canvas.specs.declared.Area.{Area}
use Rattle.canvas.specs.Canvas.{is_canvas}
use Rattle.backdrop.specs.declared.GlassStyle.{GlassStyle}
use Rattle.backdrop.specs.Window.{window_of, area_of, window_area, columns, rows, scale_of, cells, picture_bytes, three}
use Rattle.backdrop.specs.Picture.{crop, shrunk, sigma, radius_of, pass, blurred, tinted, tinted_byte, satq, shade, lum_at, saturated, toward, byte, picture_of, picture, used, pictured, point_four_five}
use Rattle.backdrop.proofs.Blur.{length_pass}
use Rattle.backdrop.proofs.Laws.Window.{Scale, by_one, by_two, by_four, window_cut}

-- ---- its size

none_of : {k : ℕ} → Scale k → cells 0 k ≡ 0
unfolding cells
none_of by_one = refl
none_of by_two = refl
none_of by_four = refl

-- a picture with a byte has a column and a row
pub some_cells : {k : ℕ} (m n : ℕ) → Scale k → 1 ≤ 3 * (cells m k * cells n k) → (1 ≤ m) × (1 ≤ n)
some_cells {k} zero n s h = let e : cells zero k ≡ 0 = none_of s in let z : 1 ≤ 3 * (0 * cells n k) = rw e at h in absurd (omega arith)
some_cells {k} (suc m) zero s h =
    let e : cells zero k ≡ 0 = none_of s in let z : 1 ≤ 3 * (cells (suc m) k * 0) = rw e at h in absurd (omega (arith, mul-zero (cells (suc m) k)))
some_cells (suc m) (suc n) s h = (omega arith, omega arith)

length_shrunk : (k ww wh : ℕ) (px : List ℕ) → length (shrunk k ww wh px) ≡ 3 * (cells ww k * cells wh k)
unfolding shrunk
length_shrunk k ww wh px = table_length (3 * (cells ww k * cells wh k)) _

length_blurred : (lw lh : ℕ) (s : Float) (lo : List ℕ) → length lo ≡ 3 * (lw * lh) → length (blurred lw lh s lo) ≡ 3 * (lw * lh)
unfolding blurred
length_blurred lw lh s lo e = go (le point_four_five s) (le three s)
  where
    r : ℕ
    r = radius_of s

    go : (p q : Bool) → length (cond p (cond q (pass lw lh r (pass lw lh r (pass lw lh r lo))) (pass lw lh r (pass lw lh r lo))) lo) ≡ 3 * (lw * lh)
    go true true = length_pass lw lh r (pass lw lh r (pass lw lh r lo))
    go true false = length_pass lw lh r (pass lw lh r lo)
    go false q = e

length_tinted : (s : Float) (t : Color) (lo : List ℕ) → length (tinted s t lo) ≡ length lo
unfolding tinted
length_tinted s t lo = table_length (length lo) _

module _ (w h : ℕ) (rect : Rect) (style : GlassStyle) (lut : List Float) where
  pub length_picture : (cv : List ℕ) → length (picture w h rect style lut cv) ≡ picture_bytes w h rect style lut
  unfolding picture picture_of picture_bytes
  length_picture cv =
      let a = window_area w h rect style lut in
      let k = scale_of style.blur in
      let px = crop w a cv in
      length_tinted style.saturation style.tint (blurred (cells (columns a) k) (cells (rows a) k) (sigma style.blur k) (shrunk k (columns a) (rows a) px))
      ∙ length_blurred (cells (columns a) k) (cells (rows a) k) (sigma style.blur k) (shrunk k (columns a) (rows a) px) (length_shrunk k (columns a) (rows a) px)

  pub bytes_of : {win : Area} → win ≡ window_area w h rect style lut
      → picture_bytes w h rect style lut ≡ 3 * (cells (columns win) (scale_of style.blur) * cells (rows win) (scale_of style.blur))
  unfolding picture_bytes
  bytes_of e = rw e

  pub picture_by : {win : Area} (cv : List ℕ) → win ≡ window_area w h rect style lut
      → tinted style.saturation style.tint
      (blurred (cells (columns win) (scale_of style.blur)) (cells (rows win) (scale_of style.blur)) (sigma style.blur (scale_of style.blur))
      (shrunk (scale_of style.blur) (columns win) (rows win) (crop w win cv)))
      ≡ picture w h rect style lut cv
  unfolding picture picture_of
  picture_by cv e = rw e

-- ---- it goes by the window's pixels alone

table_same : (n : ℕ) (f g : ℕ → ℕ) → ((i : ℕ) → i < n → f i ≡ g i) → table n f ≡ table n g
table_same n f g e =
    ext_get_or 0 (table n f) (table n g) (table_length n f ∙ sym (table_length n g))
    (λ i h. let k : i < n = rw (table_length n f) at h in table_at n f i k ∙ e i k ∙ sym (table_at n g i k))

wide : (m n i : ℕ) → i < m * n → 0 < n
wide m zero i h = absurd (omega (arith, mul-zero m))
wide m (suc n) i h = omega arith

crop_same : (w : ℕ) (a : Area) (cv cv' : List ℕ)
    → ((x y : ℕ) → x < columns a → y < rows a → get_or cv ((a.y0 + y) * w + (a.x0 + x)) 0 ≡ get_or cv' ((a.y0 + y) * w + (a.x0 + x)) 0)
    → crop w a cv ≡ crop w a cv'
unfolding crop
crop_same w a cv cv' e =
    table_same (rows a * columns a) (λ i. get_or cv ((a.y0 + i / columns a) * w + (a.x0 + i % columns a)) 0) (λ i. get_or cv' ((a.y0 + i / columns a) * w + (a.x0 + i % columns a)) 0)
    (λ i h. let k = wide (rows a) (columns a) i h in e (i % columns a) (i / columns a) (mod-lt i k) ((div-lt_iff_lt-mul k).1 h))

module _ (w h : ℕ) (rect : Rect) (style : GlassStyle) (lut : List Float) where
  -- the window holds the pixels between its sides
  pub holds_area : (x y : ℕ) → let a = window_area w h rect style lut in x < columns a → y < rows a → holds (window_of w h rect style lut) (pos (a.x0 + x)) (pos (a.y0 + y)) ≡ true
  unfolding window_area area_of
  holds_area x y = go (is_empty (window_of w h rect style lut)) refl
    where
      c : Cut w h (window_of w h rect style lut)
      c = window_cut w h rect style lut

      go : (t : Bool) → is_empty (window_of w h rect style lut) ≡ t → let a = area_of (window_of w h rect style lut) in
          x < columns a → y < rows a → holds (window_of w h rect style lut) (pos (a.x0 + x)) (pos (a.y0 + y)) ≡ true
      go true e = rw e (λ p q. absurd (omega arith))
      go false e =
          rw (e, c.is)
          (λ p q.
          holds_box c.left c.top c.right c.bottom (c.left + x) (c.top + y)
          ∙ simp (le-leb c.left (c.left + x) (omega arith), lt-ltb (c.left + x) c.right (omega arith), le-leb c.top (c.top + y) (omega arith), lt-ltb (c.top + y) c.bottom (omega arith)))

  -- two canvases that agree at the window's pixels have one picture
  pub picture_window : (cv cv' : List ℕ)
      → ((x y : ℕ) → holds (window_of w h rect style lut) (pos x) (pos y) ≡ true → get_or cv (y * w + x) 0 ≡ get_or cv' (y * w + x) 0)
      → picture w h rect style lut cv ≡ picture w h rect style lut cv'
  unfolding picture
  picture_window cv cv' e =
      let a = window_area w h rect style lut in
      ap (picture_of style (columns a) (rows a))
      (crop_same w a cv cv' (λ x y p q. e (a.x0 + x) (a.y0 + y) (holds_area x y p q)))

-- ---- each of its numbers is a byte

byte_most : (z : ℤ) → byte z < 256
byte_most (pos n) = omega arith
byte_most (negsuc n) = omega arith

tinted_most : (sat : ℤ) (t a l c : ℕ) → tinted_byte sat t a l c < 256
unfolding tinted_byte
tinted_most sat t a l c = byte_most (toward t a (saturated sat l c))

pub tinted_byte_lem : (s : Float) (t : Color) (lo : List ℕ) (q : ℕ) → q < length lo → get_or (tinted s t lo) q 0 < 256
unfolding tinted
tinted_byte_lem s t lo q h =
    let f : ℕ → ℕ = λ k. tinted_byte (satq s) (shade (k % 3) t) t.a (lum_at lo (k / 3 * 3)) (get_or lo k 0) in
    subst (λ (n : ℕ). n < 256) (sym (table_at (length lo) f q h)) (tinted_most (satq s) (shade (q % 3) t) t.a (lum_at lo (q / 3 * 3)) (get_or lo q 0))

-- ---- the scratch slices

both_false : (t : Bool) → (t && false) ≡ false
both_false true = refl
both_false false = refl

-- the first n bytes of l were lent, and came back as `part`
pub lent_length : (n : ℕ) (l : List ℕ) → n ≤ length l → length (take n l) ≡ n
lent_length n l h = simp length-take (omega arith)

pub back_first : (n m : ℕ) (l part p : List ℕ) → n ≡ m → part ≡ p → part ++ drop n l ≡ p ++ drop m l
back_first n m l part p e f = rw (e, f)

pub back_rest : (u n : ℕ) (l part : List ℕ) → u ≡ n → length part ≡ n → drop u (part ++ drop n l) ≡ drop u l
back_rest u n l part e f = ap (λ (k : ℕ). drop k (part ++ drop n l)) (e ∙ sym f) ∙ drop-append_seam part (drop n l) ∙ ap (λ (k : ℕ). drop k l) (sym e)

pub back_length : (n : ℕ) (l part : List ℕ) → n ≤ length l → length part ≡ n → length (part ++ drop n l) ≡ length l
back_length n l part h e = simp (length-append, length-drop) (omega arith)

nothing : (l : List ℕ) → length l ≡ 0 → l ≡ []
nothing l e = ext_get_or 0 l [] e (λ i h. absurd (omega arith))

module _ (w h : ℕ) (rect : Rect) (style : GlassStyle) (lut : List Float) (cv a : List ℕ) (lb : ℕ) where
  -- the first is left alone where there is no canvas, no room or no picture
  pub no_canvas : is_canvas w h (length cv) ≡ false → a ≡ pictured w h rect style lut cv a lb
  unfolding pictured
  no_canvas e = rw e

  pub short_first : length a < picture_bytes w h rect style lut → a ≡ pictured w h rect style lut cv a lb
  unfolding pictured
  short_first k = rw (lt-leb (picture_bytes w h rect style lut) (length a) k, both_false (is_canvas w h (length cv)))

  pub short_second : lb < picture_bytes w h rect style lut → a ≡ pictured w h rect style lut cv a lb
  unfolding pictured
  short_second k =
      rw (lt-leb (picture_bytes w h rect style lut) lb k, both_false (leb (picture_bytes w h rect style lut) (length a)), both_false (is_canvas w h (length cv)))

  pub no_picture : picture_bytes w h rect style lut ≡ 0 → a ≡ pictured w h rect style lut cv a lb
  unfolding pictured
  no_picture e =
      let z : picture w h rect style lut cv ≡ [] = nothing (picture w h rect style lut cv) (length_picture w h rect style lut cv ∙ e) in
      rw (z, e) (sym (either (is_canvas w h (length cv) && (leb 0 (length a) && leb 0 lb))))
    where
      either : (t : Bool) → cond t a a ≡ a
      either true = refl
      either false = refl

  module _ (c : is_canvas w h (length cv) ≡ true) (p : picture_bytes w h rect style lut ≤ length a) (q : picture_bytes w h rect style lut ≤ lb) where
    pub room-first : picture w h rect style lut cv ++ drop (picture_bytes w h rect style lut) a ≡ pictured w h rect style lut cv a lb
    unfolding pictured
    room-first = rw (c, le-leb (picture_bytes w h rect style lut) (length a) p, le-leb (picture_bytes w h rect style lut) lb q)

    pub room-second : used w h rect style lut (length cv) (length a) lb ≡ picture_bytes w h rect style lut
    unfolding used
    room-second = rw (c, le-leb (picture_bytes w h rect style lut) (length a) p, le-leb (picture_bytes w h rect style lut) lb q)
