-- What the frame is made of: channels, the spans of a row, and the box on the canvas.
use Prim.Native.Nat.{ℕ, ◌+◌, ◌-◌, ◌≤◌, ◌<◌, min, max}
use mathlib.Core.Path.{◌≡◌, refl, sym, ap, ◌∙◌}
use mathlib.Core.Bool.{Bool, true, false, cond, ◌||◌, ◌&&◌}
use mathlib.Core.List.{List, ◌++◌}
use native.Mathlib.Decide.{dec_lt}
use native.Mathlib.Omega.{arith}
use lib.Dec.{ltb, leb}
use lib.IntN.{pos}
use lib.ListN.{length, take, drop, get_or, length-take}
use borrow.Author.Tests.{lt-ltb, le-ltb, le-leb, lt-leb}
use Rattle.color.proofs.Laws.{mean_bound}
use Rattle.geom.specs.declared.IRect.{IRect}
use Rattle.geom.specs.Geom.{holds, canvas, intersect}
use Rattle.geom.proofs.Laws.{box, holds_box, holds_intersect}
use Rattle.canvas.specs.declared.Area.{Area}
use Rattle.canvas.specs.Rows.{map_row}
use Rattle.canvas.specs.Canvas.{is_canvas, painted, painted_on, boxed}
use Rattle.canvas.proofs.Laws.Rows.{Rowed, rowed_end, map_row_same}
use Rattle.canvas.proofs.Laws.Spans.{back, rowed_head, rowed_span}
use Rattle.canvas.proofs.Laws.Canvas.{painted_same}
use Rattle.canvas.proofs.Laws.Area.{canvas_is}
use Rattle.canvas.proofs.Laws.Layer.{untouched}
use Rattle.frame.specs.declared.GlassSurface.{GlassSurface}
use Rattle.frame.specs.declared.Look.{Look}
use Rattle.frame.specs.declared.SecurityTag.{SecurityTag}
use Rattle.frame.specs.declared.SecurityTag.TheVariants.{ObsidianAdmin, PurpleVault, MintPersonal, BlueWork, AmberUsb, RedUntrustedNet, MagentaDisposable}
use Rattle.frame.specs.Frame.{alpha, tag_colors, bg_color, blend_ch, blend_pixel, window_pix, border_px, is_security_border, frame_box, is_frame, frame_rule}
use Rattle.frame.specs.Private.{number, look_of, framed}

and_true : (t : Bool) → t && true ≡ t
and_true true = refl
and_true false = refl

pub or_true : (t : Bool) → t || true ≡ true
or_true true = refl
or_true false = refl

-- ---- channels

pub blend_ch_bound : (a s d : ℕ) → a ≤ 255 → s < 256 → d < 256 → blend_ch a s d < 256
unfolding blend_ch
blend_ch_bound a s d ha hs hd = omega (arith, mean_bound 255 s d a hs hd ha)

pub blend_ch_none : (a : ℕ) → blend_ch a 0 0 ≡ 0
unfolding blend_ch
blend_ch_none a = omega arith

-- ---- rows

framed_border : (k : Look) (t : Bool) (p : ℕ) → t ≡ true → framed k t p ≡ k.edge
unfolding framed
framed_border k t p e = rw e

framed_window : (k : Look) (t : Bool) (p : ℕ) → t ≡ false → framed k t p ≡ blend_pixel p k.over k.a
unfolding framed
framed_window k t p e = rw e

module _ (k : Look) (l : List ℕ) (left right : ℕ) where
  abbrev whole : ℕ → ℕ → ℕ
  whole i p = framed k (ltb i left || leb right i) p

  at_left : (i p : ℕ) → i < left → whole i p ≡ k.edge
  at_left i p h = framed_border k _ p (simp (lt-ltb i left h))

  at_right : (i p : ℕ) → right ≤ i → whole i p ≡ k.edge
  at_right i p h = framed_border k _ p (simp (le-leb right i h, or_true))

  at_window : (i p : ℕ) → left ≤ i → i < right → whole i p ≡ blend_pixel p k.over k.a
  at_window i p h g = framed_window k _ p (simp (le-ltb i left h, lt-leb right i g))

  -- a border, the window and a border, lent one after the other
  pub three : {u v z : List ℕ} → left ≤ right → right ≤ length l
      → u ≡ map_row (λ i p. k.edge) (take left l)
      → (let r = u ++ drop left l in v ≡ map_row (λ i p. blend_pixel p k.over k.a) (take (right - left) (drop left r)))
      → (let s = back left right (u ++ drop left l) v in z ≡ map_row (λ i p. k.edge) (take (length s - right) (drop right s)))
      → (let s = back left right (u ++ drop left l) v in back right (length s) s z ≡ map_row whole l)
  three {u} {v} {z} a b eu ev ez =
      let r = u ++ drop left l in
      let s = back left right r v in
      let R : Rowed whole l r left = rowed_head left (omega arith) (eu ∙ map_row_same _ _ _ (λ i h. sym (at_left i _ (omega (arith, length-take left l))))) in
      let S = rowed_span {f = whole} (λ i p. blend_pixel p k.over k.a) right R a (omega (arith, R.long)) (λ i p h. at_window (left + i) p (omega arith) h) ev in
      let Q = rowed_span {f = whole} (λ i p. k.edge) (length s) S (omega (arith, S.long)) (omega arith) (λ i p h. at_right (right + i) p (omega arith)) ez in
      rowed_end Q (omega (arith, Q.long))

-- a row of the border, and a row of the window: its first b columns and its last b are the border's
module _ (k : Look) (l : List ℕ) (b : ℕ) where
  abbrev column : ℕ → Bool
  column i = ltb i b || leb (length l - b) i

  pub border_row : {row : Bool} → row ≡ true → map_row (λ i p. k.edge) l ≡ map_row (λ i p. framed k (row || column i) p) l
  border_row {row} e = map_row_same (λ i p. k.edge) (λ i p. framed k (row || column i) p) l (λ i h. sym (framed_border k (row || column i) (get_or l i 0) (rw e)))

  ends : (i : ℕ) → i < length l → ltb i (min b (length l)) || leb (max (min b (length l)) (length l - b)) i ≡ column i
  ends i h = elim (dec_lt i b) [
    | yes lo ↦
        let m : i < min b (length l) = omega arith in
        simp (lt-ltb i b lo, lt-ltb i (min b (length l)) m)
    | no hi ↦
        let m : min b (length l) ≤ i = omega arith in
        let n : b ≤ i = omega arith in
        simp (le-ltb i b n, le-ltb i (min b (length l)) m) (elim (dec_lt i (length l - b)) [
          | yes lo ↦
              let q : i < max (min b (length l)) (length l - b) = omega arith in
              simp (lt-leb (length l - b) i lo, lt-leb _ i q)
          | no up ↦
              let q : max (min b (length l)) (length l - b) ≤ i = omega arith in
              let r : length l - b ≤ i = omega arith in
              simp (le-leb (length l - b) i r, le-leb _ i q)
        ])
  ]

  pub window_row : {row : Bool} {left right : ℕ} → row ≡ false → left ≡ min b (length l) → right ≡ max left (length l - b)
      → map_row (λ i p. framed k (ltb i left || leb right i) p) l ≡ map_row (λ i p. framed k (row || column i) p) l
  window_row {row} {left} {right} e f g = map_row_same (λ i p. framed k (ltb i left || leb right i) p) (λ i p. framed k (row || column i) p) l
      (λ i h. ap (λ (t : Bool). framed k t (get_or l i 0)) (rw (e, g, f) (ends i h)))

-- ---- the frame

-- rows first, then columns
module _ (s : GlassSurface) (k : Look) where
  sorted : (rows first last title : Bool) → ((rows || first) || last) || title ≡ (rows || title) || (first || last)
  sorted true first last title = refl
  sorted false true last true = refl
  sorted false true last false = refl
  sorted false false true true = refl
  sorted false false true false = refl
  sorted false false false true = refl
  sorted false false false false = refl

  pub by_rows : {b n : ℕ} (row col p : ℕ) → b ≡ border_px s → n ≡ s.width
      → framed k (is_security_border s row col) p ≡ framed k ((ltb row b || leb (s.height - b) row || ltb row 28) || (ltb col b || leb (n - b) col)) p
  unfolding is_security_border
  by_rows {b} {n} row col p e f =
      let border = border_px s in
      rw (e, f)
      (ap (λ (t : Bool). framed k t p)
      (sorted (ltb row border || leb (s.height - border) row) (ltb col border) (leb (s.width - border) col) (ltb row 28)))

-- a row of the window and its frame, which lies on the canvas as a whole
pub row_here : (s : GlassSurface) (k : Look) (a : Area) (b y : ℕ) (l : List ℕ)
    → a ≡ record { x0 = s.x; y0 = s.y; x1 = s.x + s.width; y1 = s.y + s.height } → b ≡ border_px s → a.x0 + length l ≡ a.x1
    → map_row (λ i p. framed k ((ltb (y - a.y0) b || leb (s.height - b) (y - a.y0) || ltb (y - a.y0) 28) || (ltb i b || leb (length l - b) i)) p) l
    ≡ map_row (λ i p. framed k (is_security_border s (y - s.y) ((a.x0 + i) - s.x)) p) l
row_here s k a b y l e f n = map_row_same _ _ l (λ i h.
    let left : a.x0 ≡ s.x = ap (λ (t : Area). t.x0) e in
    let right : a.x1 ≡ s.x + s.width = ap (λ (t : Area). t.x1) e in
    let at : (a.x0 + i) - s.x ≡ i = omega arith in
    rw (at, ap (λ (t : Area). t.y0) e) (sym (by_rows s k (y - s.y) i (get_or l i 0) f (omega arith))))

-- ---- whether a frame is painted
pub number_low : (t : SecurityTag) → number t ≤ 6
number_low ObsidianAdmin = omega arith
number_low PurpleVault = omega arith
number_low MintPersonal = omega arith
number_low BlueWork = omega arith
number_low AmberUsb = omega arith
number_low RedUntrustedNet = omega arith
number_low MagentaDisposable = omega arith

pub no_tag : (w : ℕ) (s : GlassSurface) (tag : ℕ) → 6 < tag → is_frame w s tag ≡ false
unfolding is_frame
no_tag w s tag h = simp (lt-leb tag 6 h)

pub too_wide : (w : ℕ) (s : GlassSurface) (tag : ℕ) (t : SecurityTag) → number t ≡ tag → w < s.x + s.width → is_frame w s tag ≡ false
unfolding is_frame
too_wide w s tag t e h = let low : tag ≤ 6 = omega (arith, number_low t) in simp (le-leb tag 6 low, lt-leb (s.x + s.width) w h)

pub fits : (w : ℕ) (s : GlassSurface) (tag : ℕ) (t : SecurityTag) → number t ≡ tag → s.x + s.width ≤ w → is_frame w s tag ≡ true
unfolding is_frame
fits w s tag t e h = let low : tag ≤ 6 = omega (arith, number_low t) in simp (le-leb tag 6 low, le-leb (s.x + s.width) w h)

-- ---- the canvas
module _ (w h : ℕ) where
  -- on a canvas, a box is what the canvas leaves of it
  on_it : (r : IRect) (x y : ℕ) → x < w → y < h → holds r (pos x) (pos y) ≡ holds (intersect r (canvas w h)) (pos x) (pos y)
  on_it r x y a b = let c : holds (canvas w h) (pos x) (pos y) ≡ true = holds_box 0 0 w h x y ∙ simp (le-leb 0 x (omega arith), lt-ltb x w a, le-leb 0 y (omega arith), lt-ltb y h b) in
      sym (holds_intersect r (canvas w h) (pos x) (pos y) ∙ rw c (and_true (holds r (pos x) (pos y))))

  pub cut : (r : IRect) (F G : ℕ → ℕ → ℕ → ℕ) (cv : List ℕ) → ((x y p : ℕ) → F x y p ≡ G x y p) → painted_on w h (boxed r F) cv ≡ painted_on w h (boxed (intersect r (canvas w h)) G) cv
  unfolding painted_on boxed
  cut r F G cv e = go (is_canvas w h (length cv)) refl
    where
      go : (t : Bool) → is_canvas w h (length cv) ≡ t → cond t (painted w (boxed r F) cv) cv ≡ cond t (painted w (boxed (intersect r (canvas w h)) G) cv) cv
      go false f = refl
      go true f = painted_same w h (boxed r F) (boxed (intersect r (canvas w h)) G) cv (canvas_is w h (length cv) f).size (λ x y p a b. rw (on_it r x y a b, e x y p))

module _ (w h : ℕ) (s : GlassSurface) (tag : ℕ) (tint xray : Bool) where
  pub no_frame : (cv : List ℕ) → is_frame w s tag ≡ false → cv ≡ painted_on w h (frame_rule w h s tag tint xray) cv
  unfolding frame_rule
  no_frame cv f = untouched w h (frame_box w h s) _ cv (λ x y p. rw f)

  -- what a frame is painted with is what its pixels become
  window : (b : Bool) (p : ℕ) → framed (look_of tag tint xray) b p ≡ cond b (tag_colors tag).border (window_pix tag tint xray p)
  unfolding framed look_of window_pix
  window true p = refl
  window false p = go xray
    where
      go : (t : Bool) → let bg = bg_color (tag_colors tag) tint in
          blend_pixel p (cond t (tag_colors tag).border bg) (cond t 96 (alpha bg)) ≡ cond t (blend_pixel p (tag_colors tag).border 96) (blend_pixel p bg (alpha bg))
      go true = refl
      go false = refl

  pub framed_rule : is_frame w s tag ≡ true → (cv : List ℕ)
      → painted_on w h (boxed (box s.x s.y (s.x + s.width) (s.y + s.height)) (λ u v p. framed (look_of tag tint xray) (is_security_border s (v - s.y) (u - s.x)) p)) cv
      ≡ painted_on w h (frame_rule w h s tag tint xray) cv
  unfolding frame_rule frame_box
  framed_rule f cv = rw f (cut w h (box s.x s.y (s.x + s.width) (s.y + s.height)) _ _ cv (λ x y p. window (is_security_border s (y - s.y) (x - s.x)) p))
