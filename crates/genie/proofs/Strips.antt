-- What the genie's rows are made of: the row after a row, the source's column under a column, and a box of one row.
use Prim.Native.Nat.{ℕ, zero, suc, ◌+◌, ◌-◌, ◌*◌, ◌/◌, ◌^◌, ◌≤◌, ◌<◌, min}
use mathlib.Core.Path.{◌≡◌, refl, sym, ap, ◌∙◌}
use mathlib.Core.Bool.{true, false}
use mathlib.Core.List.{List}
use native.Mathlib.Decide.{dec_lt}
use native.Mathlib.Omega.{arith}
use lib.ListN.{length, take, drop, get_or}
use lib.IntN.{ℤ, pos, negsuc, neg_ℤ, nat_abs, ◌+ℤ◌}
use lib.Ieee.{Float, nan, inf, fin, up, down, to_signed, to_unsigned}
use borrow.Author.Tests.{lt-ltb, le-ltb}
use Rattle.mathf.proofs.Laws.Cut.{narrower}
use Rattle.geom.specs.declared.IRect.{IRect}
use Rattle.geom.specs.Geom.{min_z, intersect}
use Rattle.geom.proofs.Laws.{low, clip, box, cut_canvas, cut_again, cut_sides}
use Rattle.canvas.specs.declared.Area.{Area}
use Rattle.color.specs.Color.{mix_pix}
use Rattle.canvas.specs.Rows.{map_row}
use Rattle.canvas.proofs.Laws.Rows.{get_d-map_row, length_map_row}
use Rattle.canvas.specs.Canvas.{painted, painted_on, boxed, box_on, area_on}
use Rattle.canvas.proofs.Laws.Area.{OnCanvas, painted_on_lem, area_none, area_under}
use Rattle.canvas.proofs.Laws.Canvas.{row_in}
use Rattle.canvas.proofs.Laws.Spans.{back}
use Rattle.canvas.proofs.Laws.Box.{Boxing, box_start, box_row, box_end}
use Rattle.edge.specs.Edge.{clamp_z}
use Rattle.sources.specs.declared.Sides.{Sides}
use Rattle.scaled.specs.Private.{LentRow}
use Rattle.scaled.proofs.Lent.{lent_row}
use Rattle.sources.specs.Source.{is_source, start_of}
use Rattle.sources.proofs.Laws.{source_is}
use Rattle.genie.specs.declared.Strip.{Strip}
use Rattle.genie.specs.declared.Flight.{Flight}
use Rattle.genie.specs.Genie.{strip_box, row_part, strip_of, column, coverage, genie_pix, full_of, genie_row, in_turn}
use Rattle.genie.specs.Private.{row_pix}

-- ---- the row of a strip

-- it is at most one row on
after_near : (y : ℤ) (b : ℕ) → clip (min_z (y +ℤ pos 1) (pos 2147483647)) b ≤ low y + 1
unfolding min_z
after_near (pos a) b = elim (dec_lt 2147483647 (a + 1)) [
  | yes h ↦ simp (lt-ltb 2147483647 (a + 1) h) (omega arith)
  | no h ↦ let k : a + 1 ≤ 2147483647 = omega arith in simp (le-ltb 2147483647 (a + 1) k) (omega arith)
]
after_near (negsuc zero) b = omega arith
after_near (negsuc (suc a)) b = let k : 1 < suc (suc a) = omega arith in simp (lt-ltb 1 (suc (suc a)) k) (omega arith)

-- so a row's box on the canvas is one row
pub one_row : {w h : ℕ} {clip : IRect} {cv : List ℕ} {a : Area} (k : Strip) → OnCanvas w h clip (strip_box k) cv a → a.y1 ≡ a.y0 + 1
unfolding box_on strip_box
one_row {w} {h} {clip} {cv} {a} k o =
    let c = cut_again clip (cut_canvas w h) in
    let r = strip_box k in
    let e : box a.x0 a.y0 a.x1 a.y1 ≡ box _ _ _ _ = sym o.sides ∙ ap (intersect r) c.is ∙ cut_sides r c.left c.top c.right c.bottom in
    omega (arith, ap (λ (b : IRect). nat_abs b.y0) e, ap (λ (b : IRect). nat_abs b.y1) e, after_near k.y c.bottom, o.down)

-- ---- the source's column

clamp_pos : (q m : ℕ) → nat_abs (clamp_z (pos q) (pos 0) (pos m)) ≡ min q m
unfolding clamp_z
clamp_pos q m = let z : 0 ≤ q = omega arith in elim (dec_lt m q) [
  | yes h ↦ simp (le-ltb q 0 z, lt-ltb m q h) (omega arith)
  | no h ↦ let k : q ≤ m = omega arith in simp (le-ltb q 0 z, le-ltb m q k) (omega arith)
]

clamp_neg : (q m : ℕ) → nat_abs (clamp_z (neg_ℤ (pos q)) (pos 0) (pos m)) ≡ 0
unfolding clamp_z
clamp_neg zero m = omega (arith, clamp_pos 0 m)
clamp_neg (suc q) m = refl

-- a cast to an i32, held to 0 .. m, is the cast to 12 bits, held to m
pub clamp_cast : (f : Float) (m : ℕ) → m ≤ 4095 → nat_abs (clamp_z (to_signed 31 f) (pos 0) (pos m)) ≡ min (to_unsigned 12 f) m
unfolding to_signed to_unsigned
clamp_cast nan m h = clamp_pos 0 m
clamp_cast (inf true) m h = clamp_neg (2 ^ 31) m ∙ omega arith
clamp_cast (inf false) m h = clamp_pos (2 ^ 31 - 1) m ∙ omega arith
clamp_cast (fin true n e) m h = clamp_neg (min (n * up e / down e) (2 ^ 31)) m ∙ omega arith
clamp_cast (fin false n e) m h = clamp_pos (min (n * up e / down e) (2 ^ 31 - 1)) m ∙ held (n * up e / down e)
  where
    held : (q : ℕ) → min (min q (2 ^ 31 - 1)) m ≡ min (min q (2 ^ 12 - 1)) m
    held q = omega arith

-- it lies in the source
pub column_in : (sw : ℕ) (k : Strip) (x : ℕ) → 1 ≤ sw → column sw k x < sw
unfolding column
column_in sw k x h = below _
  where
    below : (z : ℤ) → nat_abs (clamp_z z (pos 0) (pos (sw - 1))) < sw
    below (pos q) = omega (arith, clamp_pos q (sw - 1))
    below (negsuc q) = omega (arith, clamp_neg (suc q) (sw - 1))

-- ---- the row's pixels

-- a mix is cut at 256 parts, so a coverage of 12 bits does
pub mix_cast : (p s : ℕ) (f : Float) → mix_pix p s (to_unsigned 12 f) ≡ mix_pix p s (to_unsigned 32 f)
unfolding mix_pix
mix_cast p s f =
    let e : min (to_unsigned 12 f) 256 ≡ min (to_unsigned 32 f) 256 = omega (arith, narrower f) in
    rw e

-- from the line: the row's columns, and then its colours in them
module _ (row : List ℕ) (k : Strip) (x : ℕ) (line : List ℕ) {columns : List ℕ} (ec : columns ≡ map_row (λ i p. column (length row) k (x + i)) line) where
  column_at : (i : ℕ) → i < length line → get_or columns i 0 ≡ column (length row) k (x + i)
  column_at i h = ap (λ (l : List ℕ). get_or l i 0) ec ∙ get_d-map_row _ line i h

  long : length columns ≡ length line
  long = ap length ec ∙ length_map_row _ line

  pub columns_in : 1 ≤ length row → (i : ℕ) → i < length columns → get_or columns i 0 < length row
  columns_in w i h = omega (arith, column_at i (omega (arith, long)), column_in (length row) k (x + i) w)

  pub colour_pix : {colours : List ℕ} → colours ≡ map_row (λ i q. get_or row q 0) columns → (full : Float) (i p : ℕ) → i < length line
      → row_pix row k full (x + i) p ≡ mix_pix p (get_or colours i 0) (coverage k full (x + i))
  unfolding row_pix
  colour_pix {colours} es full i p h =
      ap (λ (s : ℕ). mix_pix p s (coverage k full (x + i)))
      (sym (ap (λ (l : List ℕ). get_or l i 0) es ∙ get_d-map_row (λ j q. get_or row q 0) columns i (omega (arith, long)) ∙ ap (λ (q : ℕ). get_or row q 0) (column_at i h)))

-- a row that is lent paints as the source's row does
module _ {src : List ℕ} {s : Sides} {sy : ℕ} {row : List ℕ} (L : LentRow src s sy row) (wide : 1 ≤ s.w) (k : Strip) (full : Float) where
  row_pix_lem : (x p : ℕ) → row_pix row k full x p ≡ genie_pix src s sy k full x p
  unfolding row_pix genie_pix
  row_pix_lem x p =
      ap (λ (t : ℕ). mix_pix p t (coverage k full x))
      (ap (λ (w : ℕ). get_or row (column w k x) 0) L.long ∙ L.is (column s.w k x) (column_in s.w k x wide))

  pub row_paints : (w h : ℕ) (b : IRect) (cv : List ℕ)
      → painted_on w h (boxed b (λ x y p. row_pix row k full x p)) cv ≡ painted_on w h (boxed b (λ x y p. genie_pix src s sy k full x p)) cv
  row_paints w h b cv = λ i. painted_on w h (boxed b (λ x y p. row_pix_lem x p i)) cv

-- the source's row sy, lent from its start on, is painted by its rule
pub lent_paints : (w h : ℕ) (clip : IRect) (src : List ℕ) (s : Sides) (g : Flight) (sy : ℕ) {from : ℕ} {k : Strip} {full : Float} (cv : List ℕ)
    → is_source s (length src) ≡ true → sy < s.h → from ≡ start_of s sy → k ≡ strip_of g (row_part sy s.h) → full ≡ full_of g.alpha
    → painted_on w h (boxed (box_on w h clip (strip_box k)) (λ x y p. row_pix (take (from + s.w - from) (drop from src)) k full x p)) cv ≡ painted_on w h (genie_row w h clip src s g sy) cv
unfolding genie_row
lent_paints w h clip src s g sy {from} {k} {full} cv i l e ek ef =
    rw (sym ek, sym ef) (row_paints (lent_row src s sy i l e) (source_is s (length src) i).wide k full w h (box_on w h clip (strip_box k)) cv)

-- ---- the row's box

module _ {w h : ℕ} {clip : IRect} {cv : List ℕ} {a : Area} (k : Strip) (o : OnCanvas w h clip (strip_box k) cv a) where
  -- they lie within the canvas, and far below the largest number
  pub row_room : (a.y0 * w + a.x0 ≤ a.y0 * w + a.x1) × (a.y0 * w + a.x1 ≤ length cv) × (a.y0 * w + a.x1 ≤ 16777216)
  row_room = (
    omega (arith, o.across),
    omega (arith, o.canvas.size, row_in w h a.y0 a.x1 (omega (arith, o.down, o.in_height)) o.in_width),
    omega (arith, o.canvas.narrow, row_in w 4096 a.y0 a.x1 (omega (arith, o.down, o.in_height, o.canvas.low)) o.in_width),
  )

  -- lent to a row function whose rule is f
  pub row_painted : (F : ℕ → ℕ → ℕ → ℕ) (f : ℕ → ℕ → ℕ) {part : List ℕ} → ((i p : ℕ) → a.x0 + i < a.x1 → F (a.x0 + i) a.y0 p ≡ f i p)
      → part ≡ map_row f (take ((a.y0 * w + a.x1) - (a.y0 * w + a.x0)) (drop (a.y0 * w + a.x0) cv))
      → back (a.y0 * w + a.x0) (a.y0 * w + a.x1) cv part ≡ painted_on w h (boxed (box_on w h clip (strip_box k)) F) cv
  row_painted F f {part} q e =
      let start : Boxing w h a.x0 a.y0 a.x1 a.y1 F cv cv a.y0 = box_start o.canvas.size (omega (arith, o.across)) o.in_width (omega (arith, o.down)) o.in_height in
      box_end (box_row f start o.down q e) (omega (arith, one_row k o))
      ∙ ap (λ (r : IRect). painted w (boxed r F) cv) (sym o.sides) ∙ painted_on_lem w h _ cv o.test

-- ---- the rows in turn: one of them is painted, and the others are left
pub turn_row : (w h : ℕ) (R : ℕ → ℕ → ℕ → ℕ → ℕ) (n : ℕ) (px : List ℕ) {px' : List ℕ} → 0 < n → px' ≡ painted_on w h (R (n - 1)) px → in_turn w h R (n - 1) px' ≡ in_turn w h R n px
unfolding in_turn
turn_row w h R zero px z e = absurd (omega arith)
turn_row w h R (suc n) px z e = let m : suc n - 1 ≡ n = omega arith in rw m (ap (in_turn w h R n) (rw m at e))

pub turn_end : (w h : ℕ) (R : ℕ → ℕ → ℕ → ℕ → ℕ) (n : ℕ) (px : List ℕ) → n ≤ 0 → px ≡ in_turn w h R n px
unfolding in_turn
turn_end w h R zero px z = refl
turn_end w h R (suc n) px z = absurd (omega arith)

-- ---- a clip that has no pixel of the canvas

-- rules that change nothing, in turn
turns_none : (w h : ℕ) (R : ℕ → ℕ → ℕ → ℕ → ℕ) (n : ℕ) (cv : List ℕ) → ((m : ℕ) → cv ≡ painted_on w h (R m) cv) → cv ≡ in_turn w h R n cv
unfolding in_turn
turns_none w h R zero cv q = refl
turns_none w h R (suc n) cv q = turns_none w h R n cv q ∙ ap (in_turn w h R n) (q n)

pub none_under : (w h : ℕ) (clip : IRect) (src : List ℕ) (s : Sides) (g : Flight) (n : ℕ) (cv : List ℕ) → (area_on (length cv) w h clip clip).x1 ≡ 0 → cv ≡ in_turn w h (genie_row w h clip src s g) n cv
unfolding genie_row
none_under w h clip src s g n cv z = turns_none w h (genie_row w h clip src s g) n cv (λ m. area_none w h clip (strip_box (strip_of g (row_part m s.h))) cv _ (area_under w h clip _ cv z))
