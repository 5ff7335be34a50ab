-- The cells of the window: what the code sums along the canvas's rows is what the definition sums over the window's own pixels, and the rows of cells are the picture.
use Prim.Native.Nat.{ℕ, zero, suc, ◌+◌, ◌-◌, ◌*◌, ◌/◌, ◌%◌, ◌≤◌, ◌<◌, min}
use mathlib.Core.Path.{◌≡◌, refl, sym, ap, ap₂, ◌∙◌, subst}
use mathlib.Core.Logic.{inl, inr, ⊎_elim}
use mathlib.Core.List.{List}
use native.Mathlib.Nat.{add-zero, zero-add, add_assoc, mod-lt, div-add-mod', div-lt_iff_lt-mul}
use native.Mathlib.Omega.{arith}
use lib.Arith.{digits_lt, digits_div, digits_mod}
use lib.ListN.{length, get_or, take, drop}
use lib.Seq.{ext_get_or}
use Rattle.boxblur.specs.Box.{total, table}
use Rattle.boxblur.proofs.Sums.{total_ext}
use Rattle.boxblur.proofs.Laws.Reach.{total_below}
use Rattle.boxblur.proofs.Pass.{table_length, table_at}
use Rattle.geom.proofs.Laws.{box}
use Rattle.canvas.specs.Rows.{map_row}
use Rattle.canvas.specs.Canvas.{painted, boxed}
use Rattle.canvas.proofs.Laws.Rows.{get_d-map_row, length_map_row, map_row_same}
use Rattle.canvas.proofs.Laws.Spans.{back}
use Rattle.canvas.proofs.Laws.Canvas.{row_in}
use Rattle.canvas.proofs.Laws.Box.{boxed_in, Boxing, box_row}
use Rattle.canvas.specs.declared.Area.{Area}
use Rattle.backdrop.specs.Window.{columns, rows, cells}
use Rattle.backdrop.specs.Picture.{crop, channel, pixel_at, cell_mean, shrunk}
use Rattle.backdrop.specs.Private.{Shown, AnyScale, RowsIn, row_start, four_rows, along, block_mean}
use Rattle.backdrop.proofs.Laws.Window.{Scale, by_one, by_two, by_four}

-- a row of the window lies on the canvas
pub row_room : {n w h : ℕ} {a : Area} → Shown n w h a → (v : ℕ) → row_start w a v + columns a ≤ n
row_room {n} {w} {h} {a} s v =
    let k : (a.y0 + min v (rows a - 1)) * w + a.x1 ≤ h * w = row_in w h (a.y0 + min v (rows a - 1)) a.x1 (inside s.tall s.in_height) s.in_width in
    omega (arith, s.size, s.wide)
  where
    inside : a.y0 < a.y1 → a.y1 ≤ h → a.y0 + min v (rows a - 1) < h
    inside p q = omega arith

pub four_room : {n w h : ℕ} {a : Area} {s : List ℕ} → Shown n w h a → (v : ℕ) → s ≡ four_rows w a v → RowsIn n (columns a - 1) s
four_room {n} {w} {h} {a} p v e = rw e (in_row_lem v, in_row_lem (v + 1), in_row_lem (v + 2), in_row_lem (v + 3))
  where
    in_row_lem : (v : ℕ) → row_start w a v + (columns a - 1) < n
    in_row_lem v = last (row_start w a v) (row_room p v) p.wide
      where
        last : (s : ℕ) → s + columns a ≤ n → a.x0 < a.x1 → s + (columns a - 1) < n
        last s h k = omega arith

four_at : (w : ℕ) (a : Area) (v j : ℕ) → j < 4 → get_or (four_rows w a v) j 0 ≡ row_start w a (v + j)
four_at w a v zero h = ap (row_start w a) (sym (add-zero v))
four_at w a v (suc zero) h = refl
four_at w a v (suc (suc zero)) h = refl
four_at w a v (suc (suc (suc zero))) h = refl
four_at w a v (suc (suc (suc (suc j)))) h = absurd (omega arith)

pub scale_of : {k : ℕ} → AnyScale k → Scale k
scale_of s = ⊎_elim (λ (e : _ ≡ 1). rw e by_one) (λ (t : _). ⊎_elim (λ (e : _ ≡ 2). rw e by_two) (λ (e : _ ≡ 4). rw e by_four) t) s

pub any_scale : {k : ℕ} → Scale k → AnyScale k
any_scale by_one = inl refl
any_scale by_two = inr (inl refl)
any_scale by_four = inr (inr refl)

module _ (w : ℕ) (a : Area) (cv : List ℕ) (wide : a.x0 < a.x1) (tall : a.y0 < a.y1) where
  crop_at : (x y : ℕ) → x < columns a → y < rows a → get_or (crop w a cv) (y * columns a + x) 0 ≡ get_or cv ((a.y0 + y) * w + a.x0 + x) 0
  unfolding crop
  crop_at x y p q =
      table_at (rows a * columns a) (λ i. get_or cv ((a.y0 + i / columns a) * w + (a.x0 + i % columns a)) 0) (y * columns a + x) (digits_lt q p)
      ∙ ap₂ (λ (q r : ℕ). get_or cv ((a.y0 + q) * w + (a.x0 + r)) 0) (digits_div y p) (digits_mod y p)
      ∙ ap (λ (n : ℕ). get_or cv n 0) (sym (add_assoc ((a.y0 + y) * w) a.x0 x))

  along_is : (k x y ch : ℕ) → along k cv (row_start w a y) (columns a - 1) x ch ≡ total k (λ i. channel ch (pixel_at (columns a) (rows a) (crop w a cv) (x + i) y))
  unfolding along pixel_at
  along_is k x y ch =
      total_ext k (λ i. channel ch (get_or cv (row_start w a y + min (x + i) (columns a - 1)) 0))
      (λ i. channel ch (get_or (crop w a cv) (min y (rows a - 1) * columns a + min (x + i) (columns a - 1)) 0))
      (λ i. ap (channel ch) (sym (crop_at (min (x + i) (columns a - 1)) (min y (rows a - 1)) (omega arith) (omega arith))))

  mean_k : (k : ℕ) → k ≤ 4 → (ch x y : ℕ) → block_mean k cv (four_rows w a (k * y)) (columns a - 1) (k * x) ch ≡ cell_mean k (columns a) (rows a) (crop w a cv) ch x y
  unfolding block_mean cell_mean
  mean_k k h ch x y =
      ap (λ (s : ℕ). s / (k * k))
      (total_below k (λ j. along k cv (get_or (four_rows w a (k * y)) j 0) (columns a - 1) (k * x) ch)
      (λ j. total k (λ i. channel ch (pixel_at (columns a) (rows a) (crop w a cv) (k * x + i) (k * y + j))))
      (λ j l. ap (λ (s : ℕ). along k cv s (columns a - 1) (k * x) ch) (four_at w a (k * y) j (below l h)) ∙ along_is k (k * x) (k * y + j) ch))
    where
      below : {j : ℕ} → j < k → k ≤ 4 → j < 4
      below p q = omega arith

  -- a row of cells as the code makes it is the definition's row y
  module _ (y : ℕ) (out : List ℕ) {r : List ℕ} where
    pub row-k : (k : ℕ) → k ≤ 4 → {s : List ℕ} → s ≡ four_rows w a (k * y) → r ≡ map_row (λ i p. block_mean k cv s (columns a - 1) (k * (i / 3)) (i % 3)) out
        → r ≡ map_row (λ i p. cell_mean k (columns a) (rows a) (crop w a cv) (i % 3) (i / 3) y) out
    row-k k h {s} e q =
        q
        ∙ map_row_same (λ i p. block_mean k cv s (columns a - 1) (k * (i / 3)) (i % 3)) (λ i p. cell_mean k (columns a) (rows a) (crop w a cv) (i % 3) (i / 3) y) out
        (λ i l. rw e (mean_k k h (i % 3) (i / 3) y))

-- ---- rows of n = 3 × lw bytes, one for each row of cells

-- byte q of the picture, by its row and its place there
pub record Placed (lw q : ℕ) : Type 0 where
  pub channel_is : q % (3 * lw) % 3 ≡ q % 3
  pub column_is : q % (3 * lw) / 3 ≡ q / 3 % lw
  pub row_is : q / (3 * lw) ≡ q / 3 / lw

pub placed : (lw q : ℕ) → 1 ≤ lw → Placed lw q
placed lw q h =
    let n : ℕ = 3 * lw in
    let s : q / (3 * lw) * (3 * lw) + q % (3 * lw) ≡ q = div-add-mod' q (3 * lw) in
    let r : q % (3 * lw) < 3 * lw = mod-lt q (omega arith) in
    let c : q % (3 * lw) / 3 < lw = omega arith in
    let d : q / 3 ≡ q / (3 * lw) * lw + q % (3 * lw) / 3 = omega arith in
    record {
      channel_is = omega arith;
      column_is = sym (ap (λ (m : ℕ). m % lw) d ∙ digits_mod (q / (3 * lw)) c);
      row_is = sym (ap (λ (m : ℕ). m / lw) d ∙ digits_div (q / (3 * lw)) c);
    }

-- the rows painted one after the other are the picture
pub rows_shrunk : (k ww wh : ℕ) (px out : List ℕ) → 1 ≤ cells ww k → length out ≡ 3 * (cells ww k * cells wh k)
    → painted (3 * cells ww k) (boxed (box 0 0 (3 * cells ww k) (cells wh k)) (λ c y p. cell_mean k ww wh px (c % 3) (c / 3) y)) out ≡ shrunk k ww wh px
unfolding shrunk
rows_shrunk k ww wh px out h e =
    let lw = cells ww k in
    let lh = cells wh k in
    let F = boxed (box 0 0 (3 * lw) lh) (λ c y p. cell_mean k ww wh px (c % 3) (c / 3) y) in
    let g : ℕ → ℕ = λ q. cell_mean k ww wh px (q % 3) (q / 3 % lw) (q / 3 / lw) in
    ext_get_or 0 (painted (3 * lw) F out) (table (3 * (lw * lh)) g) (length_map_row _ out ∙ e ∙ sym (table_length (3 * (lw * lh)) g))
    (λ q hq.
    let a : q < length out = subst (λ (m : ℕ). q < m) (length_map_row _ out) hq in
    let b : q < 3 * (lw * lh) = omega arith in
    let d : q < lh * (3 * lw) = omega arith in
    let p = placed lw q h in
    get_d-map_row _ out q a
    ∙ boxed_in 0 0 (3 * lw) lh (λ c y p. cell_mean k ww wh px (c % 3) (c / 3) y) (q % (3 * lw)) (q / (3 * lw)) (get_or out q 0)
    (omega arith) (mod-lt q (omega arith)) (omega arith) ((div-lt_iff_lt-mul {k = 3 * lw} (omega arith)).1 d)
    ∙ rw (p.channel_is, p.column_is, p.row_is) (sym (table_at (3 * (lw * lh)) g q b)))

-- one turn of a loop over whole rows: the box begins at column 0
pub whole_row : {w h y1 : ℕ} {F : ℕ → ℕ → ℕ → ℕ} {cv px : List ℕ} {y : ℕ} (f : ℕ → ℕ → ℕ) {part : List ℕ} → Boxing w h 0 0 w y1 F cv px y → y < y1
    → ((i p : ℕ) → F i y p ≡ f i p)
    → part ≡ map_row f (take ((y * w + w) - y * w) (drop (y * w) px))
    → Boxing w h 0 0 w y1 F cv (back (y * w) (y * w + w) px part) (y + 1)
whole_row {w} {h} {y1} {F} {cv} {px} {y} f {part} b k q e =
    subst (λ (s : ℕ). part ≡ map_row f (take ((y * w + w) - s) (drop s px)) → Boxing w h 0 0 w y1 F cv (back s (y * w + w) px part) (y + 1)) (add-zero (y * w))
    (λ d. box_row f b k (λ i p _. ap (λ (x : ℕ). F x y p) (zero-add i) ∙ q i p) d) e
