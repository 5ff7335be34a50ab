-- The boxes by their places: block i's four numbers stand from place 4 i on.
use Prim.Native.Nat.{ℕ, zero, suc, ◌+◌, ◌*◌, ◌/◌, ◌≤◌, ◌<◌}
use mathlib.Core.Path.{◌≡◌, refl, sym, ap, ◌∙◌}
use mathlib.Core.Bool.{true, false}
use mathlib.Core.List.{List, ◌++◌, append_assoc, append-nil}
use native.Mathlib.Decide.{dec_lt}
use native.Mathlib.Omega.{arith}
use lib.IntN.{ℤ, pos}
use lib.ListN.{length, get_or, replicate, length-append, replicate-append-replicate, get_or-append}
use lib.Seq.{get_or-append-add}
use Rattle.geom.specs.declared.IRect.{IRect}
use Rattle.geom.specs.Geom.{canvas, is_empty}
use Rattle.canvas.specs.declared.Area.{Area}
use Rattle.canvas.specs.Canvas.{area_box}
use Rattle.backdrop.specs.Window.{area_of}
use Rattle.block.specs.Bytes.{block_at}
use Rattle.block.specs.Fields as Fields
use Rattle.block.proofs.Laws.{block_none}
use Rattle.layer.specs.Layer.{kind_of, box_by, layer_of}
use Rattle.boxes.proofs.Laws.{layer_cut}
use Rattle.forecast.specs.Forecast.{sides, boxes_up_to, boxes_of}

-- n zeros
abbrev pub zeros : ℕ → List ℤ
zeros n = replicate n (pos 0)

-- the four numbers from place 4 i on are the sides of the rectangle r
pub record Stands (boxes : List ℤ) (i : ℕ) (r : IRect) : Type 0 where
  pub x0 : get_or boxes (4 * i) (pos 0) ≡ r.x0
  pub y0 : get_or boxes (4 * i + 1) (pos 0) ≡ r.y0
  pub x1 : get_or boxes (4 * i + 2) (pos 0) ≡ r.x1
  pub y1 : get_or boxes (4 * i + 3) (pos 0) ≡ r.y1

module _ (w h : ℕ) (table buf : List ℕ) where
  -- block i's box by four natural numbers
  abbrev pub area_at : ℕ → Area
  area_at i = area_of (layer_of w h table (block_at buf i)).box

  pub up_to_long : (n : ℕ) → length (boxes_up_to w h table buf n) ≡ 4 * n
  unfolding boxes_up_to
  up_to_long zero = refl
  up_to_long (suc n) = length-append (boxes_up_to w h table buf n) (sides (area_at n)) ∙ omega (arith, up_to_long n)

  -- a place past the last block has no box
  past_none : (i : ℕ) → length buf / 512 ≤ i → sides (area_at i) ≡ zeros 4
  unfolding layer_of box_by kind_of area_of is_empty
  past_none i l = rw (block_none buf i l) refl

  -- past the last block there are zeros alone
  pub up_to_past : (n m : ℕ) → length buf / 512 ≤ n → boxes_up_to w h table buf (n + m) ≡ boxes_up_to w h table buf n ++ zeros (4 * m)
  unfolding boxes_up_to
  up_to_past n zero l = let e : n + 0 ≡ n = omega arith in rw e (sym (append-nil (boxes_up_to w h table buf n)))
  up_to_past n (suc m) l =
      let e : n + suc m ≡ suc (n + m) = omega arith in
      let f : 4 * m + 4 ≡ 4 * suc m = omega arith in
      ap (boxes_up_to w h table buf) e
      ∙ rw (up_to_past n m l, past_none (n + m) (omega arith)) (append_assoc (boxes_up_to w h table buf n) (zeros (4 * m)) (zeros 4))
      ∙ ap (λ (z : List ℤ). boxes_up_to w h table buf n ++ z) (replicate-append-replicate (4 * m) 4 (pos 0) ∙ ap zeros f)

  -- block i's four numbers
  at_place : (i j n : ℕ) → j < 4 → i < n → get_or (boxes_up_to w h table buf n) (4 * i + j) (pos 0) ≡ get_or (sides (area_at i)) j (pos 0)
  unfolding boxes_up_to
  at_place i j zero d l = absurd (omega arith)
  at_place i j (suc n) d l = elim (dec_lt i n) [
    | yes m ↦ get_or-append (boxes_up_to w h table buf n) (sides (area_at n)) (pos 0) (4 * i + j) (omega (arith, up_to_long n)) ∙ at_place i j n d m
    | no m ↦
        let e : i ≡ n = omega arith in
        let f : 4 * i + j ≡ length (boxes_up_to w h table buf n) + j = omega (arith, up_to_long n) in
        ap (λ (k : ℕ). get_or (boxes_up_to w h table buf (suc n)) k (pos 0)) f
        ∙ get_or-append-add (boxes_up_to w h table buf n) (sides (area_at n)) j (pos 0)
        ∙ ap (λ (k : ℕ). get_or (sides (area_at k)) j (pos 0)) (sym e)
  ]

  stands_area : (i : ℕ) → i < 256 → (r : IRect) → r ≡ area_box (area_at i) → Stands (boxes_of w h table buf) i r
  unfolding boxes_of
  stands_area i l r e =
      let f : 4 * i ≡ 4 * i + 0 = omega arith in
      rw e (record {
        x0 = rw f (at_place i 0 256 (omega arith) l);
        y0 = at_place i 1 256 (omega arith) l;
        x1 = at_place i 2 256 (omega arith) l;
        y1 = at_place i 3 256 (omega arith) l;
      })

  -- where block i's box has a pixel its numbers are the layer's box
  pub box_stands : (i : ℕ) → i < 256 → is_empty (layer_of w h table (block_at buf i)).box ≡ false → Stands (boxes_of w h table buf) i (layer_of w h table (block_at buf i)).box
  unfolding area_of layer_of
  box_stands i l e =
      let c = layer_cut w h (kind_of (Fields.kind (block_at buf i))) table (block_at buf i) in
      stands_area i l _ (rw (e, c.is) refl)

  -- and zeros where it has none
  pub none_stands : (i : ℕ) → i < 256 → is_empty (layer_of w h table (block_at buf i)).box ≡ true → Stands (boxes_of w h table buf) i (canvas 0 0)
  unfolding area_of
  none_stands i l e = stands_area i l _ (rw e refl)
