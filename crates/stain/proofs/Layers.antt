-- The map after one layer: by its kind, and that it shows the stain after the layer.
use mathlib.Core.Path.{◌≡◌, refl, sym, ap, ◌∙◌}
use mathlib.Core.Bool.{Bool, true, false, cond, not, ◌&&◌, ◌||◌}
use mathlib.Core.List.{List, [], ◌∷◌}
use Prim.Native.Nat.{ℕ, suc, ◌/◌, ◌%◌, ◌<◌}
use native.Mathlib.Nat.{mul_comm}
use lib.Dec.{ltb, eqb}
use lib.IntN.{pos}
use lib.ListN.{length, get_or, replicate}
use Rattle.geom.specs.declared.IRect.{IRect}
use Rattle.geom.proofs.Laws.{Cut}
use Rattle.canvas.specs.Rows.{map_from}
use Rattle.canvas.specs.Canvas.{area_box, flat, is_canvas, boxed}
use Rattle.canvas.proofs.Laws.Area.{canvas_is}
use Rattle.canvas.proofs.Laws.Rows.{length_map_row, get_d-map_row, map_row_same}
use Rattle.backdrop.specs.Window.{area_of}
use Rattle.backdrop.proofs.Laws.Window.{OnIt, area_on_it}
use Rattle.block.specs.Fields as Fields
use Rattle.taint.specs.Stain.{Sort, plain, copy, glass, Stain, inside, meets, after}
use Rattle.std.specs.Option.{option_map_or}
use Rattle.std.proofs.Common.{Some, None}
use Rattle.block.specs.Fields.{kind_of}
use Rattle.layer.specs.Layer.{sort_by, layer_of}
use Rattle.boxes.specs.Boxes.{box_area}
use Rattle.boxes.proofs.Laws.{holds_area, layer_cut, box_is}
use Rattle.stain.specs.Private.{shown, put, copy_mark, mark, marked, box_at, marked_by}
use Rattle.stain.proofs.Sets.{same_in}

-- a row of one byte
pub filled : (v x : ℕ) (row : List ℕ) → replicate (length row) v ≡ map_from (λ i old. v) x row
unfolding map_from
filled v x [] = refl
filled v x (p ∷ row) = ap (λ (z : List ℕ). v ∷ z) (filled v (suc x) row)

-- ---- boxes and windows by four numbers

module _ {w h : ℕ} {r : IRect} (c : Cut w h r) where
  pub put_sides : (v : ℕ) (m : List ℕ) → put w (area_box (area_of r)) v m ≡ put w r v m
  unfolding put boxed
  put_sides v m =
      map_row_same (flat w (boxed (area_box (area_of r)) (λ x y old. v))) (flat w (boxed r (λ x y old. v))) m
      (λ k l. rw (holds_area c (pos (k % w)) (pos (k / w))) refl)

  pub meets_sides : (n : ℕ) (σ : Stain) → meets w n (area_box (area_of r)) σ ≡ meets w n r σ
  unfolding meets
  meets_sides n σ =
      same_in n (λ j. inside w (area_box (area_of r)) j && σ j) (λ j. inside w r j && σ j)
      (λ j l. ap (λ (t : Bool). t && σ j) (holds_area c (pos (j % w)) (pos (j / w))))

module _ (w h n : ℕ) (table b : List ℕ) (e : is_canvas w h n ≡ true) where
  pub box_cut : Cut w h (box_at w h table b)
  unfolding box_at
  box_cut = layer_cut w h (kind_of (Fields.kind b)) table b

  pub box_here : box_area w h table b ≡ area_of (box_at w h table b)
  unfolding box_at
  box_here = box_is w h table b (ap (is_canvas w h) (sym ((canvas_is w h n e).size ∙ mul_comm h w)) ∙ e)

  pub box_on_it : OnIt w h (box_area w h table b)
  box_on_it = rw box_here (area_on_it box_cut)

-- ---- what is done to the box is the layer's mark

pub marked_some : (w h s v : ℕ) (table b m : List ℕ) → mark w s (sort_by (kind_of (Fields.kind b)) w h b) m ≡ Some v → put w (box_at w h table b) v m ≡ marked_by w h table s b m
unfolding marked_by marked layer_of box_at
marked_some w h s v table b m e = rw e refl

pub marked_none : (w h s : ℕ) (table b m : List ℕ) → mark w s (sort_by (kind_of (Fields.kind b)) w h b) m ≡ None → m ≡ marked_by w h table s b m
unfolding marked_by marked layer_of
marked_none w h s table b m e = rw e refl

-- ---- the stain that a map of n bytes shows

pub record Shows (n : ℕ) (m : List ℕ) (σ : Stain) : Type 0 where
  pub long : length m ≡ n
  pub at : (k : ℕ) → k < n → get_or m k 0 ≡ cond (σ k) 1 0

adds : (a t : Bool) → ◌≡◌ {A = ℕ} (cond t 1 (cond a 1 0)) (cond (a || t) 1 0)
adds true true = refl
adds true false = refl
adds false true = refl
adds false false = refl

drops : (a t : Bool) → ◌≡◌ {A = ℕ} (cond t 0 (cond a 1 0)) (cond (a && not t) 1 0)
drops true true = refl
drops true false = refl
drops false true = refl
drops false false = refl

read : (a : Bool) → ltb 0 (cond a 1 0) ≡ a
read true = refl
read false = refl

module _ (w n s : ℕ) (m : List ℕ) (σ : Stain) (S : Shows n m σ) where
  put_long : (box : IRect) (v : ℕ) → length (put w box v m) ≡ n
  unfolding put
  put_long box v = length_map_row (flat w (boxed box (λ x y old. v))) m ∙ S.long

  put_at : (box : IRect) (v k : ℕ) → k < n → get_or (put w box v m) k 0 ≡ cond (inside w box k) v (cond (σ k) 1 0)
  unfolding put boxed
  put_at box v k l = get_d-map_row (flat w (boxed box (λ x y old. v))) m k (rw S.long l) ∙ ap (λ (p : ℕ). cond (inside w box k) v p) (S.at k l)

  added : (box : IRect) → Shows n (put w box 1 m) (λ k. σ k || inside w box k)
  added box = record { long = put_long box 1; at = λ k l. put_at box 1 k l ∙ adds (σ k) (inside w box k) }

  removed : (box : IRect) → Shows n (put w box 0 m) (λ k. σ k && not (inside w box k))
  removed box = record { long = put_long box 0; at = λ k l. put_at box 0 k l ∙ drops (σ k) (inside w box k) }

  shown_is : (k : ℕ) → k < n → shown m k ≡ σ k
  unfolding shown
  shown_is k l = ap (ltb 0) (S.at k l) ∙ read (σ k)

  meets_is : (win : IRect) → meets w (length m) win (shown m) ≡ meets w n win σ
  unfolding meets
  meets_is win = rw S.long (same_in n (λ j. inside w win j && shown m j) (λ j. inside w win j && σ j) (λ j l. ap (λ (t : Bool). inside w win j && t) (shown_is j l)))

  -- the map after a layer shows the stain after it
  pub marked_shows : (sort : Sort) (box : IRect) → Shows n (marked w s sort box m) (after w n s sort box σ)
  unfolding marked mark copy_mark after
  marked_shows plain box = record { long = S.long; at = S.at }
  marked_shows (copy t exact) box = let r = go (eqb t s) exact in record { long = r.long; at = r.at }
    where
      go : (u v : Bool) → Shows n (option_map_or (λ p. put w box p m) (cond u (Some 1) (cond v (Some 0) None)) m) (λ k. cond u (σ k || inside w box k) (cond v (σ k && not (inside w box k)) (σ k)))
      go true v = added box
      go false true = removed box
      go false false = record { long = S.long; at = S.at }
  marked_shows (glass win) box = rw (meets_is win) (let r = go (meets w n win σ) in record { long = r.long; at = r.at })
    where
      go : (u : Bool) → Shows n (option_map_or (λ p. put w box p m) (cond u (Some 1) None) m) (λ k. cond u (σ k || inside w box k) (σ k))
      go true = added box
      go false = record { long = S.long; at = S.at }
