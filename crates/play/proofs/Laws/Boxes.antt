-- Boxes: outside a layer's box no pixel changes, and an exact copy of another source clears its box; what it shows at the end is the same whatever the hidden source shows.
use Rattle.answer.specs.Answer.{Answer}
use Rattle.std.proofs.Common.{Ok, Err}
use mathlib.Core.Path.{◌≡◌, refl, sym, ◌∙◌}
use mathlib.Core.Logic.{◌≢◌, ⊎_elim}
use mathlib.Core.Bool.{Bool, true, false}
use mathlib.Core.List.Memᴰ.{cases_cons}
use mathlib.Core.List.Memᴰ.{head as here}
use mathlib.Core.List.Memᴰ.{not-nil}
use mathlib.Core.List.Memᴰ.{tail as there}
use mathlib.Core.List.{List, [], ◌∷◌, map, Memᴰ as In}
use Prim.Native.Nat.{ℕ, ◌/◌, ◌<◌}
use lib.ListN.{length, get_or}
use Rattle.geom.specs.declared.IRect.{IRect}
use Rattle.block.specs.Bytes.{block_at}
use Rattle.block.specs.Fields as Fields
use Rattle.order.specs.Order.{priority_at, ascending}
use Rattle.order.proofs.Laws.Sort.{Ascending}
use Rattle.order.proofs.Laws.Walk.{in_ascending, ascending_in, ascends}
use Rattle.sources.specs.Table.{OnlyAt}
use Rattle.taint.specs.Stain as Stain
use Rattle.taint.specs.Stain.{Stain, inside, after, stain, clean}
use Rattle.sources.proofs.Pool.{alike}
use Rattle.taint.proofs.Laws.Stain as Rules
use Rattle.layer.specs.Layer.{kind_of, layer_of, painting}
use Rattle.layer.proofs.Laws.EachKind.{outside, keeps}
use Rattle.layer.proofs.Laws.Painter.{painter}
use Rattle.accept.specs.Tests.{answer}
use Rattle.accept.proofs.Laws.Tests.{passes_all}
use Rattle.play.specs.Play.{paint_each, canvas_after, final, stain_after, stain_of}
use Rattle.play.proofs.Laws.Whole.{demand_three}

module _ (w h : ℕ) (table pool buf : List ℕ) (k : ℕ) where
  -- pixel k is outside block i's box
  abbrev pub Outside : ℕ → Type 0
  Outside i = inside w (layer_of w h table (block_at buf i)).box k ≡ false

  -- a layer leaves every pixel outside its box as it was
  pub outside_box : (i : ℕ) (cv : List ℕ) → k < length cv → Outside i → get_or (painting w h table pool (block_at buf i) cv) k 0 ≡ get_or cv k 0
  unfolding painting layer_of
  outside_box i cv l o = outside w h table (block_at buf i) (kind_of (Fields.kind (block_at buf i))) pool cv k l o

  kept : (i : ℕ) (cv : List ℕ) → length (painting w h table pool (block_at buf i) cv) ≡ length cv
  unfolding painting
  kept i cv = keeps w h table (block_at buf i) (kind_of (Fields.kind (block_at buf i))) pool cv

  outside_each : (is : List ℕ) → ((i : ℕ) → In i is → Outside i) → (cv : List ℕ) → k < length cv → get_or (paint_each w h table pool buf is cv) k 0 ≡ get_or cv k 0
  unfolding paint_each
  outside_each [] a cv l = refl
  outside_each (i ∷ is) a cv l = outside_each is (λ j m. a j (there m)) (painting w h table pool (block_at buf i) cv) (rw (kept i cv) l) ∙ outside_box i cv l (a i (here refl))

  -- play leaves a pixel that is in no layer's box as it was
  pub outside_all : (la lb : ℕ) (cv : List ℕ) → k < length cv → ((i : ℕ) → i < length buf / 512 → Outside i) → get_or (final w h table pool buf la lb cv) k 0 ≡ get_or cv k 0
  unfolding final canvas_after
  outside_all la lb cv l out = go (answer w h (length cv) table (length pool) buf la lb) refl
    where
      go : (r : Answer) → answer w h (length cv) table (length pool) buf la lb ≡ r → get_or (canvas_after r w h table pool buf cv) k 0 ≡ get_or cv k 0
      go (Err r) a = refl
      go (Ok n) a =
          let t = passes_all w h (length cv) table (length pool) buf la lb n a in
          outside_each (ascending buf n) (λ i m. out i (rw (← t.is) (in_ascending buf n i m))) cv l

module _ (w h : ℕ) (table buf : List ℕ) (s k : ℕ) where
  -- pixel k is in block j's box only where that is neither a copy of s nor glass
  abbrev pub Spared : ℕ → Type 0
  Spared j =
      let x = layer_of w h table (block_at buf j) in
      inside w x.box k ≡ true → ((e : Bool) → x.sort ≢ Stain.copy s e) × ((win : IRect) → x.sort ≢ Stain.glass win)

  -- the stain after the blocks with these numbers
  abbrev through : ℕ → List ℕ → Stain → Stain
  through n is σ = stain w n s (map (λ i. layer_of w h table (block_at buf i)) is) σ

  still_clean : (n : ℕ) (is : List ℕ) → ((j : ℕ) → In j is → Spared j) → (σ : Stain) → σ k ≡ false → through n is σ k ≡ false
  unfolding stain
  still_clean n [] g σ c = c
  still_clean n (j ∷ js) g σ c =
      let x = layer_of w h table (block_at buf j) in
      still_clean n js (λ z m. g z (there m)) (after w n s x.sort x.box σ) (Rules.stays_clean w n s x.box σ k x.sort (g j (here refl)) c)

-- block i of an accepted rundown is an exact copy of source t, and not of the hidden one
module _ (w h n : ℕ) (table buf : List ℕ) (la lb : ℕ) (s : ℕ) (p q : List ℕ) (o : OnlyAt table s p q) (count : ℕ) (a : answer w h n table (length p) buf la lb ≡ Ok count)
    (i : ℕ) (b : i < count) (t : ℕ) (exact : (layer_of w h table (block_at buf i)).sort ≡ Stain.copy t true) (d : t ≢ s) (k : ℕ) (l : k < n) (held : inside w (layer_of w h table (block_at buf i)).box k ≡ true) where
  -- whatever was stained before, nothing in its box is stained after it
  pub exact_clears : (σ : Stain) → after w n s (layer_of w h table (block_at buf i)).sort (layer_of w h table (block_at buf i)).box σ k ≡ false
  exact_clears σ = rw exact (Rules.exact_clears w n s (layer_of w h table (block_at buf i)).box σ k t d held)

  -- and whatever the two canvases held before, they agree in its box after it
  pub exact_agrees : (c e : List ℕ) → length c ≡ n → length e ≡ n → get_or (painting w h table p (block_at buf i) c) k 0 ≡ get_or (painting w h table q (block_at buf i) e) k 0
  exact_agrees c e lc le =
      let x = passes_all w h n table (length p) buf la lb count a in
      (painter w h n x.canvas_right table x.sides_right).exact_law p q x.pool_right_lem (sym o.long ∙ x.pool_right_lem) (block_at buf i) (x.accepted i b) c e lc le t exact
      (alike table s p q o t d) k l held

  -- block i is among them, and the ones above it spare pixel k
  cleared : (is : List ℕ) → Ascending ℕ (priority_at buf) is → In i is → ((j : ℕ) → In j is → priority_at buf i < priority_at buf j → Spared w h table buf s k j) → (σ : Stain) → through w h table buf s k n is σ k ≡ false
  unfolding stain Ascending
  cleared [] u m g σ = absurd (not-nil m)
  cleared (j ∷ js) u m g σ =
      let x = layer_of w h table (block_at buf j) in
      ⊎_elim
      (λ (e : i ≡ j). still_clean w h table buf s k n js (λ z r. g z (there r) (rw e (u.0 z r))) (after w n s x.sort x.box σ) (rw e at (exact_clears σ)))
      (λ r. cleared js u.1 r (λ z y. g z (there y)) (after w n s x.sort x.box σ))
      (cases_cons m)

  -- no copy of s and no panel above it has pixel k in its box: after play the two canvases agree there
  pub exact_shows : ((j : ℕ) → j < count → priority_at buf i < priority_at buf j → Spared w h table buf s k j) → (cv : List ℕ) → length cv ≡ n → get_or (final w h table p buf la lb cv) k 0 ≡ get_or (final w h table q buf la lb cv) k 0
  unfolding stain_of stain_after
  exact_shows g cv f =
      let x = passes_all w h n table (length p) buf la lb count a in
      (demand_three w h table buf la lb cv s p q o).outside_stain k (rw f l)
      (rw (f, a) (cleared (ascending buf count) (ascends buf count x.differ) (ascending_in buf count i b) (λ j m. g j (in_ascending buf count j m)) clean))
