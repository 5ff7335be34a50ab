-- The loop that paints: a walk whose step paints one layer.
use Rattle.std.proofs.Common.{Ok, Err}
use mathlib.Core.Path.{◌≡◌, refl, ap, ◌∙◌}
use mathlib.Core.Bool.{true}
use mathlib.Core.List.{List}
use Prim.Native.Nat.{ℕ, ◌+◌, ◌/◌, ◌≤◌, ◌<◌}
use lib.ListN.{length, get_or}
use Rattle.block.specs.Bytes.{block_at}
use Rattle.block.specs.Fields as Fields
use Rattle.layer.specs.Layer.{kind_of, painting, painting_in, has_room}
use Rattle.layer.proofs.Laws.EachKind.{keeps}
use Rattle.answer.specs.declared.Refusal.{Refusal}
use Rattle.accept.specs.Tests.{answer}
use Rattle.order.specs.Order.{ascending, listed}
use Rattle.order.proofs.Laws.Walk.{Walking, walk_start, walk_end, walk-on, listed_below}
use Rattle.play.specs.Play.{paint_each, canvas_after, final}
use Rattle.accept.proofs.Laws.Tests.{Passes, passes_all}

-- the canvas that play leaves, by its answer
module _ (w h : ℕ) (table pool buf cv : List ℕ) (la lb : ℕ) where
  pub final_count : (n : ℕ) → answer w h (length cv) table (length pool) buf la lb ≡ Ok n → paint_each w h table pool buf (ascending buf n) cv ≡ final w h table pool buf la lb cv
  unfolding final canvas_after
  final_count n e = rw e refl

  -- the number of layers is the number of blocks
  pub all_blocks : (n : ℕ) → answer w h (length cv) table (length pool) buf la lb ≡ Ok n → answer w h (length cv) table (length pool) buf la lb ≡ Ok (length buf / 512)
  all_blocks n e = e ∙ ap Ok (passes_all w h (length cv) table (length pool) buf la lb n e).is

  pub final_refused : (r : Refusal) → answer w h (length cv) table (length pool) buf la lb ≡ Err r → cv ≡ final w h table pool buf la lb cv
  unfolding final canvas_after
  final_refused r e = rw e refl

-- one layer over the canvas
abbrev pub layered : (w h : ℕ) (table pool buf : List ℕ) → List ℕ → ℕ → List ℕ
layered w h table pool buf c i = painting w h table pool (block_at buf i) c

module _ (w h : ℕ) (table pool buf : List ℕ) (count : ℕ) (px₀ : List ℕ) (la lb : ℕ) where
  pub record Turn (k : ℕ) (px a b : List ℕ) : Type 0 where
    pub long : length px ≡ length px₀
    pub first-long : length a ≡ la
    pub second-long : length b ≡ lb
    pub walk : Walking (layered w h table pool buf) buf count px₀ k px

  pub turn_first : (a b : List ℕ) → length a ≡ la → length b ≡ lb → Turn 0 px₀ a b
  turn_first a b la-is lb-is = record { long = refl; first-long = la-is; second-long = lb-is; walk = walk_start (layered w h table pool buf) buf count px₀ }

  module _ {k : ℕ} {px a b : List ℕ} (t : Turn k px a b) where
    pub turn_last : count ≤ k → px ≡ paint_each w h table pool buf (ascending buf count) px₀
    unfolding paint_each
    turn_last l = walk_end (layered w h table pool buf) buf count px₀ t.walk l

    module _ (ok : Passes w h (length px₀) table (length pool) buf la lb count) (few : count ≤ 256) (l : k < count) {i : ℕ} (e : i ≡ get_or (listed buf count) k 0) where
      pub turn-block : i < count
      turn-block = rw e (listed_below buf count few k l)

      module _ {px' : List ℕ} (f : px' ≡ painting_in w h table pool (length a) (length b) (block_at buf i) px) where
        drawn : px' ≡ painting w h table pool (block_at buf i) px
        unfolding painting_in
        drawn = let room : has_room w h (block_at buf i) (length a) (length b) ≡ true = rw (t.first-long, t.second-long) (ok.room i turn-block) in rw room at f

        kept : length px' ≡ length px
        unfolding painting
        kept = ap length drawn ∙ keeps w h table (block_at buf i) (kind_of (Fields.kind (block_at buf i))) pool px

        pub turn_more : (a' b' : List ℕ) → length a' ≡ length a → length b' ≡ length b → Turn (k + 1) px' a' b'
        turn_more a' b' u v = record {
          long = kept ∙ t.long;
          first-long = u ∙ t.first-long;
          second-long = v ∙ t.second-long;
          walk = walk-on (layered w h table pool buf) buf count px₀ t.walk few l (drawn ∙ ap (λ (j : ℕ). painting w h table pool (block_at buf j) px) e);
        }
