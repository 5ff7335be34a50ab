-- The loop over the layers: a walk whose step is what one layer does to the stain; the map shows how far it has come.
use Rattle.answer.specs.declared.Refusal.{Refusal}
use Rattle.std.proofs.Common.{Ok, Err}
use mathlib.Core.Path.{◌≡◌, refl, sym, ap, ◌∙◌}
use mathlib.Core.Bool.{cond}
use mathlib.Core.List.{List, map, foldl-map}
use Prim.Native.Nat.{ℕ, ◌+◌, ◌/◌, ◌≤◌, ◌<◌}
use lib.ListN.{length, get_or}
use Rattle.canvas.specs.Rows.{map_row}
use Rattle.canvas.proofs.Laws.Rows.{length_map_row, get_d-map_row, is_map_row}
use Rattle.block.specs.Bytes.{block_at}
use Rattle.taint.specs.Stain.{Stain, clean, after, stain}
use Rattle.layer.specs.Layer.{layer_of}
use Rattle.accept.specs.Tests.{sizes_answer}
use Rattle.accept.proofs.Laws.Sizes.{sized}
use Rattle.order.specs.Order.{ascending, listed}
use Rattle.order.proofs.Laws.Walk.{Walking, walk_start, walk_end, walk-on}
use Rattle.play.specs.Play.{stain_after}
use Rattle.stain.specs.Map.{map_of, map_after, stain_map}
use Rattle.stain.specs.Private.{marked_by}
use Rattle.stain.proofs.Layers.{Shows, marked_shows}

-- the map that `stain` leaves, by its answer
module _ (w h : ℕ) (table buf : List ℕ) (s : ℕ) (m : List ℕ) where
  pub map_count : (n : ℕ) → sizes_answer w h (length m) table buf ≡ Ok n → map_of (stain_after (Ok n) w h (length m) table buf s) m ≡ stain_map w h table buf s m
  unfolding stain_map map_after
  map_count n e = rw e refl

  -- the number of layers is the number of blocks
  pub all_blocks : (n : ℕ) → sizes_answer w h (length m) table buf ≡ Ok n → sizes_answer w h (length m) table buf ≡ Ok (length buf / 512)
  all_blocks n e = e ∙ ap Ok (sized w h (length m) table buf n e).is

  pub map_refused : (r : Refusal) → sizes_answer w h (length m) table buf ≡ Err r → m ≡ stain_map w h table buf s m
  unfolding stain_map map_after
  map_refused r e = rw e refl

-- an empty map
pub empty_shows : (n : ℕ) (z m : List ℕ) → length z ≡ n → m ≡ map_row (λ i old. 0) z → Shows n m clean
unfolding clean
empty_shows n z m e f = record {
  long = ap length f ∙ length_map_row (λ i old. 0) z ∙ e;
  at = λ k l. ap (λ (x : List ℕ). get_or x k 0) f ∙ get_d-map_row (λ i old. 0) z k (rw e l);
}

-- the stain after one block more
abbrev pub stained : (w h n : ℕ) (table buf : List ℕ) (s : ℕ) → Stain → ℕ → Stain
stained w h n table buf s σ i = let l = layer_of w h table (block_at buf i) in after w n s l.sort l.box σ

module _ (w h n : ℕ) (table buf : List ℕ) (count s : ℕ) where
  pub record Turn (k : ℕ) (m : List ℕ) : Type 0 where
    pub so_far : Stain
    pub shows : Shows n m so_far
    pub walk : Walking (stained w h n table buf s) buf count clean k so_far

  pub turn_first : (m : List ℕ) → Shows n m clean → Turn 0 m
  turn_first m S = record { so_far = clean; shows = S; walk = walk_start (stained w h n table buf s) buf count clean }

  module _ {k : ℕ} {m : List ℕ} (t : Turn k m) where
    pub turn_last : count ≤ k → (z : List ℕ) → length z ≡ n → m ≡ map_of (stain_after (Ok count) w h n table buf s) z
    unfolding map_of stain_after stain
    turn_last l z e =
        let f = walk_end (stained w h n table buf s) buf count clean t.walk l in
        let g = sym (foldl-map (λ i. layer_of w h table (block_at buf i)) (λ σ l. after w n s l.sort l.box σ) (ascending buf count) clean) in
        is_map_row (λ k old. cond (stain w n s (map (λ i. layer_of w h table (block_at buf i)) (ascending buf count)) clean k) 1 0) z m (t.shows.long ∙ sym e)
        (λ k q. t.shows.at k (rw (← e) q) ∙ ap (λ (σ : Stain). cond (σ k) 1 0) (f ∙ g))

    pub turn_more : count ≤ 256 → k < count → {i : ℕ} → i ≡ get_or (listed buf count) k 0 → {m' : List ℕ} → m' ≡ marked_by w h table s (block_at buf i) m → Turn (k + 1) m'
    unfolding marked_by
    turn_more few l {i} e f =
        let b = layer_of w h table (block_at buf i) in
        record {
          so_far = stained w h n table buf s t.so_far i;
          shows = rw f (marked_shows w n s m t.so_far t.shows b.sort b.box);
          walk = walk-on (stained w h n table buf s) buf count clean t.walk few l (ap (stained w h n table buf s t.so_far) e);
        }
