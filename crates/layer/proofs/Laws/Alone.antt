-- A layer is its block's 512 bytes: wherever the block stands in a rundown, its box, what the stain sees, what it paints and what it needs are those of
-- the bytes alone.
use mathlib.Core.Path.{◌≡◌, ap}
use mathlib.Core.List.{List, ◌++◌}
use Prim.Native.Nat.{ℕ, ◌*◌}
use lib.ListN.{length}
use Rattle.block.specs.Bytes.{block_at}
use Rattle.block.proofs.Laws.Alone.{alone}
use Rattle.layer.specs.Layer.{layer_of, painting, needed}

pub record AloneLayer (buf : List ℕ) (n : ℕ) (blk : List ℕ) : Type 0 where
  pub layer : (w h : ℕ) (table : List ℕ) → layer_of w h table (block_at buf n) ≡ layer_of w h table blk
  pub paints : (w h : ℕ) (table pool cv : List ℕ) → painting w h table pool (block_at buf n) cv ≡ painting w h table pool blk cv
  pub needs : (w h : ℕ) → needed w h (block_at buf n) ≡ needed w h blk

pub alone_layer : (pre blk post : List ℕ) (n : ℕ) → length blk ≡ 512 → length pre ≡ 512 * n → AloneLayer (pre ++ (blk ++ post)) n blk
alone_layer pre blk post n long e =
    let s = (alone pre blk post long).block n e in
    record {
      layer = λ w h table. ap (layer_of w h table) s;
      paints = λ w h table pool cv. ap (λ (b : List ℕ). painting w h table pool b cv) s;
      needs = λ w h. ap (needed w h) s;
    }
