-- A source's top bytes show nowhere: two plays from pools that differ in top bytes alone leave one canvas.
use Rattle.answer.specs.Answer.{Answer}
use Rattle.std.proofs.Common.{Ok, Err}
use Prim.Native.Nat.{ℕ, ◌%◌, ◌^◌}
use mathlib.Core.Path.{◌≡◌, refl, ap, ◌∙◌}
use mathlib.Core.List.{List, [], ◌∷◌}
use lib.ListN.{length, get_or}
use Rattle.block.specs.Bytes.{block_at}
use Rattle.order.specs.Order.{ascending}
use Rattle.sources.proofs.Laws.{SameColors}
use Rattle.layer.specs.Layer.{painting}
use Rattle.layer.proofs.Laws.EachKind as Kinds
use Rattle.accept.specs.Tests.{answer}
use Rattle.play.specs.Play.{paint_each, canvas_after, final}

module _ (w h : ℕ) (table buf p q : List ℕ) (s : SameColors p q) where
  each : (is cv : List ℕ) → paint_each w h table p buf is cv ≡ paint_each w h table q buf is cv
  unfolding paint_each
  each [] cv = refl
  each (i ∷ is) cv =
      ap (λ (c : List ℕ). paint_each w h table p buf is c) (Kinds.same_colors w h table p q s (block_at buf i) cv)
      ∙ each is (painting w h table q (block_at buf i) cv)

  after : (r : Answer) (cv : List ℕ) → canvas_after r w h table p buf cv ≡ canvas_after r w h table q buf cv
  unfolding canvas_after
  after (Ok n) cv = each (ascending buf n) cv
  after (Err r) cv = refl

-- NO TOP BYTE OF A SOURCE SHOWS: whatever the rundown, the sizes, the scratch and the canvas, accepted or refused
pub same_final : (w h : ℕ) (table buf : List ℕ) (la lb : ℕ) (cv p q : List ℕ) → length p ≡ length q → ((i : ℕ) → get_or p i 0 % 2 ^ 24 ≡ get_or q i 0 % 2 ^ 24)
    → final w h table p buf la lb cv ≡ final w h table q buf la lb cv
unfolding final
same_final w h table buf la lb cv p q n e =
    rw n (after w h table buf p q (record { long = n; low = e }) (answer w h (length cv) table (length q) buf la lb) cv)
