-- Demand 3: two plays of one rundown whose pools differ at one source's words alone give one answer, and canvases that agree outside the stain; after a refusal both are as they were.
use Rattle.answer.specs.Answer.{Answer, refused}
use Rattle.std.proofs.Common.{Ok, Err}
use mathlib.Core.Path.{◌≡◌, refl, sym, ap, ◌∙◌}
use mathlib.Core.Bool.{false}
use mathlib.Core.List.{List, map}
use Prim.Native.Nat.{ℕ, ◌<◌}
use lib.ListN.{length, get_or, take}
use lib.Seq.{take-length}
use Rattle.block.specs.Bytes.{block_at}
use Rattle.answer.specs.declared.Cause.{Cause}
use Rattle.order.specs.Order.{ascending}
use Rattle.order.proofs.Laws.Walk.{in_first}
use Rattle.sources.specs.Table.{sizes, total, pixels, OnlyAt}
use Rattle.taint.specs.Stain.{stain, clean}
use Rattle.taint.proofs.Laws.Agree.{agree-each}
use Rattle.sources.proofs.Pool.{alike}
use Rattle.layer.specs.Layer.{Accepted, layer_of, painting}
use Rattle.layer.proofs.Laws.Painter.{painter}
use Rattle.accept.specs.Tests.{answer}
use Rattle.accept.proofs.Laws.Tests.{passes_all}
use Rattle.play.specs.Play.{paint_each, canvas_after, final, stain_after, stain_of}

-- what demand 3 says of two plays of one rundown on one canvas, from the pools p and q
pub record DemandThree (w h : ℕ) (table buf : List ℕ) (la lb : ℕ) (cv : List ℕ) (s : ℕ) (p q : List ℕ) : Type 0 where
  -- both give one answer
  pub one_answer : answer w h (length cv) table (length p) buf la lb ≡ answer w h (length cv) table (length q) buf la lb
  -- both leave one pixel wherever there is no stain
  pub outside_stain : (k : ℕ) → k < length cv → stain_of w h (length cv) table (length p) buf la lb s k ≡ false → get_or (final w h table p buf la lb cv) k 0 ≡ get_or (final w h table q buf la lb cv) k 0
  -- and a refusal leaves both canvases as they were
  pub untouched : (c : Cause) (k : ℕ) → answer w h (length cv) table (length p) buf la lb ≡ refused c k → (final w h table p buf la lb cv ≡ cv) × (final w h table q buf la lb cv ≡ cv)

-- two plays from the pools p and q
module _ (w h : ℕ) (table buf : List ℕ) (la lb : ℕ) (cv : List ℕ) (s : ℕ) (p q : List ℕ) (o : OnlyAt table s p q) where
  -- DEMAND 3 AFTER EACH LAYER: when the j lowest are painted, the canvases agree outside their stain
  pub after_layers : (n : ℕ) → answer w h (length cv) table (length p) buf la lb ≡ Ok n → (j k : ℕ) → k < length cv
      → stain w (length cv) s (map (λ i. layer_of w h table (block_at buf i)) (take j (ascending buf n))) clean k ≡ false
      → get_or (paint_each w h table p buf (take j (ascending buf n)) cv) k 0 ≡ get_or (paint_each w h table q buf (take j (ascending buf n)) cv) k 0
  unfolding paint_each
  after_layers n a j k l e =
      let t = passes_all w h (length cv) table (length p) buf la lb n a in
      agree-each w (length cv) (List ℕ) (List ℕ) (pixels table) (layer_of w h table) (λ p b c. painting w h table p b c) (λ x. length x ≡ total (sizes table)) (Accepted w table)
      (painter w h (length cv) t.canvas_right table t.sides_right) s ℕ (block_at buf) (λ i. p) (λ i. q) (take j (ascending buf n))
      (λ i x. record { first_fits = t.pool_right_lem; second_fits = sym o.long ∙ t.pool_right_lem; accepted = t.accepted i (in_first buf n j i x); same = alike table s p q o })
      cv cv refl refl clean (λ x y z. refl) k l e

  -- after the last layer, and after a refusal
  from : (r : Answer) → answer w h (length cv) table (length p) buf la lb ≡ r → (k : ℕ) → k < length cv → stain_after r w h (length cv) table buf s k ≡ false
      → get_or (canvas_after r w h table p buf cv) k 0 ≡ get_or (canvas_after r w h table q buf cv) k 0
  unfolding stain_after canvas_after
  from (Err r) a k l e = refl
  from (Ok n) a k l e =
      let is = ascending buf n in
      rw (← take-length is) (after_layers n a (length is) k l (rw (take-length is) e))

  -- DEMAND 3: whatever the rundown, the sizes, the canvas, the table and the scratch, accepted or refused
  pub demand_three : DemandThree w h table buf la lb cv s p q
  unfolding final canvas_after stain_of
  demand_three = record {
    one_answer = ap (λ (m : ℕ). answer w h (length cv) table m buf la lb) o.long;
    outside_stain = λ k l e. rw (← o.long) (from (answer w h (length cv) table (length p) buf la lb) refl k l e);
    untouched = λ c k e. (rw e refl, rw (← o.long, e) refl);
  }
