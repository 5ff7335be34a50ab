-- One call, and calls one after the other: a call that paints has passed the tests; a refused call and a begin change nothing; no call changes the canvas's length;
-- what one call more does.
use Rattle.std.proofs.lemmas.Option.{none-some}
use Rattle.std.specs.Option.{option_map_or}
use Rattle.answer.specs.Answer.{Answer, refused}
use Rattle.std.proofs.Common.{Ok, Err, Option, None, Some}
use mathlib.Core.Path.{◌≡◌, refl, ap, ◌∙◌}
use mathlib.Core.List.{List, [], ◌∷◌, ◌++◌}
use Prim.Native.Nat.{ℕ, suc, ◌<◌}
use native.Mathlib.Omega.{arith}
use lib.ListN.{length}
use Rattle.answer.specs.declared.Cause.{Cause}
use Rattle.block.specs.Bytes.{block_at}
use Rattle.block.specs.Fields as Fields
use Rattle.order.specs.Order.{priority_at}
use Rattle.order.proofs.Laws.Next.{next-below}
use Rattle.taint.specs.Stain.{Stain}
use Rattle.layer.specs.Layer.{kind_of, painting}
use Rattle.layer.proofs.Laws.EachKind.{keeps}
use Rattle.steps.specs.Steps.{Ask, begin, step, Call, tests, from, next, chosen_by, chosen, or_none, answer_by, call_answer, call_canvas, call_stain, calls_answers, calls_canvas, calls_stain}

-- ---- what is painted

passed : (k : Ask) (a : Answer) (buf : List ℕ) (i : ℕ) → chosen_by k a buf ≡ Some i → (count : ℕ) × ((a ≡ Ok count) × (i < count))
unfolding chosen_by next
passed begin a buf i e = absurd (none-some i e)
passed (step last) (Ok count) buf i e = (count, (refl, next-below buf count (from last) i e))
passed (step last) (Err r) buf i e = absurd (none-some i e)

-- a block that is painted is one of a rundown that passes
pub chosen_passed : (c : Call) (n m i : ℕ) → chosen c n m ≡ Some i → (count : ℕ) × ((tests c n m ≡ Ok count) × (i < count))
unfolding chosen
chosen_passed c n m i e = passed c.ask (tests c n m) c.rundown i e

none_painted : (k : Ask) (a : Answer) (buf : List ℕ) (d : Cause) (v : ℕ) → answer_by k a buf ≡ refused d v → chosen_by k a buf ≡ None
unfolding answer_by chosen_by or_none
none_painted begin a buf d v e = refl
none_painted (step last) (Err r) buf d v e = refl
none_painted (step last) (Ok count) buf d v e = go (next buf count last) refl
  where
    go : (o : Option ℕ) → next buf count last ≡ o → next buf count last ≡ None
    go None q = q
    go (Some y) q = let f : Ok (priority_at buf y) ≡ refused d v = rw q at e in let z : ◌≡◌ {A = ℕ} 0 1 = cc in absurd (omega arith)

none_at_begin : (k : Ask) (a : Answer) (buf : List ℕ) → k ≡ begin → chosen_by k a buf ≡ None
unfolding chosen_by
none_at_begin k a buf e = rw e refl

-- ---- what changes nothing

-- the canvas and the stain of each source are as they were
pub record Unchanged (c : Call) (pool cv : List ℕ) : Type 0 where
  pub canvas : call_canvas c pool cv ≡ cv
  pub stain : (s : ℕ) (σ : Stain) → call_stain s c (length cv) (length pool) σ ≡ σ

unpainted : (c : Call) (pool cv : List ℕ) → chosen c (length cv) (length pool) ≡ None → Unchanged c pool cv
unfolding call_canvas call_stain
unpainted c pool cv e = record { canvas = rw e refl; stain = λ s σ. rw e refl }

-- A REFUSED CALL CHANGES NOTHING
pub refused_unchanged : (c : Call) (pool cv : List ℕ) (d : Cause) (k : ℕ) → call_answer c (length cv) (length pool) ≡ refused d k → Unchanged c pool cv
unfolding call_answer chosen
refused_unchanged c pool cv d k e = unpainted c pool cv (none_painted c.ask (tests c (length cv) (length pool)) c.rundown d k e)

-- NOR DOES A BEGIN
pub begin_unchanged : (c : Call) (pool cv : List ℕ) → c.ask ≡ begin → Unchanged c pool cv
unfolding chosen
begin_unchanged c pool cv e = unpainted c pool cv (none_at_begin c.ask (tests c (length cv) (length pool)) c.rundown e)

-- ---- the canvas's length

pub painting_long : (w h : ℕ) (table pool b cv : List ℕ) → length (painting w h table pool b cv) ≡ length cv
unfolding painting
painting_long w h table pool b cv = keeps w h table b (kind_of (Fields.kind b)) pool cv

pub call_long : (c : Call) (pool cv : List ℕ) → length (call_canvas c pool cv) ≡ length cv
unfolding call_canvas
call_long c pool cv = go (chosen c (length cv) (length pool))
  where
    go : (o : Option ℕ) → length (option_map_or (λ i. painting c.width c.height c.table pool (block_at c.rundown i) cv) o cv) ≡ length cv
    go None = refl
    go (Some i) = painting_long c.width c.height c.table pool (block_at c.rundown i) cv

pub calls_long : (cs : List Call) (p : ℕ → List ℕ) (cv : List ℕ) → length (calls_canvas cs p cv) ≡ length cv
unfolding calls_canvas
calls_long [] p cv = refl
calls_long (c ∷ cs) p cv = calls_long cs (λ i. p (suc i)) (call_canvas c (p 0) cv) ∙ call_long c (p 0) cv

-- ---- one call more

pub canvas_more : (cs : List Call) (c : Call) (p : ℕ → List ℕ) (cv : List ℕ) → calls_canvas (cs ++ c ∷ []) p cv ≡ call_canvas c (p (length cs)) (calls_canvas cs p cv)
unfolding calls_canvas
canvas_more [] c p cv = refl
canvas_more (d ∷ cs) c p cv = canvas_more cs c (λ i. p (suc i)) (call_canvas d (p 0) cv)

pub answers_more : (cs : List Call) (c : Call) (p : ℕ → List ℕ) (cv : List ℕ)
    → calls_answers (cs ++ c ∷ []) p cv ≡ calls_answers cs p cv ++ call_answer c (length cv) (length (p (length cs))) ∷ []
unfolding calls_answers
answers_more [] c p cv = refl
answers_more (d ∷ cs) c p cv =
    ap (λ (rest : List Answer). call_answer d (length cv) (length (p 0)) ∷ rest)
    (answers_more cs c (λ i. p (suc i)) (call_canvas d (p 0) cv)
    ∙ ap (λ (n : ℕ). calls_answers cs (λ i. p (suc i)) (call_canvas d (p 0) cv) ++ call_answer c n (length (p (suc (length cs)))) ∷ []) (call_long d (p 0) cv))

pub stain_more : (s : ℕ) (cs : List Call) (c : Call) (n : ℕ) (m : ℕ → ℕ) (σ : Stain) → calls_stain s (cs ++ c ∷ []) n m σ ≡ call_stain s c n (m (length cs)) (calls_stain s cs n m σ)
unfolding calls_stain
stain_more s [] c n m σ = refl
stain_more s (d ∷ cs) c n m σ = stain_more s cs c n (λ i. m (suc i)) (call_stain s d n (m 0) σ)
