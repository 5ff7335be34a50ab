-- Steps one after the other, each given what the one before returned: they paint the rundown in ascending priority, each layer from the pool of its own step.
use Rattle.std.specs.Option.{option_map_or}
use Rattle.std.proofs.Common.{Ok, Some}
use mathlib.Core.Path.{◌≡◌, refl, sym, ap, ◌∙◌}
use mathlib.Core.List.{List, [], ◌∷◌, ◌++◌, map, map-append, foldl-append}
use Prim.Native.Nat.{ℕ, zero, suc, ◌≤◌, ◌<◌}
use native.Mathlib.Omega.{arith}
use borrow.Author.Tests.{lt-ltb, le-ltb}
use lib.ListN.{length, get_or, take, drop}
use lib.Seq.{take-suc, take_all, length-take-le}
use Rattle.answer.specs.declared.Cause.TheVariants.{Next}
use Rattle.answer.specs.Answer.{returned, Answer, refused}
use Rattle.block.specs.Bytes.{block_at, byte}
use Rattle.block.proofs.Laws.{priority_small}
use Rattle.order.specs.Order.{priority_at, ascending, left}
use Rattle.order.proofs.Laws.Walk.{Differ, length_ascending}
use Rattle.order.proofs.Laws.Listed.{table as list_of, table_long as list_of_long}
use Rattle.order.proofs.Laws.Next.{left_first, left-next, next-at, next_last}
use Rattle.taint.specs.Stain.{Layer, Stain, clean, after, stain}
use Rattle.layer.specs.Layer.{layer_of, painting}
use Rattle.accept.specs.Tests.{answer}
use Rattle.accept.proofs.Laws.Tests.{passes_all}
use Rattle.play.specs.Play.{paint_each, canvas_after, final, stain_after, stain_of}
use Rattle.steps.specs.Steps.{step, Call, call, tests, from, next, chosen_by, chosen, or_none, answer_by, call_answer, call_canvas, call_stain, calls_answers, calls_canvas, calls_stain, paint_own}
use Rattle.steps.proofs.Laws.Calls.{refused_unchanged, calls_long, canvas_more, answers_more, stain_more}

-- ---- one layer more

own_more : (w h : ℕ) (table : List ℕ) (p : ℕ → List ℕ) (buf is : List ℕ) (i : ℕ) (cv : List ℕ)
    → paint_own w h table p buf (is ++ i ∷ []) cv ≡ painting w h table (p (length is)) (block_at buf i) (paint_own w h table p buf is cv)
unfolding paint_own
own_more w h table p buf [] i cv = refl
own_more w h table p buf (k ∷ is) i cv = own_more w h table (λ i. p (suc i)) buf is i (painting w h table (p 0) (block_at buf k) cv)

-- with one pool for all it is what play paints
own_one : (w h : ℕ) (table : List ℕ) (p : ℕ → List ℕ) (pool buf is cv : List ℕ) → ((j : ℕ) → j < length is → p j ≡ pool) → paint_own w h table p buf is cv ≡ paint_each w h table pool buf is cv
unfolding paint_own paint_each
own_one w h table p pool buf [] cv e = refl
own_one w h table p pool buf (i ∷ is) cv e =
    own_one w h table (λ i. p (suc i)) pool buf is (painting w h table (p 0) (block_at buf i) cv) (λ j l. e (suc j) (omega arith))
    ∙ ap (λ (q : List ℕ). paint_each w h table pool buf is (painting w h table q (block_at buf i) cv)) (e 0 (omega arith))

-- ---- the playing

-- step j has the pool p j and scratch slices of la j and lb j bytes; `unpainted` is a number above 65535, which says none
module _ (w h : ℕ) (table buf cv : List ℕ) (p : ℕ → List ℕ) (la lb : ℕ → ℕ) (unpainted : ℕ) where
  -- what step j is given: none at first, and then what the step before it returned
  unfoldable pub given : ℕ → ℕ
  given zero = unpainted
  given (suc j) = (returned (call_answer (call (step (given j)) buf w h table (la j) (lb j)) (length cv) (length (p j)))).value

  -- step j
  abbrev pub step_at : ℕ → Call
  step_at j = call (step (given j)) buf w h table (la j) (lb j)

  -- the first j steps
  abbrev pub steps : ℕ → List Call
  steps j = list_of step_at j

  -- what is said of n + 1 steps of a rundown of n layers
  pub record InOrder (n : ℕ) : Type 0 where
    -- the first n answer the priorities in ascending order, and the last answers 16 with 0
    pub answers : calls_answers (steps (suc n)) p cv ≡ map (λ i. Ok (priority_at buf i)) (ascending buf n) ++ refused Next 0 ∷ []
    -- after j of them the j lowest layers are painted, each from the pool of its own step
    pub canvas : (j : ℕ) → j ≤ n → calls_canvas (steps j) p cv ≡ paint_own w h table p buf (take j (ascending buf n)) cv
    -- the last changes nothing
    pub last-unchanged : calls_canvas (steps (suc n)) p cv ≡ calls_canvas (steps n) p cv
    -- where all pools are one, the canvas is the one that play leaves
    pub whole-canvas : (pool : List ℕ) → ((j : ℕ) → j < n → p j ≡ pool) → (a b : ℕ) → answer w h (length cv) table (length pool) buf a b ≡ Ok n
        → calls_canvas (steps n) p cv ≡ final w h table pool buf a b cv
    -- and whatever the pools, the stain of each source is the one of a play
    pub whole-stain : (s m a b : ℕ) → answer w h (length cv) table m buf a b ≡ Ok n → calls_stain s (steps n) (length cv) (λ i. length (p i)) clean ≡ stain_of w h (length cv) table m buf a b s

  given_next : (j v : ℕ) → call_answer (step_at j) (length cv) (length (p j)) ≡ Ok v → given (suc j) ≡ v
  unfolding given returned
  given_next j v e = ap (λ (a : Answer). (returned a).value) e

  given_first : given zero ≡ unpainted
  unfolding given
  given_first = refl

  -- a rundown is a list of bytes; with each step's pool and scratch the tests count n layers
  module _ (small : (o : ℕ) → byte buf o < 256) (high : 65535 < unpainted) (n : ℕ) (ok : (j : ℕ) → j ≤ n → answer w h (length cv) table (length (p j)) buf (la j) (lb j) ≡ Ok n) where
    abbrev is : List ℕ
    is = ascending buf n

    differ : Differ buf n
    differ = (passes_all w h (length cv) table (length (p 0)) buf (la 0) (lb 0) n (ok 0 (omega arith))).differ

    -- ---- which block comes

    -- where the layers from place j on are left, step j answers the priority at place j
    answers-if : (j : ℕ) → j < n → left buf n (from (given j)) ≡ drop j is → call_answer (step_at j) (length cv) (length (p j)) ≡ Ok (priority_at buf (get_or is j 0))
    unfolding call_answer tests answer_by next or_none
    answers-if j l e = rw (ok j (omega arith), next-at buf n (from (given j)) j e l) refl

    -- and these are left
    remains : (j : ℕ) → j ≤ n → left buf n (from (given j)) ≡ drop j is
    unfolding from
    remains zero l = rw (given_first, lt-ltb 65535 unpainted high) (left_first buf n)
    remains (suc j) l =
        let i = get_or is j 0 in
        let e = remains j (omega arith) in
        rw (given_next j (priority_at buf i) (answers-if j (omega arith) e), le-ltb 65535 (priority_at buf i) (omega (arith, priority_small buf small i))) (left-next buf n (from (given j)) j e differ (omega arith))

    answers_at : (j : ℕ) → j < n → call_answer (step_at j) (length cv) (length (p j)) ≡ Ok (priority_at buf (get_or is j 0))
    answers_at j l = answers-if j l (remains j (omega arith))

    answers-last : call_answer (step_at n) (length cv) (length (p n)) ≡ refused Next 0
    unfolding call_answer tests answer_by next or_none
    answers-last = rw (ok n (omega arith), next_last buf n (from (given n)) (remains n (omega arith))) refl

    chosen_at : (j : ℕ) → j < n → chosen (step_at j) (length cv) (length (p j)) ≡ Some (get_or is j 0)
    unfolding chosen tests chosen_by next
    chosen_at j l = rw (ok j (omega arith)) (next-at buf n (from (given j)) j (remains j (omega arith)) l)

    -- ---- after j steps

    take_more : (j : ℕ) → j < n → take (suc j) is ≡ take j is ++ get_or is j 0 ∷ []
    take_more j l = take-suc is j 0 (rw (length_ascending buf n) l)

    take_whole : take n is ≡ is
    take_whole = take_all n is (rw (length_ascending buf n) (omega arith))

    canvas-after : (j : ℕ) → j ≤ n → calls_canvas (steps j) p cv ≡ paint_own w h table p buf (take j is) cv
    unfolding list_of calls_canvas paint_own call_canvas
    canvas-after zero l = refl
    canvas-after (suc j) l =
        canvas_more (steps j) (step_at j) p cv ∙ rw (list_of_long step_at j) paints
        ∙ ap (λ (c : List ℕ). painting w h table (p j) (block_at buf (get_or is j 0)) c) (canvas-after j (omega arith))
        ∙ sym (rw (take_more j (omega arith)) (own_more w h table p buf (take j is) (get_or is j 0) cv
        ∙ ap (λ (k : ℕ). painting w h table (p k) (block_at buf (get_or is j 0)) (paint_own w h table p buf (take j is) cv)) (length-take-le j is (rw (length_ascending buf n) (omega arith)))))
      where
        paints : call_canvas (step_at j) (p j) (calls_canvas (steps j) p cv) ≡ painting w h table (p j) (block_at buf (get_or is j 0)) (calls_canvas (steps j) p cv)
        paints = rw (calls_long (steps j) p cv, chosen_at j (omega arith)) refl

    answers-after : (j : ℕ) → j ≤ n → calls_answers (steps j) p cv ≡ map (λ i. Ok (priority_at buf i)) (take j is)
    unfolding list_of calls_answers
    answers-after zero l = refl
    answers-after (suc j) l =
        answers_more (steps j) (step_at j) p cv
        ∙ rw (list_of_long step_at j, answers_at j (omega arith), answers-after j (omega arith), take_more j (omega arith)) (sym (map-append (λ i. Ok (priority_at buf i)) (take j is) (get_or is j 0 ∷ [])))

    stain-after : (s j : ℕ) → j ≤ n → calls_stain s (steps j) (length cv) (λ i. length (p i)) clean ≡ stain w (length cv) s (map (λ i. layer_of w h table (block_at buf i)) (take j is)) clean
    unfolding list_of calls_stain stain call_stain
    stain-after s zero l = refl
    stain-after s (suc j) l =
        let lay : ℕ → Layer = λ i. layer_of w h table (block_at buf i) in
        stain_more s (steps j) (step_at j) (length cv) (λ i. length (p i)) clean ∙ rw (list_of_long step_at j) grows
        ∙ ap (λ (σ : Stain). after w (length cv) s (lay (get_or is j 0)).sort (lay (get_or is j 0)).box σ) (stain-after s j (omega arith))
        ∙ rw (take_more j (omega arith), map-append lay (take j is) (get_or is j 0 ∷ [])) (sym (foldl-append (λ σ l. after w (length cv) s l.sort l.box σ) clean (map lay (take j is)) (lay (get_or is j 0) ∷ [])))
      where
        grows : let l = layer_of w h table (block_at buf (get_or is j 0)) in let σ = calls_stain s (steps j) (length cv) (λ i. length (p i)) clean in
            call_stain s (step_at j) (length cv) (length (p j)) σ ≡ after w (length cv) s l.sort l.box σ
        grows = rw (chosen_at j (omega arith)) refl

    -- ---- the theorem

    ends : calls_answers (steps (suc n)) p cv ≡ map (λ i. Ok (priority_at buf i)) is ++ refused Next 0 ∷ []
    unfolding list_of
    ends = answers_more (steps n) (step_at n) p cv ∙ rw (list_of_long step_at n, answers-last, answers-after n (omega arith), take_whole) refl

    stays : calls_canvas (steps (suc n)) p cv ≡ calls_canvas (steps n) p cv
    unfolding list_of
    stays =
        canvas_more (steps n) (step_at n) p cv
        ∙ rw (list_of_long step_at n) (refused_unchanged (step_at n) (p n) (calls_canvas (steps n) p cv) Next 0 (rw (calls_long (steps n) p cv) answers-last)).canvas

    played : (pool : List ℕ) → ((j : ℕ) → j < n → p j ≡ pool) → (a b : ℕ) → answer w h (length cv) table (length pool) buf a b ≡ Ok n → calls_canvas (steps n) p cv ≡ final w h table pool buf a b cv
    unfolding final canvas_after
    played pool one a b e =
        canvas-after n (omega arith) ∙ rw (take_whole, e) (own_one w h table p pool buf is cv (λ j l. one j (rw (length_ascending buf n) at l)))

    stained : (s m a b : ℕ) → answer w h (length cv) table m buf a b ≡ Ok n → calls_stain s (steps n) (length cv) (λ i. length (p i)) clean ≡ stain_of w h (length cv) table m buf a b s
    unfolding stain_of stain_after
    stained s m a b e = stain-after s n (omega arith) ∙ rw (take_whole, e) refl

    -- STEPS PAINT IN ORDER
    pub in_order : InOrder n
    in_order = record { answers = ends; canvas = canvas-after; last-unchanged = stays; whole-canvas = played; whole-stain = stained }
