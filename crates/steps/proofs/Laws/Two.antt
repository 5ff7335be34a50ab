-- Two playings in steps that differ in one source's pixels alone: demand 3 after each call.
use Rattle.std.specs.Option.{option_map_or}
use Rattle.std.proofs.Common.{Option, None, Some}
use mathlib.Core.Path.{◌≡◌, refl, sym, ap₂, ◌∙◌}
use mathlib.Core.Bool.{false}
use mathlib.Core.List.{List, [], ◌∷◌, map}
use Prim.Native.Nat.{ℕ, zero, suc, ◌<◌}
use native.Mathlib.Omega.{arith}
use lib.ListN.{length, get_or, take}
use Rattle.block.specs.Bytes.{block_at}
use Rattle.sources.specs.Table.{sizes, total, pixels, OnlyAt}
use Rattle.sources.proofs.Pool.{alike}
use Rattle.taint.specs.Stain.{Stain, clean, after}
use Rattle.taint.proofs.Laws.Agree.{Agree, agree_one}
use Rattle.layer.specs.Layer.{Accepted, layer_of, painting}
use Rattle.layer.proofs.Laws.Painter.{painter}
use Rattle.accept.proofs.Laws.Tests.{passes_all}
use Rattle.steps.specs.Steps.{Ask, Call, call, tests, chosen, call_canvas, call_stain, calls_answers, calls_canvas, calls_stain}
use Rattle.steps.proofs.Laws.Calls.{chosen_passed, call_long}

-- ---- one call

-- block i, where it is painted
module _ (s n : ℕ) (c : Call) (p q : List ℕ) (o : OnlyAt c.table s p q) (cv dv : List ℕ) (lc : length cv ≡ n) (ld : length dv ≡ n) (σ : Stain) (A : Agree n σ cv dv) where
  painted : (i : ℕ) → chosen c n (length p) ≡ Some i → let b = block_at c.rundown i in let l = layer_of c.width c.height c.table b in
      Agree n (after c.width n s l.sort l.box σ) (painting c.width c.height c.table p b cv) (painting c.width c.height c.table q b dv)
  unfolding tests
  painted i e =
      let w = c.width in
      let h = c.height in
      let table = c.table in
      let x = chosen_passed c n (length p) i e in
      let t = passes_all w h n table (length p) c.rundown c.first c.second x.0 x.1.0 in
      agree_one w n (List ℕ) (List ℕ) (pixels table) (layer_of w h table) (λ p b c. painting w h table p b c) (λ x. length x ≡ total (sizes table)) (Accepted w table)
      (painter w h n t.canvas_right table t.sides_right) s p q t.pool_right_lem (sym o.long ∙ t.pool_right_lem) (alike table s p q o)
      (block_at c.rundown i) (t.accepted i x.1.1) cv dv lc ld σ A

  agree_call : Agree n (call_stain s c n (length p) σ) (call_canvas c p cv) (call_canvas c q dv)
  unfolding call_stain call_canvas
  agree_call = rw (lc, ld, ← o.long) (go (chosen c n (length p)) refl)
    where
      go : (m : Option ℕ) → chosen c n (length p) ≡ m →
          Agree n (option_map_or (λ i. let l = layer_of c.width c.height c.table (block_at c.rundown i) in after c.width n s l.sort l.box σ) m σ)
          (option_map_or (λ i. painting c.width c.height c.table p (block_at c.rundown i) cv) m cv) (option_map_or (λ i. painting c.width c.height c.table q (block_at c.rundown i) dv) m dv)
      go None e = A
      go (Some i) e = painted i e

-- ---- lists of calls

-- call i's table
abbrev pub table_at : List Call → ℕ → List ℕ
table_at calls i = get_or (map (λ c. c.table) calls) i []

-- at each call the pools differ, if at all, at the words of source s alone
abbrev pub Hidden : ℕ → List Call → (p q : ℕ → List ℕ) → Type 0
Hidden s calls p q = (i : ℕ) → i < length calls → OnlyAt (table_at calls i) s (p i) (q i)

-- what is said of two playings after these calls, which start on one canvas
pub record TwoPlayings (s : ℕ) (cv : List ℕ) (calls : List Call) (p q : ℕ → List ℕ) : Type 0 where
  -- they give the same answers
  pub one_answer : calls_answers calls p cv ≡ calls_answers calls q cv
  -- and leave one pixel wherever there is no stain of the layers painted so far
  pub outside_stain : (k : ℕ) → k < length cv → calls_stain s calls (length cv) (λ i. length (p i)) clean k ≡ false → get_or (calls_canvas calls p cv) k 0 ≡ get_or (calls_canvas calls q cv) k 0

module _ (s n : ℕ) where
  two : (calls : List Call) (p q : ℕ → List ℕ) → Hidden s calls p q → (j : ℕ) (cv dv : List ℕ) → length cv ≡ n → length dv ≡ n → (σ : Stain) → Agree n σ cv dv
      → (calls_answers (take j calls) p cv ≡ calls_answers (take j calls) q dv) × Agree n (calls_stain s (take j calls) n (λ i. length (p i)) σ) (calls_canvas (take j calls) p cv) (calls_canvas (take j calls) q dv)
  unfolding calls_answers calls_stain calls_canvas
  two calls p q o zero cv dv lc ld σ A = (refl, A)
  two [] p q o (suc j) cv dv lc ld σ A = (refl, A)
  two (c ∷ cs) p q o (suc j) cv dv lc ld σ A =
      let first = o 0 (omega arith) in
      let rest = two cs (λ i. p (suc i)) (λ i. q (suc i)) (λ i l. o (suc i) (omega arith)) j (call_canvas c (p 0) cv) (call_canvas c (q 0) dv) (call_long c (p 0) cv ∙ lc) (call_long c (q 0) dv ∙ ld)
      (call_stain s c n (length (p 0)) σ) (agree_call s n c (p 0) (q 0) first cv dv lc ld σ A) in
      (ap₂ ◌∷◌ (rw (lc, ld, first.long) refl) rest.0, rest.1)

-- TWO PLAYINGS IN STEPS: whatever the calls are, each with its own rundown, sizes, table, scratch lengths and last priority, accepted or refused, and after each of them
pub two_playings : (s : ℕ) (cv : List ℕ) (calls : List Call) (p q : ℕ → List ℕ) → Hidden s calls p q → (j : ℕ) → TwoPlayings s cv (take j calls) p q
two_playings s cv calls p q o j =
    let r = two s (length cv) calls p q o j cv cv refl refl clean (λ k l e. refl) in
    record { one_answer = r.0; outside_stain = r.1 }

-- 02'S CASE: one rundown and one size, and only the pools change from call to call
module _ (s : ℕ) (buf : List ℕ) (w h : ℕ) (table : List ℕ) (la lb : ℕ) where
  -- begins and steps, all lent the same
  abbrev pub alike_calls : List Ask → List Call
  alike_calls asks = map (λ k. call k buf w h table la lb) asks

  hidden : (asks : List Ask) (p q : ℕ → List ℕ) → ((i : ℕ) → i < length asks → OnlyAt table s (p i) (q i)) → Hidden s (alike_calls asks) p q
  hidden [] p q o i l = absurd (omega arith)
  hidden (k ∷ ks) p q o zero l = o 0 (omega arith)
  hidden (k ∷ ks) p q o (suc i) l = hidden ks (λ i. p (suc i)) (λ i. q (suc i)) (λ i m. o (suc i) (omega arith)) i (omega arith)

  pub fresh_pools : (cv : List ℕ) (asks : List Ask) (p q : ℕ → List ℕ) → ((i : ℕ) → i < length asks → OnlyAt table s (p i) (q i)) → (j : ℕ) → TwoPlayings s cv (take j (alike_calls asks)) p q
  fresh_pools cv asks p q o j = two_playings s cv (alike_calls asks) p q (hidden asks p q o) j
