-- `weighed_outside`: the bytes between the runs, which weigh nothing.
use Rattle.block.specs.Bytes.{weighed}
use Rattle.judge.specs.Private.{InOrder}
use Rattle.judge.proofs.Unused.{fits_at, behind_at, weightless_at}
use Prim.Native.Nat.{ℕ, suc, ◌+◌, ◌≤◌, ◌<◌}
use lib.ListN.{length, get_or}
use mathlib.Core.List.{List}
use mathlib.Core.Path.{◌≡◌, refl}
use native.Mathlib.Omega.{arith}
use Rattle.judge.proofs.form.Runs.weighed_outside.Goals as goal

-- between run i and the next
between : (rs : List (ℕ × ℕ)) → InOrder rs → (i : ℕ) → suc i < length rs → (get_or rs i (0, 0)).1 ≤ (get_or rs (suc i) (0, 0)).0 × (get_or rs (suc i) (0, 0)).0 ≤ 508
between rs o i h = (behind_at 0 rs i (0, 0) o.in_order h, (let f = fits_at 0 rs (suc i) (0, 0) o.in_order h in omega (arith, f.0, f.1)))

-- six parts, and five runs that add nothing
whole : (z a b c d e v p0 f0 t0 f1 t1 f2 t2 f3 t3 f4 t4 : ℕ) → p0 ≡ 0 → p0 + z ≡ f0 → t0 ≡ f0 → t0 + a ≡ f1 → t1 ≡ f1 → t1 + b ≡ f2 → t2 ≡ f2 → t2 + c ≡ f3 → t3 ≡ f3 → t3 + d ≡ f4 → t4 ≡ f4 → t4 + e ≡ v → z + a + b + c + d + e ≡ v
whole z a b c d e v p0 f0 t0 f1 t1 f2 t2 f3 t3 f4 t4 q0 q1 q2 q3 q4 q5 q6 q7 q8 q9 q10 q11 = omega arith

pub returns : goal.returns
unfolding weighed
returns c =
    let w = λ (i : ℕ) (h : i < length c.args.self.now.at). weightless_at c.args.b.now 0 c.args.self.now.at i (0, 0) c.args.self.now.in_order.in_order c.requires h in
    whole _ _ _ _ _ _ _ _ _ _ _ _ _ _ _ _ _ _ refl c.weighed_run.ensures.0 (w 0 (omega arith)) c.weighed_run-2.ensures.0 (w 1 (omega arith)) c.weighed_run-3.ensures.0
    (w 2 (omega arith)) c.weighed_run-4.ensures.0 (w 3 (omega arith)) c.weighed_run-5.ensures.0 (w 4 (omega arith)) c.weighed_run-6.ensures.0

pub weighed_run-requires : goal.weighed_run-requires
weighed_run-requires c = let f = fits_at 0 c.args.self.now.at 0 (0, 0) c.args.self.now.in_order.in_order (omega arith) in (omega arith, omega (arith, f.0, f.1))

pub weighed_run-requires-2 : goal.weighed_run-requires-2
weighed_run-requires-2 c = between _ c.args.self.now.in_order 0 (omega arith)

pub weighed_run-requires-3 : goal.weighed_run-requires-3
weighed_run-requires-3 c = between _ c.args.self.now.in_order 1 (omega arith)

pub weighed_run-requires-4 : goal.weighed_run-requires-4
weighed_run-requires-4 c = between _ c.args.self.now.in_order 2 (omega arith)

pub weighed_run-requires-5 : goal.weighed_run-requires-5
weighed_run-requires-5 c = between _ c.args.self.now.in_order 3 (omega arith)

pub weighed_run-requires-6 : goal.weighed_run-requires-6
weighed_run-requires-6 c = ((fits_at 0 c.args.self.now.at 4 (0, 0) c.args.self.now.in_order.in_order (omega arith)).1, omega arith)
