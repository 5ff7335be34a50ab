-- `put_row`: sixteen columns more with each turn, and then the rest.
use Prim.Native.Nat.{ℕ, ◌≤◌, ◌<◌, ◌+◌, ◌*◌, ◌-◌, ◌/◌, ◌%◌}
use mathlib.Core.Path.{◌≡◌, refl, ◌∙◌, ap}
use native.Mathlib.Omega.{arith}
use lib.ListN.{length}
use Rattle.boxblur.specs.Private.{means, span}
use Rattle.boxblur.proofs.Pass.{span_none, span_length, span_then, put_part}
use Rattle.boxblur.proofs.columns.put_row.Goals as goal
use Rattle.boxblur.proofs.columns.put_row.Goals.{Left-loop-i, else-loop-i-test, then-loop-i-test+else-m-i-gt16}

-- there is room for sixteen
room : (i m n : ℕ) → m ≡ n / 16 * 16 → i < m → i % 16 ≡ 0 → i + 16 ≤ m
room i m n e h d = omega arith

-- where the last sixteen end
last : (i m n : ℕ) → m ≡ n / 16 * 16 → i < m → i % 16 ≡ 0 → m - i ≤ 16 → i + 16 ≡ m
last i m n e h d k = omega arith

pub put_cells-requires : goal.put_cells-requires
put_cells-requires c =
    let l = c.loop-i in
    let r = room _ _ _ l.invariant.0 c.loop-i-test.true l.invariant.1.1.0 in
    put_part c.requires l.i 16 (omega (arith, r, l.invariant.0)) (ap length l.invariant.1.1.1 ∙ span_length (means c.args.s.now c.args.x) c.args.w c.args.y c.args.x l.i c.args.dst.now)

pub loop-i-preserved : goal.loop-i-preserved
loop-i-preserved c =
    let a = c.args in
    let l = c.loop-i in
    let r = room _ _ _ l.invariant.0 c.loop-i-test.true l.invariant.1.1.0 in
    (l.invariant.0, (r, (omega (arith, l.invariant.1.1.0), span_then (means a.s.now a.x) a.w a.y a.x (a.x + l.i) l.i 16 a.dst.now l.dst _ refl l.invariant.1.1.1 c.put_cells.ensures)))

-- after the loop
done : (c : Left-loop-i) → let a = c.args in c.loop-i-test.dst ≡ span (means a.s.now a.x) a.w a.y a.x (length a.s.now / 16 * 16) a.dst.now
done c =
    let a = c.args in
    let l = c.loop-i in
    elim c.loop-i-test.branch [
      | else-loop-i-test w ↦
          let i : l.i ≡ length a.s.now / 16 * 16 = omega (arith, w.loop-i-test.false, l.invariant.1.0) in
          w.dst-is ∙ l.invariant.1.1.1 ∙ ap (λ (n : ℕ). span (means a.s.now a.x) a.w a.y a.x n a.dst.now) i
      | then-loop-i-test+else-m-i-gt16 w ↦
          let i : l.i + 16 ≡ length a.s.now / 16 * 16 = last _ _ _ l.invariant.0 w.loop-i-test.true l.invariant.1.1.0 (omega arith) in
          w.dst-is ∙ span_then (means a.s.now a.x) a.w a.y a.x (a.x + l.i) l.i 16 a.dst.now l.dst _ refl l.invariant.1.1.1 w.put_cells.ensures
          ∙ ap (λ (n : ℕ). span (means a.s.now a.x) a.w a.y a.x n a.dst.now) i
    ]

long : (c : Left-loop-i) → length c.loop-i-test.dst ≡ length c.args.dst.now
long c = let a = c.args in ap length (done c) ∙ span_length (means a.s.now a.x) a.w a.y a.x (length a.s.now / 16 * 16) a.dst.now

pub put_cells-requires-2 : goal.put_cells-requires-2
put_cells-requires-2 c =
    let n = length c.args.s.now in
    put_part c.requires (n / 16 * 16) (n - n / 16 * 16) (omega arith) (long (goal.at.put_cells-requires-2 c).Left-loop-i)

pub returns : goal.returns
returns c =
    let a = c.args in
    let n = length a.s.now in
    let all : n / 16 * 16 + (n - n / 16 * 16) ≡ n = omega arith in
    span_then (means a.s.now a.x) a.w a.y a.x (a.x + n / 16 * 16) (n / 16 * 16) (n - n / 16 * 16) a.dst.now c.loop-i-test.dst _ refl (done (goal.at.returns c).Left-loop-i) c.put_cells-2.ensures
    ∙ ap (λ (n : ℕ). span (means a.s.now a.x) a.w a.y a.x n a.dst.now) all

pub loop-i-init : goal.loop-i-init
loop-i-init c = let a = c.args in (refl, (omega arith, (omega arith, span_none (means a.s.now a.x) a.w a.y a.x a.dst.now)))

pub shape_of-dst : goal.shape_of-dst
shape_of-dst c =
    let a = c.args in
    let n = length a.s.now in
    ap length c.put_cells-2.ensures ∙ span_length (means a.s.now a.x) a.w a.y (a.x + n / 16 * 16) (n - n / 16 * 16) c.loop-i-test.dst ∙ long (goal.at.shape_of-dst c).Left-loop-i
