-- `step_row`: four columns more with each turn, and then the rest.
use Prim.Native.Nat.{ℕ, ◌≤◌, ◌<◌, ◌+◌, ◌-◌, ◌*◌, ◌/◌, ◌%◌}
use mathlib.Core.Path.{◌≡◌, refl, ◌∙◌, subst}
use native.Mathlib.Omega.{arith}
use lib.ListN.{length}
use Rattle.boxblur.specs.Private.{Split}
use Rattle.boxblur.proofs.Pass.{block_none}
use Rattle.boxblur.proofs.columns.step_row.Goals as goal
use Rattle.boxblur.proofs.columns.step_row.Goals.{Left-loop-i, else-loop-i-test, then-loop-i-test+else-m-i-gt4}

-- there is room for four
room : (i m n : ℕ) → m ≡ n / 4 * 4 → i < m → i % 4 ≡ 0 → i + 4 ≤ m
room i m n e h d = omega arith

pub loop-i-init : goal.loop-i-init
loop-i-init c =
    let a = c.args in
    (refl, (omega arith, (omega arith, (refl, (block_none a.pass.src.now a.pass.blur a.x (a.y + 1) a.s.now, λ j l h. c.requires.0 j h)))))

pub step_four-requires : goal.step_four-requires
step_four-requires c =
    let p = c.requires in
    let l = c.loop-i in
    let e = l.invariant.1.1.1.0 in
    let r = room _ _ _ l.invariant.0 c.loop-i-test.true l.invariant.1.1.0 in
    (rw e l.invariant.1.1.1.1, (p.1.0, (omega (arith, e, p.1.1), omega (arith, e, r, l.invariant.0))))

pub loop-i-preserved : goal.loop-i-preserved
loop-i-preserved c =
    let l = c.loop-i in
    let e = l.invariant.1.1.1.0 in
    let r = room _ _ _ l.invariant.0 c.loop-i-test.true l.invariant.1.1.0 in
    (refl, (r, (omega (arith, l.invariant.1.1.0), (c.step_four.auto.s ∙ e, rw e at c.step_four.ensures))))

-- where the four ends
last : (i m n : ℕ) → m ≡ n / 4 * 4 → i < m → i % 4 ≡ 0 → m - i ≤ 4 → i + 4 ≡ m
last i m n e h d k = omega arith

-- after the loop
done : (c : Left-loop-i) → let a = c.args in let s = c.loop-i-test.s in
    (length s ≡ length a.s.now) × Split a.pass.src.now a.pass.blur a.x (length a.s.now) a.y (length a.s.now / 4 * 4) s
done c =
    let a = c.args in
    let l = c.loop-i in
    let e = l.invariant.1.1.1.0 in
    elim c.loop-i-test.branch [
      | else-loop-i-test w ↦
          let i : l.i ≡ length a.s.now / 4 * 4 = omega (arith, w.loop-i-test.false, l.invariant.1.0) in
          rw w.s-is (e, subst (λ (k : ℕ). Split a.pass.src.now a.pass.blur a.x (length a.s.now) a.y k l.s) i l.invariant.1.1.1.1)
      | then-loop-i-test+else-m-i-gt4 w ↦
          let i : l.i + 4 ≡ length a.s.now / 4 * 4 = last _ _ _ l.invariant.0 w.loop-i-test.true l.invariant.1.1.0 (omega arith) in
          rw w.s-is (w.step_four.auto.s ∙ e, subst (λ (k : ℕ). Split a.pass.src.now a.pass.blur a.x (length a.s.now) a.y k w.step_four.new.s) i (rw e at w.step_four.ensures))
    ]

pub step_cells-requires : goal.step_cells-requires
step_cells-requires c =
    let p = c.requires in
    let d = done (goal.at.step_cells-requires c).Left-loop-i in
    (rw d.0 d.1, (p.1.0, (omega (arith, d.0, p.1.1), omega (arith, d.0))))

pub returns : goal.returns
returns c = let d = done (goal.at.returns c).Left-loop-i in rw d.0 at c.step_cells.ensures

pub shape_of-s : goal.shape_of-s
shape_of-s c = c.step_cells.auto.s ∙ (done (goal.at.shape_of-s c).Left-loop-i).0
