-- `mix_run`: both loops' invariant is `Rowed` at the pixel's rule.
use Prim.Native.Nat.{ℕ, ◌+◌, ◌*◌, ◌≤◌, ◌<◌}
use mathlib.Core.Path.{◌≡◌, refl, ◌∙◌}
use native.Mathlib.Omega.{arith}
use Rattle.canvas.proofs.Laws.Rows.{rowed_start}
use Rattle.glass.specs.Private.{Even, by_two, by_four}
use Rattle.glass.proofs.RunRow.{at_index, run_end, parts_of, store}
use Rattle.glass.proofs.upsample.mix_run.Goals as goal

-- the pixel lies in the row
room : {k : ℕ} → Even k → (i j n m : ℕ) → i < n → j < k → m ≡ n * k → i * k + j < m
room by_two i j n m h g e = omega arith
room by_four i j n m h g e = omega arith

-- the next run
next : {k : ℕ} → Even k → (i j : ℕ) → k ≤ j → j ≤ k → i * k + j ≡ (i + 1) * k
next by_two i j a b = omega arith
next by_four i j a b = omega arith

pub loop-i-init : goal.loop-i-init
loop-i-init g c = (at_index rowed_start (omega arith), omega arith)

pub loop-j-init : goal.loop-j-init
loop-j-init g c = (at_index c.loop-i.invariant.0 (omega arith), c.loop-i-test.true)

pub loop-j-preserved : goal.loop-j-preserved
loop-j-preserved g c =
    let l = c.loop-j in
    let q = c.requires.lengths in
    let t = c.loop-j-test.true in
    let w = parts_of q.3 l.j t in
    (store q.3 c.args.line.now c.loop-i.i l.j _ _ l.invariant.0 refl t (room q.3 c.loop-i.i l.j c.args.n _ l.invariant.1 t (l.invariant.0.long ∙ q.0)) (omega arith) w.1 c.ends_at-e.ensures c.mixed.ensures, l.invariant.1)

pub loop-i-preserved : goal.loop-i-preserved
loop-i-preserved g c =
    let l = c.loop-j in
    (at_index l.invariant.0 (next c.requires.lengths.3 c.loop-i.i l.j c.loop-j-test.false l.auto.j-end), omega (arith, l.invariant.1))

pub returns : goal.returns
returns g c = run_end g.row.K c.loop-i.invariant.0 c.requires.lengths.0 c.loop-i-test.false

pub shape_of-dst : goal.shape_of-dst
shape_of-dst g c = c.loop-i.invariant.0.long
