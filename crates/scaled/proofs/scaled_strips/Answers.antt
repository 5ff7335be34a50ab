-- `scaled_strips`: each turn paints one strip of the box.
use Prim.Native.Nat.{ℕ, ◌+◌, ◌≤◌, ◌<◌, min}
use mathlib.Core.Path.{◌≡◌, sym}
use mathlib.Core.List.{List}
use native.Mathlib.Omega.{arith}
use Rattle.geom.proofs.Laws.{box}
use Rattle.canvas.specs.Canvas.{painted, boxed}
use Rattle.canvas.proofs.Laws.Box.{Striping, strip_start, strip_next, strip_end}
use Rattle.scaled.proofs.scaled_strips.Goals as goal

start : {w x0 y0 x1 y1 : ℕ} {F : ℕ → ℕ → ℕ → ℕ} {cv : List ℕ} → x0 ≤ x1 → Striping w x0 y0 x1 y1 F cv cv (min x0 x1)
start {w} {x0} {y0} {x1} a = let e : min x0 x1 ≡ x0 = omega arith in rw e (strip_start a)

turn : {w x0 y0 x1 y1 : ℕ} {F : ℕ → ℕ → ℕ → ℕ} {cv px px' : List ℕ} {x m : ℕ} → Striping w x0 y0 x1 y1 F cv px (min x x1) → x < x1 → m ≡ min (x + 2048) x1
    → px' ≡ painted w (boxed (box x y0 m y1) F) px → Striping w x0 y0 x1 y1 F cv px' (min (x + 2048) x1)
turn {w} {x0} {y0} {x1} {y1} {F} {cv} {px} {px'} {x} {m} S a e q =
    let here : min x x1 ≡ x = omega arith in
    rw (sym e) (strip_next m (rw here at S) (omega arith) (omega arith) q)

pub loop-x0-init : goal.loop-x0-init
loop-x0-init c = start c.requires.inside.0

pub loop-x0-preserved : goal.loop-x0-preserved
loop-x0-preserved c = turn c.loop-x0.invariant c.loop-x0-test.true c.strip_end-x1.ensures c.scaled_rows.ensures

pub returns : goal.returns
returns c = strip_end c.loop-x0.invariant (omega (arith, c.loop-x0-test.false))

pub returns-2 : goal.returns-2
returns-2 c = strip_end (turn c.loop-x0.invariant c.loop-x0-test.true c.strip_end-x1.ensures c.scaled_rows.ensures) (omega arith)
