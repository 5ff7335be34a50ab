-- `meets`: the window's rows passed show nothing.
use Prim.Native.Nat.{◌+◌, ◌*◌, ◌≤◌}
use mathlib.Core.Path.{sym, ◌∙◌}
use lib.ListN.{length}
use Rattle.stain.proofs.Sets as Sets
use Rattle.stain.proofs.meets.Goals as goal
use Rattle.stain.proofs.meets.Goals.{In-loop-y}

pub loop-y-init : goal.loop-y-init
loop-y-init c =
    let a = c.args in
    let p = c.requires in
    Sets.clear_start a.size.w a.size.h a.a.x0 a.a.y0 a.a.x1 a.a.y1 a.map.now p.size.0 p.inside.0 p.inside.1 p.inside.3 p.inside.2

-- the row's span lies within the map
room : (c : In-loop-y) → let l = c.loop-y in let a = c.args in
    (l.y * a.size.w + a.a.x0 ≤ l.y * a.size.w + a.a.x1) × (l.y * a.size.w + a.a.x1 ≤ length a.map.now)
room c =
    let a = c.args in
    let p = c.requires in
    Sets.room a.size.w a.size.h a.a.x0 a.a.y0 a.a.x1 a.a.y1 a.map.now p.size.0 p.inside.0 p.inside.1 p.inside.3 c.loop-y.y c.loop-y-test.true

pub returns-then-any : goal.returns-then-any
returns-then-any c =
    let l = c.loop-y in
    let a = c.args in
    let p = c.requires in
    Sets.row-meets a.size.w a.size.h a.a.x0 a.a.y0 a.a.x1 a.a.y1 a.map.now p.size.0 p.inside.0 p.inside.1 p.inside.3 l.y c.loop-y-test.true l.invariant.from
    (sym c.any.ensures ∙ c.if-any.true)

pub loop-y-preserved : goal.loop-y-preserved
loop-y-preserved c =
    let l = c.loop-y in
    let a = c.args in
    let p = c.requires in
    Sets.row-clear a.size.w a.size.h a.a.x0 a.a.y0 a.a.x1 a.a.y1 a.map.now p.size.0 p.inside.0 p.inside.1 p.inside.3 l.y c.loop-y-test.true l.invariant
    (sym c.any.ensures ∙ c.if-any.false)

pub returns : goal.returns
returns c =
    let l = c.loop-y in
    let a = c.args in
    let p = c.requires in
    Sets.clear_all a.size.w a.size.h a.a.x0 a.a.y0 a.a.x1 a.a.y1 a.map.now p.size.0 p.inside.0 p.inside.1 p.inside.3 l.y l.invariant c.loop-y-test.false
