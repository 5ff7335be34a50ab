-- `inner_cell`: a turn whose window's cells need not be held.
use Prim.Native.Nat.{◌+◌}
use mathlib.Core.Path.{refl}
use native.Mathlib.Omega.{arith}
use Rattle.boxblur.proofs.Pass.{Along, along_start, along-fits, along_more, along-all}
use Rattle.boxblur.proofs.rows.inner_cell.Goals as goal
use Rattle.boxblur.proofs.rows.inner_cell.Goals.{After-offset-o}

start : (c : After-offset-o) → let a = c.args in Along a.pass.src.now a.pass.blur a.y a.x (a.x + 1) a.x a.dst.now a.dst.now a.s
start c = along_start (omega arith) c.requires.1.0

pub turn-requires : goal.turn-requires
turn-requires c =
    let p = c.requires in
    let e = c.offset-o.ensures.0 in
    along-fits (start (goal.at.turn-requires c).After-offset-o) c.args.pass.fits p.0 p.1.1.0 (omega arith) (omega (arith, p.1.1.1.1)) _ _ _
    e (omega (arith, e, p.1.1.1)) (omega (arith, e, p.1.1.1))
    (λ i. c.args.pass.bytes i)

pub returns : goal.returns
returns c =
    let p = c.requires in
    let e = c.offset-o.ensures.0 in
    along-all
    (along_more (start (goal.at.returns c).After-offset-o) c.args.pass.fits p.0 p.1.1.0 (omega arith) (omega (arith, p.1.1.1.1)) _ _ _
    e (omega (arith, e, p.1.1.1)) (omega (arith, e, p.1.1.1))
    c.turn.ensures) 1 refl
