-- `mix_run`: both loops' invariant is `Rowed` at the pixel's rule.
use Prim.Native.Nat.{◌+◌, ◌*◌, ◌≤◌, ◌<◌}
use Rattle.canvas.proofs.Laws.Rows.{Rowed}
use Rattle.glass.specs.Private.{line_run}
use Rattle.glass.proofs.upsample.mix_run.Given as goal

abbrev pub invariant-loop-i : goal.invariant-loop-i
invariant-loop-i g l = Rowed (λ m q. line_run g.row.K l.line m) l.fn.dst l.dst (l.i * g.row.K) × (l.i ≤ l.n)

abbrev pub invariant-loop-j : goal.invariant-loop-j
invariant-loop-j g l = Rowed (λ m q. line_run g.row.K l.line m) l.fn.dst l.dst (l.i * g.row.K + l.j) × (l.i < l.n)
