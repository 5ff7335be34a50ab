-- `fill_gaps`: the runs are the unused bytes of a fill with each paint.
use Rattle.judge.proofs.Unused.{gaps_alike}
use Rattle.block.specs.Bytes.{every}
use Rattle.block.specs.Form.{fields, among, used}
use borrow.Author.Tests.{ne_eqb}
use mathlib.Core.Path.{refl}
use native.Mathlib.Omega.{arith}
use Rattle.judge.proofs.form.fill_gaps.Goals as goal
use Rattle.judge.proofs.form.fill_gaps.Goals.{in-1, in-2, in-3, in_default}

pub returns : goal.returns
unfolding every used among fields
returns c = elim c.match-p.branch [
  | in-1 w ↦ rw (w.last-is, w.in-1.is) (record { in_order = record { in_order = refl }; unused = refl })
  | in-2 w ↦ rw (w.last-is, w.in-2.is) (record { in_order = record { in_order = refl }; unused = refl })
  | in-3 w ↦ rw (w.last-is, w.in-3.is) (record { in_order = record { in_order = refl }; unused = refl })
  | in_default w ↦ rw w.last-is
      (gaps_alike 1 _ 1 0 _ (rw (ne_eqb c.args.p 1 (λ q. omega arith), ne_eqb c.args.p 2 (λ q. omega arith), ne_eqb c.args.p 3 (λ q. omega arith))) (record { in_order = record { in_order = refl }; unused = refl }))
]
