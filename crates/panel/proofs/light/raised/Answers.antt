-- `raised`: red and blue together, and green.
use Prim.Native.Nat.{◌/◌, ◌%◌}
use native.Mathlib.Omega.{arith}
use Rattle.panel.proofs.Cut.{fields, whole, lit_raised}
use Rattle.panel.proofs.light.raised.Goals as goal

pub cut_two-rb-requires : goal.cut_two-rb-requires
cut_two-rb-requires c =
    let q = c.args.q in
    let f = fields (q / 65536 % 256) (q % 256) c.from-up.result (omega arith) (omega arith) (omega arith) in
    (omega (arith, f.0, c.from-up.ensures), omega (arith, f.1, c.from-up.ensures))

pub overflow_add-result : goal.overflow_add-result
overflow_add-result c =
    let q = c.args.q in
    let w = c.from-up in
    record { fits = (whole (q / 65536 % 256) (q / 256 % 256) (q % 256) w.result _ _ (omega arith) (omega arith) (omega arith) (omega arith) c.cut_two-rb.ensures c.cut_two-g.ensures).1 }

pub returns : goal.returns
returns c =
    let q = c.args.q in
    let w = c.from-up in
    lit_raised c.args.p q c.requires
    (rw (← w.ensures) (whole (q / 65536 % 256) (q / 256 % 256) (q % 256) w.result _ _ (omega arith) (omega arith) (omega arith) (omega arith) c.cut_two-rb.ensures c.cut_two-g.ensures).0)
