-- `lowered`: red and blue together, and green.
use Prim.Native.Nat.{◌-◌, ◌/◌, ◌%◌}
use native.Mathlib.Omega.{arith}
use Rattle.panel.proofs.Cut.{fields, less_whole, lit_lowered}
use Rattle.panel.proofs.light.lowered.Goals as goal

pub less_two-rb-requires : goal.less_two-rb-requires
less_two-rb-requires c =
    let q = c.args.q in
    let f = fields (q / 65536 % 256) (q % 256) (256 - c.from-rest.result) (omega arith) (omega arith) (omega arith) in
    (omega (arith, f.0, c.from-rest.ensures), omega (arith, f.1, c.from-rest.ensures))

pub overflow_add-result : goal.overflow_add-result
overflow_add-result c =
    let q = c.args.q in
    let w = c.from-rest in
    record { fits = (less_whole (q / 65536 % 256) (q / 256 % 256) (q % 256) (256 - w.result) _ _ (omega arith) (omega arith) (omega arith) (omega arith) c.less_two-rb.ensures c.less_two-g.ensures).1 }

pub returns : goal.returns
returns c =
    let q = c.args.q in
    let w = c.from-rest in
    lit_lowered c.args.p q (256 - w.result) c.requires (omega (arith, w.ensures)) (rw w.ensures)
    (less_whole (q / 65536 % 256) (q / 256 % 256) (q % 256) (256 - w.result) _ _ (omega arith) (omega arith) (omega arith) (omega arith) c.less_two-rb.ensures c.less_two-g.ensures).0
