-- `color::quot_two` meets its contract: a quotient by 255 is one by 256 of a little more, in both lanes.
use Rattle.std.proofs.Common.{◌/◌, ◌%◌, arith}
use Rattle.color.proofs.Lanes.{div_lanes}
use Rattle.color.proofs.quot_two.Goals as goal

pub returns : goal.returns
returns c =
    let t = c.args.t in
    let q = div_lanes t (t / 65536) (t % 65536) (omega arith) c.requires.0 c.requires.1 in
    rw (q.0, q.1)
