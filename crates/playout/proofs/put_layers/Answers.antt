-- `put_layers`: its parts one behind the other.
use Rattle.std.proofs.Common.{arith}
use Rattle.playout.specs.Printed.{layers}
use Rattle.playout.proofs.Laws.{join, decimal_length}
use Rattle.playout.proofs.put_layers.Goals as goal

pub put_text-c-requires : goal.put_text-c-requires
put_text-c-requires c = omega (arith, c.put_text-a.ensures.end, c.put_decimal-b.ensures.end, decimal_length c.args.n)

pub put_pixels-requires : goal.put_pixels-requires
put_pixels-requires c =
    omega (arith, c.put_text-a.ensures.end, c.put_decimal-b.ensures.end, c.put_text-c.ensures.end, decimal_length c.args.n)

pub returns : goal.returns
unfolding layers
returns c =
    join (join (join c.put_text-a.ensures c.put_decimal-b.ensures) c.put_text-c.ensures) c.put_pixels.ensures
