-- `put_refused`: its parts one behind the other.
use Rattle.std.proofs.Common.{arith, ap}
use Rattle.playout.specs.Printed.{refused, decimal}
use Rattle.playout.proofs.Laws.{join, same, decimal_length}
use Rattle.playout.proofs.put_refused.Goals as goal

pub put_text-c-requires : goal.put_text-c-requires
put_text-c-requires c =
    omega (arith, c.put_text-a.ensures.end, c.put_decimal-b.ensures.end, decimal_length c.from.result)

pub put_decimal-d-requires : goal.put_decimal-d-requires
put_decimal-d-requires c =
    omega (arith, c.put_text-a.ensures.end, c.put_decimal-b.ensures.end, c.put_text-c.ensures.end, decimal_length c.from.result)

pub put_text-requires : goal.put_text-requires
put_text-requires c =
    omega (
      arith,
      c.put_text-a.ensures.end,
      c.put_decimal-b.ensures.end,
      c.put_text-c.ensures.end,
      c.put_decimal-d.ensures.end,
      decimal_length c.from.result,
      decimal_length c.args.r.beside,
    )

pub returns : goal.returns
unfolding refused
returns c =
    let cause = same (ap decimal c.from.ensures) c.put_decimal-b.ensures in
    join (join (join (join c.put_text-a.ensures cause) c.put_text-c.ensures) c.put_decimal-d.ensures) c.put_text.ensures
