-- `gaps`: the runs stand in order.
use Rattle.judge.proofs.form.gaps.Goals as goal

pub invariant_of-result : goal.invariant_of-result
invariant_of-result c = record { in_order = c.unused.ensures.in_order }
