-- What was read is lent.
use Rattle.std.proofs.Common.{refl}
use Rattle.records.proofs.Calls.{gives}
use Rattle.records.proofs.tally.fill_and_lend.Goals as goal

pub returns-clause-lent : goal.returns-clause-lent
returns-clause-lent g c = (_, _, c.read_whole.ensures.len, gives _ _ _ _ _ _ refl c.f.ensures)
