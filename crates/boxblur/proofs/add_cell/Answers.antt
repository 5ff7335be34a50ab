-- `add_cell`: channel by channel.
use Rattle.boxblur.proofs.add_cell.Goals as goal

pub returns : goal.returns
returns c = cc
