-- One of the three.
use Rattle.replay_panels.proofs.Steps.{channel_at}
use Rattle.replay_panels.proofs.channel.Goals as goal

pub returns : goal.returns
returns c = channel_at _ _ _ c.from_pix-c.ensures c.requires
