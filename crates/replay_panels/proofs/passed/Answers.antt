-- The pass that is called over the channels.
use Rattle.std.proofs.Common.{ap, ◌∙◌}
use Rattle.replay_panels.specs.Layer.{channels, stored}
use Rattle.replay_panels.proofs.Steps.{passes}
use Rattle.replay_panels.proofs.passed.Goals as goal

pub returns : goal.returns
returns g c =
    let px = c.started-px.ensures in (
      c.pass.new.arg3,
      passes _ _ _ _ _ _ _ _ _ _ _ (c.channels-src.ensures ∙ ap channels px) c.word-w.ensures c.word-h.ensures c.word-r.ensures c.pass.ensures,
      c.store.ensures ∙ ap (stored _) px,
    )
