use Rattle.boxblur.proofs.box_h.Goals as goal

pub returns : goal.returns
returns c = c.pass_along.ensures
