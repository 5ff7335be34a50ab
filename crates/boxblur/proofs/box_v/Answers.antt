use Rattle.boxblur.proofs.box_v.Goals as goal

pub returns : goal.returns
returns c = c.pass_along.ensures
