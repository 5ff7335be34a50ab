-- `shared_of`: each from its callee.
use Rattle.glass.proofs.general.level.shared_of.Goals as goal

pub returns : goal.returns
returns c =
    let at = c.level_at-s.ensures in
    record { sd = rw at; cov = rw (c.cov8-cov.ensures, at); bend = rw (c.bent-bend.ensures, c.depth.ensures, at); fy = rw (c.sight-fy.ensures, at) }
