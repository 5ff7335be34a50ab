-- `pass`: neither pass is refused.
use Rattle.backdrop.proofs.Blur.{pass_made}
use Rattle.backdrop.proofs.small.pass.Goals as goal

pub returns : goal.returns
returns c =
    let a = c.args in
    let p = c.requires.sides in
    pass_made a.w a.h a.r p.0 p.1 p.2 p.3 p.4 a.a.now a.b.now c.requires.size.0 c.requires.size.1
    c.box_h.ensures.1 c.box_v.ensures.1
