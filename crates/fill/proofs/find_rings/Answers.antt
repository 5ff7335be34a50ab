-- `find_rings`: squares, their roots, and the places of these.
use Rattle.std.proofs.Common.{rules, arith, length-take}
use Rattle.fill.specs.Private.{ring_from}
use Rattle.fill.proofs.Laws.{ringed, lined_front}
use Rattle.fill.proofs.find_rings.Goals as goal

pub returns : goal.returns
returns c =
    let a = c.args in
    ringed a.c (ring_from a.r) a.x a.y c.requires.0
    (lined_front _ _ (simp length-take (omega arith)) (search rules) (c.fill_line.ensures _ (λ i v h p. search rules)))
    c.roots-roots.ensures.1
    (c.fill_line-2.ensures _ (λ i v h p. search rules))
