-- `row_mixed`: by the test of the two alphas.
use Rattle.std.proofs.Common.{rules, sym, ◌∙◌}
use lib.Dec.{eqb, eqb→eq}
use lib.Ieee.Fits.{and_l, and_r}
use Rattle.mathf.proofs.Laws.Tests.{yes}
use Rattle.fill.proofs.Gradient.row_mixed.Goals as goal

pub map_pixels-requires : goal.map_pixels-requires
map_pixels-requires c =
    let k = c.args.self in
    let p = eqb k.c0.a 255 in
    let q = eqb k.c1.a 255 in
    let h = yes (sym c.is_opaque.ensures ∙ c.if-is_opaque.true) in
    let a = eqb→eq k.c0.a 255 (and_l p q h) in
    let b = eqb→eq k.c1.a 255 (and_r p q h) in
    search (rules, a, b)
