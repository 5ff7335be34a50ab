-- `sides_in`: what the chain tests of each side is what the definition tests.
use Rattle.std.proofs.Common.{rules, tests, ◌&&◌, ◌∙◌, sym}
use Rattle.std.proofs.lemmas.Iterator.{YieldsList-from_slice}
use Rattle.std.proofs.lemmas.Iterator.Search.{all_from_yields_List}
use lib.Dec.{leb}
use Rattle.sources.proofs.Table.{sides_all}
use Rattle.sources.proofs.sides_in.Goals as goal

pub returns : goal.returns
returns c =
    all_from_yields_List (λ n. leb 1 n && leb n 4096) _ _ _ c.all.ensures.ran (YieldsList-from_slice c.args.table.now cc) (λ x b q k. search (rules, tests))
    ∙ sym (sides_all c.args.table.now)
