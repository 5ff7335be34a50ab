-- `take`: the line is filled, whatever it held.
use mathlib.Core.Path.{◌≡◌, refl}
use native.Mathlib.Omega.{arith}
use borrow.Author.Rules.{rules}
use lib.ListN.{length}
use lib.Seq.{length-take-le}
use Rattle.sources.proofs.Laws.{source_is}
use Rattle.scaled.proofs.Rows.{coloured}
use Rattle.scaled.proofs.Line.take.Goals as goal

pub fill_row-requires-clause-sized : goal.fill_row-requires-clause-sized
fill_row-requires-clause-sized c =
    let a = c.args in
    let I = source_is a.image.sides (length a.image.px.now) a.image.whole in
    let n : length a.self.now.colours ≡ 2048 = search rules in
    let L = c.row.ensures.long in
    (length-take-le (length a.taps.now) a.self.now.colours (omega (arith, n, c.requires.sized.1)), c.requires.sized.1, omega (arith, L, I.wide), omega (arith, L, I.narrow))

pub returns : goal.returns
returns c =
    let a = c.args in
    let n : length a.self.now.colours ≡ 2048 = search rules in
    (refl, coloured c.row.ensures a.taps.now a.self.now.colours (source_is a.image.sides (length a.image.px.now) a.image.whole).wide c.requires.places (omega (arith, n, c.requires.sized.1)) c.fill_row.ensures)
