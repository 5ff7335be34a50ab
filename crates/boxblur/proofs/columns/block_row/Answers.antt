-- `block_row`: what is stored is the pass's, and the sums go on.
use mathlib.Core.Path.{◌∙◌}
use native.Mathlib.Omega.{arith}
use lib.ListN.{length}
use Rattle.boxblur.proofs.Pass.{row_inside, block_small, block_stores}
use Rattle.boxblur.proofs.columns.block_row.Goals as goal

pub put_row-requires : goal.put_row-requires
put_row-requires c =
    let a = c.args in
    let p = c.requires in
    let f = a.pass.fits in
    record {
      narrow = f.narrow;
      low = omega (arith, f.low, p.1.1.0);
      within = omega (arith, p.1.1.1);
      known = omega arith;
      here = rw p.0 (row_inside a.pass.blur _ f a.y p.1.1.0);
      small = λ j l. block_small a.pass.src.now a.pass.blur a.x (length a.s.now) a.y a.s.now p.1.0 f p.1.1.0 p.1.1.1 a.pass.bytes j (omega (arith, l));
    }

pub returns : goal.returns
returns c =
    let a = c.args in
    (c.step_row.ensures, c.put_row.ensures ∙ block_stores a.pass.src.now a.pass.blur a.x (length a.s.now) a.y a.s.now c.requires.1.0 (length a.s.now) (omega arith) a.dst.now)
