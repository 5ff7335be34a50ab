-- `dearest`: by the two tests.
use Rattle.std.proofs.Common.{Ok}
use mathlib.Core.Path.{sym, ap, ◌∙◌}
use Rattle.answer.proofs.Laws.{handed_on}
use Rattle.rundown.specs.Kept.{sealed}
use Rattle.dearest.specs.Dearest.{dearest_block}
use Rattle.dearest.proofs.Answers.{no_nan, right, in_range, refused_size, refused_blur, accepted, block_shown, block_kept}
use Rattle.dearest.proofs.dearest.Goals as goal

pub returns-in_err-test_sides : goal.returns-in_err-test_sides
returns-in_err-test_sides c =
    let e = refused_size _ _ _ _ (sym c.in_err-test_sides.ensures) in
    record { answer = handed_on _ _ c.from_residual.ensures ∙ sym e; block = block_kept _ _ _ _ _ e }

pub returns-in_err-test_blur : goal.returns-in_err-test_blur
returns-in_err-test_blur c =
    let e = refused_blur _ _ _ _ _ (sym c.in_ok-test_sides.ensures) (sym c.in_err-test_blur.ensures) in
    record { answer = handed_on _ _ c.from_residual-in_err-test_blur.ensures ∙ sym e; block = block_kept _ _ _ _ _ e }

pub body-requires : goal.body-requires
body-requires c = no_nan _ (in_range _ _ (sym c.in_ok-test_blur.ensures))

pub need-requires : goal.need-requires
need-requires c = right _ _ _ (sym c.in_ok-test_sides.ensures)

pub returns : goal.returns
unfolding dearest_block
returns c =
    let e = accepted _ _ _ _ _ (sym c.in_ok-test_sides.ensures) (sym c.in_ok-test_blur.ensures) in
    record {
      answer = ap Ok c.need.ensures ∙ sym e;
      block = c.seal.ensures ∙ ap sealed c.body.ensures ∙ block_shown _ _ _ _ e;
    }
