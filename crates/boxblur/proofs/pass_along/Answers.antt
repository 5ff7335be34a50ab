-- `pass_along`: the pass along either axis where everything suits, else cause 14.
use mathlib.Core.Path.{◌≡◌, sym, ap, ◌∙◌}
use Rattle.std.specs.Prelude.{Err}
use Rattle.answer.specs.Answer.{returned}
use Rattle.answer.specs.declared.Refusal.{Refusal}
use mathlib.Core.Bool.{true}
use native.Mathlib.Omega.{arith}
use lib.ListN.{length}
use Rattle.boxblur.specs.Private.{pass_along}
use Rattle.boxblur.specs.Refuse.{suitable}
use Rattle.boxblur.proofs.Refusal.{Suits, suits_of, fits_of, pass_done, refused}
use Rattle.boxblur.proofs.pass_along.Goals as goal
use Rattle.boxblur.proofs.pass_along.Goals.{Else-not-suits}

right : (c : Else-not-suits) → let a = c.args in suitable (length a.src.now) (length a.dst.now) a.w a.h a.r ≡ true
right c = sym c.suits.ensures ∙ c.if-not-suits.false

all_suits : (c : Else-not-suits) → let a = c.args in Suits (length a.src.now) (length a.dst.now) a.w a.h a.r
all_suits c = suits_of _ _ _ _ _ (right c)

pub returns-in-Rows : goal.returns-in-Rows
returns-in-Rows c = let a = c.args in pass_done _ _ _ _ c.blur_of-blur.ensures a.src.now a.dst.now c.in-Rows.is (right (goal.at.returns-in-Rows c).Else-not-suits) c.blur_rows.ensures

pub returns-in-Columns : goal.returns-in-Columns
returns-in-Columns c = let a = c.args in pass_done _ _ _ _ c.blur_of-blur.ensures a.src.now a.dst.now c.in-Columns.is (right (goal.at.returns-in-Columns c).Else-not-suits) c.blur_columns.ensures

pub returns-then-not-suits : goal.returns-then-not-suits
returns-then-not-suits c =
    let a = c.args in
    let z = refused (pass_along a.axis a.w a.h a.r a.src.now) a.src.now a.dst.now a.w a.h a.r (sym c.suits.ensures ∙ c.if-not-suits.true) in
    (ap (λ (r : Refusal). returned (Err r)) c.at.ensures ∙ z.0, z.1)

pub blur_of-blur-requires : goal.blur_of-blur-requires
blur_of-blur-requires c = (all_suits c).radius

pub invariant_of-pass : goal.invariant_of-pass
invariant_of-pass c = record { fits = fits_of _ _ _ _ c.blur_of-blur.ensures (all_suits (goal.at.invariant_of-pass c).Else-not-suits); bytes = λ i. omega (arith, c.type_inv.src i) }

pub invariant_of-pass-in-Columns : goal.invariant_of-pass-in-Columns
invariant_of-pass-in-Columns c = record { fits = fits_of _ _ _ _ c.blur_of-blur.ensures (all_suits (goal.at.invariant_of-pass-in-Columns c).Else-not-suits); bytes = λ i. omega (arith, c.type_inv.src i) }

pub blur_rows-requires : goal.blur_rows-requires
blur_rows-requires c = let s = all_suits (goal.at.blur_rows-requires c).Else-not-suits in s.dst ∙ sym s.src

pub blur_columns-requires : goal.blur_columns-requires
blur_columns-requires c = let s = all_suits (goal.at.blur_columns-requires c).Else-not-suits in s.dst ∙ sym s.src
