-- `root` meets its contract: `Shape.antt` says what the pattern stands for.
use mathlib.Core.Path.{sym, ap, ◌∙◌, subst}
use mathlib.Core.Logic.{inl, inr}
use Prim.Native.Nat.{ℕ, ◌+◌, ◌*◌}
use native.Mathlib.Omega.{arith}
use lib.Dec.{T, T_not}
use lib.Ieee.{binary32, fits, of_bits, eq}
use Rattle.mathf.proofs.Laws.Tests.{yes, no}
use Rattle.roots.specs.Private.{scale32}
use Rattle.roots.proofs.Laws.{low_no_nan}
use Rattle.roots.proofs.Shape.{normal_root, zero_root}
use Rattle.roots.proofs.Digits.root.Goals as goal
use Rattle.roots.proofs.Digits.root.Goals.{Start}

held : (c : Start) → T (fits binary32 c.args.x)
held c = subst T (sym c.well_formed.1.0.1) tt

pub float_from_bits-r : goal.float_from_bits-r
float_from_bits-r c = low_no_nan _ (omega arith)

pub returns-then-x : goal.returns-then-x
returns-then-x c = λ t. zero_root c.args.x (held (goal.at.returns-then-x c).Start) (yes c.if-x.true)

pub returns-else-x : goal.returns-else-x
returns-else-x c = λ t.
    elim t.usual [
      | inl h ↦ ap (λ (b : ℕ). of_bits binary32 ((scale32 b + 51) * 8388608 + c.args.self.q)) (c.pattern-b.ensures h)
          ∙ normal_root c.args.x c.args.self.q (held (goal.at.returns-else-x c).Start) h c.args.self.in_range.0 (omega (arith, c.args.self.in_range.1)) (t.nearest h)
      | inr z ↦ absurd (T_not (eq c.args.x (of_bits binary32 0)) (no c.if-x.false) z)
    ]
