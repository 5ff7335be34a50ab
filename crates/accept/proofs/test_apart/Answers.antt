-- `test_apart`: 8, of the priorities that are gathered.
use Rattle.std.proofs.Common.{Ok, take}
use mathlib.Core.Path.{◌≡◌, sym, ap, ◌∙◌}
use mathlib.Core.List.{List}
use Prim.Native.Nat.{ℕ, min}
use native.Mathlib.Omega.{arith}
use Rattle.answer.proofs.Laws.{each_at, each_of}
use Rattle.order.specs.Order.{gathered}
use Rattle.order.proofs.Laws.Listed.{gathered-front}
use Rattle.rundown.specs.Tests.{repeats, apart}
use Rattle.rundown.proofs.Each.{repeats_is}
use Rattle.accept.proofs.Laws.Tests.{found, lost, handed}
use Rattle.accept.proofs.test_apart.Goals as goal

-- 8, of the priorities
as_apart : (buf ps : List ℕ) (count : ℕ) → count ≡ min count 256 → ps ≡ gathered buf count → repeats (take count ps) ≡ apart count buf
as_apart buf ps count e g = rw g (ap repeats (gathered-front buf count count e) ∙ repeats_is buf count)

-- where they differ, their count is told
all_apart : (buf : List ℕ) (count m : ℕ) → apart count buf ≡ Ok m → apart count buf ≡ Ok count
unfolding apart
all_apart buf count m e = each_of _ count (each_at _ count m e)

pub returns-in_err-repeats : goal.returns-in_err-repeats
returns-in_err-repeats c =
    let a = c.args in
    handed _ _ c.from_residual.ensures
    ∙ lost _ _ _ (sym (c.in_err-repeats.ensures ∙ as_apart a.buf.now _ a.count (omega (arith, c.requires)) c.priorities-priorities.ensures))

pub returns : goal.returns
returns c =
    let a = c.args in
    rw c.priorities-priorities.ensures
    (found _ _ _ (all_apart a.buf.now a.count _ (sym (c.in_ok-repeats.ensures ∙ as_apart a.buf.now _ a.count (omega (arith, c.requires)) c.priorities-priorities.ensures))))
