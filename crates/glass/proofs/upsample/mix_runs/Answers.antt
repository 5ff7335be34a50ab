-- `mix_runs`: by the pixels of a run.
use Prim.Native.Nat.{ℕ, ◌*◌}
use mathlib.Core.Path.{ap, ◌∙◌}
use Rattle.glass.specs.Private.{by_two, by_four}
use Rattle.glass.proofs.RunRow.{even_else}
use Rattle.glass.proofs.upsample.mix_runs.Goals as goal

pub mix_run-requires : goal.mix_run-requires
mix_run-requires c =
    let q = c.requires.lengths in record { lengths = (q.0 ∙ ap (λ (k : ℕ). c.args.n * k) c.if-k-eq4.true, q.1, q.2, by_four); line_low = c.requires.line_low }

pub returns-then-k-eq4 : goal.returns-then-k-eq4
returns-then-k-eq4 c = rw c.if-k-eq4.true c.mix_run.ensures

pub mix_run-requires-else-k-eq4 : goal.mix_run-requires-else-k-eq4
mix_run-requires-else-k-eq4 c =
    let q = c.requires.lengths in record { lengths = (q.0 ∙ ap (λ (k : ℕ). c.args.n * k) (even_else q.3 c.if-k-eq4.false), q.1, q.2, by_two); line_low = c.requires.line_low }

pub returns-else-k-eq4 : goal.returns-else-k-eq4
returns-else-k-eq4 c = rw (even_else c.requires.lengths.3 c.if-k-eq4.false) c.mix_run-else-k-eq4.ensures
