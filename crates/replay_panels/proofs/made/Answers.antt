-- The rule of either pass is what its function says of the bytes that it leaves.
use Rattle.std.proofs.Common.{◌≡◌, rules, List, ℕ, replicate, ap, ◌∙◌}
use Rattle.boxblur.specs.Refuse.{after_h, after_v}
use Rattle.records.specs.Record.{word}
use Rattle.replay_panels.specs.Layer.{channels, stored, pixels, made, pass_h, pass_v}
use Rattle.replay_panels.proofs.Steps.{left_by}
use Rattle.replay_panels.proofs.made.Goals as goal

pub returns-in-Rows : goal.returns-in-Rows
unfolding made pass_h
returns-in-Rows c =
    let rec = c.args.rec.now in
    let px = pixels 64 rec in
    let rule : List ℕ → List ℕ → List ℕ = λ src dst. after_h src dst (word rec 1) (word rec 2) (word rec 7) in
    let p = c.passed.ensures in
    let left : c.passed.result ≡ stored (rule (channels px) (replicate 192 0)) px = p.2 ∙ ap (λ (d : List ℕ). stored d px) (left_by _ _ _ rule p.1 p.1.met.1) in
    search rules

pub returns-in-Columns : goal.returns-in-Columns
unfolding made pass_v
returns-in-Columns c =
    let rec = c.args.rec.now in
    let px = pixels 64 rec in
    let rule : List ℕ → List ℕ → List ℕ = λ src dst. after_v src dst (word rec 1) (word rec 2) (word rec 7) in
    let p = c.passed-in-Columns.ensures in
    let left : c.passed-in-Columns.result ≡ stored (rule (channels px) (replicate 192 0)) px = p.2 ∙ ap (λ (d : List ℕ). stored d px) (left_by _ _ _ rule p.1 p.1.met.1) in
    search rules
