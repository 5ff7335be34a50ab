-- The bytes are those that the closure answers.
use Rattle.std.proofs.Common.{rules, ℕ, ◌/◌, ◌%◌, get_or, sym, ◌∙◌, arith}
use lib.ListN.{replicate, length-replicate}
use Rattle.canvas.proofs.Laws.Rows.{is_map_row, made_by}
use Rattle.replay_panels.specs.Layer.{channel, channels}
use Rattle.replay_panels.proofs.channels.Goals as goal

pub returns : goal.returns
unfolding channels
returns c =
    let made = c.from_fn.ensures.items in
    let rule : ℕ → ℕ = λ (k : ℕ). channel (get_or c.args.px.now (k / 3) 0) (k % 3) in
    is_map_row (λ k _. rule k) (replicate 192 0) c.from_fn.result (made.long ∙ sym (length-replicate {A = ℕ} 192 0))
    (λ i h. made_by _ _ rule c.from_fn.result (λ i r q k. search rules) 0 192 made.each i (omega arith) (omega (arith, length-replicate {A = ℕ} 192 0)))
