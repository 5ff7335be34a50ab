-- `alphas`: the table's entries are those that the closure answers.
use Rattle.std.proofs.Common.{rules, ℕ, sym, ◌∙◌, arith}
use lib.ListN.{replicate, length-replicate}
use Rattle.canvas.proofs.Laws.Rows.{is_map_row, made_by}
use Rattle.shadow.specs.Shadow.{alphas, fall_off}
use Rattle.shadow.proofs.alphas.Goals as goal

pub returns : goal.returns
unfolding alphas
returns c =
    let made = c.from_fn.ensures.items in
    is_map_row (λ i _. fall_off c.args.a i) (replicate 97 0) c.from_fn.result (made.long ∙ sym (length-replicate {A = ℕ} 97 0))
    (λ i h. made_by _ _ (fall_off c.args.a) c.from_fn.result (λ i r q k. search rules) 0 97 made.each i (omega arith) (omega (arith, length-replicate {A = ℕ} 97 0)))
