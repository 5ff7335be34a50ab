-- The pixels behind the first 576.
use Rattle.std.proofs.Common.{List, ℕ, get_or, drop, replicate, sym, arith, ap, ◌∙◌}
use lib.ListN.{length-replicate}
use Rattle.std.proofs.lemmas.List.{get_or-take, get_or-drop}
use Rattle.canvas.proofs.Laws.Rows.{is_map_row}
use Rattle.replay_panels.specs.Layer.{last}
use Rattle.replay_panels.proofs.last.Goals as goal

pub returns : goal.returns
unfolding last
returns c =
    let copied = c.copy_from_slice.ensures in
    is_map_row _ (replicate 64 0) _ (copied.len ∙ sym (length-replicate {A = ℕ} 64 0))
    (λ i h. ap (λ (l : List ℕ). get_or l i 0) copied.after ∙ get_or-take 64 (drop 576 c.args.px.now) i 0 (omega (arith, h, length-replicate {A = ℕ} 64 0)) ∙ get_or-drop 576 c.args.px.now i 0)
