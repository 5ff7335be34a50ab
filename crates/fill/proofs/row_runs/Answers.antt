-- `row_runs`: a run that is covered is the paint's, one that is bare stays, and the few are each by its coverage.
use Rattle.std.proofs.Common.{rules, ℕ, ◌≡◌, ◌+◌, length, ap, sym, ◌∙◌, arith, get_or}
use Rattle.canvas.specs.Rows.{map_row}
use Rattle.canvas.proofs.Laws.Rows.{map_row_same}
use Rattle.edge.specs.Corner.{Run}
use Rattle.fill.specs.Fill.{edge_pix, inner_pix}
use Rattle.fill.proofs.Laws.{run_full, run_bare}
use Rattle.fill.proofs.row_runs.Goals as goal

pub returns : goal.returns
returns c =
    let a = c.args in
    let s = a.shape in
    let q = c.requires in
    c.paint_turns.ensures (λ i p. edge_pix s.rect s.r s.paint (a.x + i) a.y p)
    (λ i e within post. search rules)
    (λ i e within post. search rules)
    (λ i e part part' end long post.
    let run : Run s.rect s.r a.qy a.full a.x i (length a.dst.now) e = search rules in
    let is : part'.now ≡ map_row (λ k p. inner_pix s.paint (a.x + i + k) a.y p) part.now = search rules in
    is ∙ map_row_same _ _ part.now (λ k h.
    let p : ℕ = get_or part.now k 0 in
    let v : a.x + i + k ≡ a.x + (i + k) = omega arith in
    ap (λ (u : ℕ). inner_pix s.paint u a.y p) v ∙ sym (run_full s.rect s.paint (a.x + (i + k)) a.y p q.row.1 q.row.2 q.runs.0 (run.is (i + k) (omega arith) (omega arith)))))
    (λ i e k p end from to.
    let run : Run s.rect s.r a.qy a.bare a.x i (length a.dst.now) e = search rules in run_bare s.rect s.paint (a.x + k) a.y p q.row.1 q.row.2 q.runs.1 (run.is k from to))
    (λ i part part' room post.
    let is : part'.now ≡ map_row (λ k p. edge_pix s.rect s.r s.paint (a.x + i + k) a.y p) part.now = search rules in
    is ∙ map_row_same _ _ part.now (λ k h. let v : a.x + i + k ≡ a.x + (i + k) = omega arith in ap (λ (u : ℕ). edge_pix s.rect s.r s.paint u a.y (get_or part.now k 0)) v))
