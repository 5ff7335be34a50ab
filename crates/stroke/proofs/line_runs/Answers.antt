-- `line_runs`: a bare run stays, and the few are each by its coverage.
use Rattle.std.proofs.Common.{rules, ℕ, ◌≡◌, ◌+◌, length, ap, ◌∙◌, arith, get_or}
use Rattle.canvas.specs.Rows.{map_row}
use Rattle.canvas.proofs.Laws.Rows.{map_row_same, map_row_id}
use Rattle.edge.specs.Corner.{Run}
use Rattle.stroke.specs.Stroke as Stroke
use Rattle.stroke.proofs.Laws.{run_bare}
use Rattle.stroke.proofs.line_runs.Goals as goal

pub returns : goal.returns
returns c =
    let a = c.args in
    let k = a.line in
    let q = c.requires in
    c.paint_turns.ensures (λ i p. Stroke.line_pix k (a.x0 + i) a.y p)
    (λ i e within post. search rules)
    (λ i e within post. search rules)
    (λ i e part part' end long post.
    let none : e ≡ i = search rules in
    let is : part'.now ≡ part.now = search rules in
    is ∙ map_row_id _ part.now (λ j h. absurd (omega arith)))
    (λ i e j p end from to.
    let run : Run k.rect k.r a.qy a.bare a.x0 i (length a.dst.now) e = search rules in run_bare k (a.x0 + j) a.y p q.row.1 q.row.2 q.runs (run.is j from to))
    (λ i part part' room post.
    let is : part'.now ≡ map_row (λ j p. Stroke.line_pix k (a.x0 + i + j) a.y p) part.now = search rules in
    is ∙ map_row_same _ _ part.now (λ j h. let v : a.x0 + i + j ≡ a.x0 + (i + j) = omega arith in ap (λ (u : ℕ). Stroke.line_pix k u a.y (get_or part.now j 0)) v))
