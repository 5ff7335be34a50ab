-- `runs`: a run at no corner has the row's coverage, one that is bare stays, and the few are each by its coverage.
use Rattle.std.proofs.Common.{rules, ℕ, ◌≡◌, ◌+◌, length, ap, sym, ◌∙◌, arith, get_or}
use Rattle.canvas.specs.Rows.{map_row}
use Rattle.canvas.proofs.Laws.Rows.{map_row_same}
use Rattle.edge.specs.Corner.{Run}
use Rattle.stroke.specs.Stroke as Stroke
use Rattle.stroke.proofs.Laws.{level_same, run_cover, run_bare}
use Rattle.stroke.proofs.LevelRow.runs.Goals as goal

pub returns : goal.returns
returns c =
    let a = c.args in
    let s = a.self in
    let k = s.line in
    let q = c.requires in
    c.paint_turns.ensures (λ i p. Stroke.line_pix k (a.x0 + i) s.y p)
    (λ i e within post. search rules)
    (λ i e within post. search rules)
    (λ i e part part' end long post.
    let run : Run k.rect k.r s.qy a.level a.x0 i (length a.dst.now) e = search rules in
    let is : part'.now ≡ map_row (λ j p. Stroke.covered k.color s.flat p) part.now = search rules in
    is ∙ map_row_same _ _ part.now (λ j h.
    sym (run_cover k (a.x0 + (i + j)) s.y (get_or part.now j 0) s.level.axis q.row.1 (level_same k.width q.runs.0 s.level.is) (run.is (i + j) (omega arith) (omega arith)))))
    (λ i e j p end from to.
    let run : Run k.rect k.r s.qy a.bare a.x0 i (length a.dst.now) e = search rules in run_bare k (a.x0 + j) s.y p s.level.axis q.row.1 q.runs.1 (run.is j from to))
    (λ i part part' room post.
    let is : part'.now ≡ map_row (λ j p. Stroke.line_pix k (a.x0 + i + j) s.y p) part.now = search rules in
    is ∙ map_row_same _ _ part.now (λ j h. let v : a.x0 + i + j ≡ a.x0 + (i + j) = omega arith in ap (λ (u : ℕ). Stroke.line_pix k u s.y (get_or part.now j 0)) v))
