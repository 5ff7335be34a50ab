-- `paint_turns`: the loop's invariant is `Rowed` at every rule that says what `run` and `few` make of their pixels, and that the others stay.
use Rattle.std.proofs.Common.{rules, ℕ, ◌≡◌, ◌≤◌, length, refl, arith}
use Rattle.canvas.proofs.Laws.Rows.{rowed_start, rowed_end, rowed_skip}
use Rattle.canvas.proofs.Laws.Spans.{back, part_long, rowed_span}
use Rattle.canvas.proofs.paint_turns.Goals as goal

pub loop-i-init : goal.loop-i-init
loop-i-init g c = λ rule run_ends bare_ends runs bare few. rowed_start

pub loop-i-preserved : goal.loop-i-preserved
loop-i-preserved g c = λ rule run_ends bare_ends runs bare few.
    let inv = c.loop-i.invariant rule run_ends bare_ends runs bare few in
    let from : ℕ = c.loop-i.i in
    let e : ℕ = c.clamp-e.result in
    let f : ℕ = c.clamp-f.result in
    let to : ℕ = c.strip_end-g.result in
    let run_in = run_ends from _ (omega (arith, inv)) c.run_end.ensures in
    let run_to : c.run_end.result ≡ e = omega (arith, c.clamp-e.ensures, run_in) in
    let run : (from ≤ e) × (e ≤ length c.args.dst.now) = rw run_to at run_in in
    let run_post = rw run_to at c.run_end.ensures in
    let bare_in = bare_ends e _ run.1 c.bare_end.ensures in
    let bare_to : c.bare_end.result ≡ f = omega (arith, c.clamp-f.ensures, bare_in) in
    let rest : (e ≤ f) × (f ≤ length c.args.dst.now) = rw bare_to at bare_in in
    let bare_post = rw bare_to at c.bare_end.ensures in
    let end : to ≤ length c.args.dst.now = omega (arith, c.strip_end-g.ensures) in
    let part = part_long c.loop-i.dst from e run.0 (omega (arith, run, inv.long)) in
    let one = rowed_span _ e inv run.0 (omega (arith, run, inv.long)) (λ k p h. refl) (runs from e _ _ run_post (omega (arith, part, run)) c.run.ensures) in
    let two = rowed_skip f one rest.0 rest.1 (λ k p h m. bare e f k p bare_post h m) in
    let last = part_long (back from e c.loop-i.dst c.run.new.arg3) f to (omega (arith, c.strip_end-g.ensures, rest)) (omega (arith, end, two.long)) in
    rowed_span _ to two (omega (arith, c.strip_end-g.ensures, rest)) (omega (arith, end, two.long)) (λ k p h. refl) (few f _ _ (omega (arith, last, end, rest)) c.few.ensures)

pub returns : goal.returns
returns g c = λ rule run_ends bare_ends runs bare few. rowed_end (c.loop-i.invariant rule run_ends bare_ends runs bare few) (search rules)
