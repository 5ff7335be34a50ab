-- `picture`: the definition's tests; the parts that were lent come back with the picture in the first.
use Prim.Native.Nat.{ℕ, ◌≤◌}
use mathlib.Core.Path.{◌≡◌, refl, sym, ◌∙◌, subst}
use native.Mathlib.Omega.{arith}
use lib.ListN.{length}
use Rattle.canvas.proofs.Laws.Area.{IsCanvas, canvas_is}
use Rattle.backdrop.specs.Window.{picture_bytes}
use Rattle.backdrop.specs.Picture.{picture, used}
use Rattle.backdrop.proofs.Laws.Picture.{no_canvas, no_picture, short_first, short_second, room-first, room-second, lent_length, back_first, back_rest, back_length}
use Rattle.backdrop.proofs.small.picture.Goals as goal
use Rattle.backdrop.proofs.small.picture.Goals.{Then-is_canvas, then-n-eq0-via-then-n-eq0, then-n-eq0-via-else-n-eq0+then-a-n, then-n-eq0-via-else-n-eq0+else-a-n+then-b-n}

here : (c : Then-is_canvas) → let a = c.args in IsCanvas a.size.w a.size.h (length a.px.now)
here c = canvas_is _ _ _ (sym c.is_canvas.ensures ∙ c.if-is_canvas.true)

pub picture_bytes-n-requires : goal.picture_bytes-n-requires
picture_bytes-n-requires c = ((here c).narrow, (here c).low)

pub returns-then-n-eq0 : goal.returns-then-n-eq0
returns-then-n-eq0 c =
    let a = c.args in
    let e = c.picture_bytes-n.ensures in record {
      first = elim c.then-n-eq0.branch [
        | then-n-eq0-via-then-n-eq0 w ↦ no_picture a.size.w a.size.h a.rect a.style a.table.now a.px.now a.a.now (length a.b.now) (sym e ∙ w.if-n-eq0.true)
        | then-n-eq0-via-else-n-eq0+then-a-n w ↦ short_first a.size.w a.size.h a.rect a.style a.table.now a.px.now a.a.now (length a.b.now) (omega (arith, e, w.if-a-n.true))
        | then-n-eq0-via-else-n-eq0+else-a-n+then-b-n w ↦ short_second a.size.w a.size.h a.rect a.style a.table.now a.px.now a.a.now (length a.b.now) (omega (arith, e, w.if-b-n.true))
      ];
      second = refl;
      kept = (refl, refl);
    }

some : (n : ℕ) → (n ≡ 0 → ⊥) → 1 ≤ n
some n f = omega (arith, f)

pub draw-requires : goal.draw-requires
draw-requires c =
    let a = c.args in let k = here (goal.at.draw-requires c).Then-is_canvas in let e = c.picture_bytes-n.ensures in let z : 1 ≤ c.picture_bytes-n.result = some c.picture_bytes-n.result c.if-n-eq0.false in record { canvas = (k.size, k.narrow, k.low); some = subst (λ (n : ℕ). 1 ≤ n) e z; size = (lent_length _ a.a.now c.if-a-n.false ∙ e, lent_length _ a.b.now c.if-b-n.false ∙ e) }

pub returns-else-b-n : goal.returns-else-b-n
returns-else-b-n c =
    let a = c.args in let d = c.draw in let e = c.picture_bytes-n.ensures in let n = c.picture_bytes-n.result in let test = sym c.is_canvas.ensures ∙ c.if-is_canvas.true in let p : n ≤ length a.a.now = c.if-a-n.false in let q : n ≤ length a.b.now = c.if-b-n.false in let m = picture_bytes a.size.w a.size.h a.rect a.style a.table.now in let p' : m ≤ length a.a.now = subst (λ (k : ℕ). k ≤ length a.a.now) e p in let q' : m ≤ length a.b.now = subst (λ (k : ℕ). k ≤ length a.b.now) e q in let la : length d.new.a ≡ n = d.auto.a ∙ lent_length n a.a.now p in let lb : length d.new.b ≡ n = d.auto.b ∙ lent_length n a.b.now q in record {
      first = back_first n m a.a.now d.new.a (picture a.size.w a.size.h a.rect a.style a.table.now a.px.now) e d.ensures
          ∙ room-first a.size.w a.size.h a.rect a.style a.table.now a.px.now a.a.now (length a.b.now) test p' q';
      second = back_rest (used a.size.w a.size.h a.rect a.style a.table.now (length a.px.now) (length a.a.now) (length a.b.now)) n a.b.now d.new.b
          (room-second a.size.w a.size.h a.rect a.style a.table.now a.px.now a.a.now (length a.b.now) test p' q' ∙ sym e) lb;
      kept = (back_length n a.a.now d.new.a p la, back_length n a.b.now d.new.b q lb);
    }

pub returns-else-is_canvas : goal.returns-else-is_canvas
returns-else-is_canvas c =
    let a = c.args in record { first = no_canvas a.size.w a.size.h a.rect a.style a.table.now a.px.now a.a.now (length a.b.now) (sym c.is_canvas.ensures ∙ c.if-is_canvas.false); second = refl; kept = (refl, refl) }
