-- `playout`: a longer input, and one that is played.
use Rattle.std.proofs.Common.{◌≤◌, ◌<◌, length, ap, arith}
use borrow.Author.Tests.{le-leb, lt-leb}
use Rattle.answer.specs.Answer.{number}
use Rattle.answer.specs.declared.Refusal.{Refusal}
use Rattle.playout.specs.Printed.{refused, printed}
use Rattle.playout.proofs.Laws.{same, whole, refused_length, played_length}
use Rattle.playout.proofs.playout.Goals as goal

pub returns-then-input-gt-MOST : goal.returns-then-input-gt-MOST
unfolding printed
returns-then-input-gt-MOST c =
    let long : 65536 < length c.args.input.now = omega arith in
    let cause = ap (λ (r : Refusal). refused (number r.cause) r.beside) c.at.ensures in
    let put = whole c.requires (refused_length 3 0) (same cause c.put_refused.ensures) in
    record { text = rw (lt-leb _ _ long) put.0; end = rw (lt-leb _ _ long) put.1 }

pub returns : goal.returns
unfolding printed
returns c =
    let short : length c.args.input.now ≤ 65536 = omega arith in
    let put = whole c.requires (played_length c.args.input.now) c.put_played.ensures in
    record { text = rw (le-leb _ _ short) put.0; end = rw (le-leb _ _ short) put.1 }
