-- `put_decimal`: one digit, two or three.
use borrow.Author.Tests.{lt-ltb, le-ltb}
use Rattle.playout.specs.Printed.{decimal}
use Rattle.playout.proofs.Laws.{join, put_is}
use Rattle.playout.proofs.put_decimal.Goals as goal

pub returns-then-n-lt10 : goal.returns-then-n-lt10
unfolding decimal
returns-then-n-lt10 c = rw (lt-ltb _ _ c.if-n-lt10.true) (put_is c.digit.ensures c.put.ensures)

pub returns-then-n-lt100 : goal.returns-then-n-lt100
unfolding decimal
returns-then-n-lt100 c =
    rw (le-ltb _ _ c.if-n-lt10.false, lt-ltb _ _ c.if-n-lt100.true)
    (join (put_is c.digit-then-n-lt100.ensures c.put-ones.ensures) (put_is c.digit-then-n-lt100-2.ensures c.put-then-n-lt100.ensures))

pub returns : goal.returns
unfolding decimal
returns c =
    rw (le-ltb _ _ c.if-n-lt10.false, le-ltb _ _ c.if-n-lt100.false)
    (join (join (put_is c.digit-2.ensures c.put-tens.ensures) (put_is c.digit-3.ensures c.put-ones-2.ensures))
    (put_is c.digit-4.ensures c.put-2.ensures))
