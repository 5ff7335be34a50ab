-- Tests one after the other: the answer is the first refusal.
use Rattle.std.specs.Prelude.{ℕ, zero, suc, ◌+◌, List, [], ◌∷◌, Ok, Err}
use Rattle.answer.specs.Answer.{Answer, Verdict, refused}

-- the first refusal of the list, or the value n where nothing is refused
unfoldable pub unless : List Answer → ℕ → Answer
unless [] n = Ok n
unless (Ok m ∷ ts) n = unless ts n
unless (Err r ∷ ts) n = Err r

-- the first refusal of the tests t 0, t 1, .. before t n, or the count n
unfoldable pub each : (ℕ → Answer) → ℕ → Answer
each t zero = Ok 0
each t (suc n) = unless (each t n ∷ t n ∷ []) (n + 1)

-- the verdict on the thing number n
unfoldable pub at : ℕ → Verdict → Answer
at n (Ok u) = Ok n
at n (Err c) = refused c n

-- the first answer where it is a refusal, else the second
unfoldable pub first_of : Answer → Answer → Answer
first_of (Ok n) b = b
first_of (Err r) b = Err r
