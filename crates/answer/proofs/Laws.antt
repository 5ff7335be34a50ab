-- Tests one after the other: what a loop over them knows, and what is known where all pass.
use mathlib.Core.Path.{◌≡◌, refl, sym, ap, ◌∙◌}
use mathlib.Core.Bool.{Bool, true, false, cond}
use mathlib.Core.List.{List, [], ◌∷◌, ◌++◌}
use Prim.Native.Nat.{ℕ, zero, suc, ◌+◌, ◌*◌, ◌%◌, ◌≤◌, ◌<◌}
use native.Mathlib.Decide.{dec_lt}
use native.Mathlib.Numerals.{add-one}
use native.Mathlib.Omega.{arith}
use Rattle.answer.specs.declared.Cause.{Cause}
use Rattle.answer.specs.declared.Refusal.{Refusal}
use Rattle.answer.specs.declared.Cause.TheVariants.{Canvas, Sources, Rundown, Check, Form, Floats, Integers, Priority, Source, Frame, Scratch, Room, Absent, Pass, Bend, Next}
use Rattle.answer.specs.Answer.{Answer, Verdict, Returned, number, returned, packed, refused}
use Rattle.std.proofs.Common.{Ok, Err, IsErr, IsErrAnd}
use Rattle.std.proofs.lemmas.Result.{err_from_is_err_and}
use Rattle.answer.specs.Tests.{unless, each, at, first_of}

-- answers that return the same are one number to C
pub packed_by : (a b : Answer) → returned a ≡ returned b → packed a ≡ packed b
unfolding packed
packed_by a b e = ap (λ (r : Returned). r.number * 0x1_0000_0000 + r.value % 0x1_0000_0000) e

-- no cause has the number 0, so that a value below 2 ^ 32 is no refusal
numbered : (c : Cause) → 1 ≤ number c
numbered Canvas = omega arith
numbered Sources = omega arith
numbered Rundown = omega arith
numbered Check = omega arith
numbered Form = omega arith
numbered Floats = omega arith
numbered Integers = omega arith
numbered Priority = omega arith
numbered Source = omega arith
numbered Frame = omega arith
numbered Scratch = omega arith
numbered Room = omega arith
numbered Absent = omega arith
numbered Pass = omega arith
numbered Bend = omega arith
numbered Next = omega arith

pub value_packed : (n : ℕ) → n < 0x1_0000_0000 → packed (Ok n) ≡ n
unfolding packed returned
value_packed n h = omega arith

pub refusal_above : (c : Cause) (n : ℕ) → 0x1_0000_0000 ≤ packed (refused c n)
unfolding packed returned
refusal_above c n = omega (arith, numbered c)

-- the first test passes, or is refused
pub passes : (a : Answer) (ts : List Answer) (m n : ℕ) → a ≡ Ok m → unless (a ∷ ts) n ≡ unless ts n
unfolding unless
passes a ts m n e = rw e refl

pub refuses : (a : Answer) (ts : List Answer) (r : Refusal) (n : ℕ) → a ≡ Err r → unless (a ∷ ts) n ≡ Err r
unfolding unless
refuses a ts r n e = rw e refl

pub fails : (a : Answer) (ts : List Answer) (c : Cause) (k n : ℕ) → a ≡ refused c k → unless (a ∷ ts) n ≡ refused c k
fails a ts c k n e = refuses a ts _ n e

pub first_joins : (a : Answer) (ts : List Answer) (n : ℕ) → first_of a (unless ts n) ≡ unless (a ∷ ts) n
unfolding first_of unless
first_joins (Ok m) ts n = refl
first_joins (Err r) ts n = refl

-- a list of tests behind another
pub joins : (ts us : List Answer) (n : ℕ) → unless (ts ++ us) n ≡ first_of (unless ts n) (unless us n)
unfolding first_of unless
joins [] us n = refl
joins (Ok m ∷ ts) us n = joins ts us n
joins (Err r ∷ ts) us n = refl

-- where none is refused the value is the given one
pub value_is : (ts : List Answer) (n m : ℕ) → unless ts n ≡ Ok m → m ≡ n
unfolding unless
value_is [] n m e = cc
value_is (Ok k ∷ ts) n m e = value_is ts n m e
value_is (Err r ∷ ts) n m e = let z : ◌≡◌ {A = ℕ} 0 1 = cc in absurd (omega arith)

-- the count of tests that all pass is theirs
alone : (a b : Answer) (n : ℕ) → unless (unless (a ∷ b ∷ []) (n + 1) ∷ []) (suc n) ≡ unless (a ∷ b ∷ []) (n + 1)
unfolding unless
alone (Err r) b n = refl
alone (Ok m) (Err r) n = refl
alone (Ok m) (Ok l) n = ap Ok (sym (add-one n))

pub each_alone : (t : ℕ → Answer) (n : ℕ) → unless (each t n ∷ []) n ≡ each t n
unfolding each unless
each_alone t zero = refl
each_alone t (suc n) = alone (each t n) (t n) n

module _ (t : ℕ → Answer) where
  pub each_none : each t 0 ≡ Ok 0
  unfolding each
  each_none = refl

  -- the next test passes
  pub each_more : (i m : ℕ) → each t i ≡ Ok i → t i ≡ Ok m → each t (i + 1) ≡ Ok (i + 1)
  unfolding each unless
  each_more i m e f = ap (each t) (add-one i) ∙ (rw (e, f) refl)

  -- a test is refused, whatever comes after it
  pub each_refuses : (r : Refusal) (i n : ℕ) → each t i ≡ Ok i → t i ≡ Err r → i < n → each t n ≡ Err r
  unfolding each
  each_refuses r i zero e f h = absurd (omega arith)
  each_refuses r i (suc n) e f h =
      elim (dec_lt i n) [ yes l ↦ refuses (each t n) (t n ∷ []) r (n + 1) (each_refuses r i n e f l) | no l ↦ let q : n ≡ i = omega arith in passes (each t n) (t n ∷ []) i (n + 1) (rw q e) ∙ refuses (t n) [] r (n + 1) (rw q f) ]

  pub each_fails : (c : Cause) (i k n : ℕ) → each t i ≡ Ok i → t i ≡ refused c k → i < n → each t n ≡ refused c k
  each_fails c i k n e f h = each_refuses _ i n e f h

-- where a list of tests gives a count, the first passes and the others give it
pub counted : (a : Answer) (ts : List Answer) (n m : ℕ) → unless (a ∷ ts) n ≡ Ok m → ((k : ℕ) × (a ≡ Ok k)) × (unless ts n ≡ Ok m)
unfolding unless
counted (Ok k) ts n m e = ((k, refl), e)
counted (Err r) ts n m e = let z : ◌≡◌ {A = ℕ} 0 1 = cc in absurd (omega arith)

-- where a list of tests gives a refusal that is not the first one's, the first passes and the others give it
pub refused_later : (a : Answer) (ts : List Answer) (n : ℕ) (c : Cause) (k : ℕ) → (a ≡ refused c k → ⊥) → unless (a ∷ ts) n ≡ refused c k
    → ((m : ℕ) × (a ≡ Ok m)) × (unless ts n ≡ refused c k)
unfolding unless
refused_later (Ok m) ts n c k o e = ((m, refl), e)
refused_later (Err r) ts n c k o e = absurd (o e)

pub count_is : (n m : ℕ) → unless [] n ≡ Ok m → m ≡ n
unfolding unless
count_is n m e = cc

-- a test that gives a count, or refuses
pub chosen : (t : Bool) (c : Cause) (a b k : ℕ) → cond t (Ok a) (refused c b) ≡ Ok k → t ≡ true
chosen true c a b k e = refl
chosen false c a b k e = let z : ◌≡◌ {A = ℕ} 0 1 = cc in absurd (omega arith)

pub spared : (t : Bool) (c : Cause) (a b k : ℕ) → cond t (refused c b) (Ok a) ≡ Ok k → t ≡ false
spared false c a b k e = refl
spared true c a b k e = let z : ◌≡◌ {A = ℕ} 0 1 = cc in absurd (omega arith)

-- the refusal's cause, or the given one where nothing is refused
abbrev cause_or : Cause → Answer → Cause
cause_or c (Ok n) = c
cause_or c (Err r) = r.cause

-- a test that refuses by one cause does not refuse by another
pub other_cause : (t : Bool) (c d : Cause) (a b k : ℕ) → (c ≡ d → ⊥) → cond t (Ok a) (refused c b) ≡ refused d k → ⊥
other_cause true c d a b k o e = let z : ◌≡◌ {A = ℕ} 0 1 = cc in omega arith
other_cause false c d a b k o e = o (ap (cause_or c) e)

pub other_spared : (t : Bool) (c d : Cause) (a b k : ℕ) → (c ≡ d → ⊥) → cond t (refused c b) (Ok a) ≡ refused d k → ⊥
other_spared true c d a b k o e = o (ap (cause_or c) e)
other_spared false c d a b k o e = let z : ◌≡◌ {A = ℕ} 0 1 = cc in omega arith

pub judged : (n k : ℕ) (v : Verdict) → at n v ≡ Ok k → v ≡ Ok tt
unfolding at
judged n k (Ok tt) e = refl
judged n k (Err c) e = let z : ◌≡◌ {A = ℕ} 0 1 = cc in absurd (omega arith)

pub each_at : (t : ℕ → Answer) (n m : ℕ) → each t n ≡ Ok m → (i : ℕ) → i < n → (k : ℕ) × (t i ≡ Ok k)
unfolding each
each_at t zero m e i h = absurd (omega arith)
each_at t (suc n) m e i h =
    let x = counted (each t n) (t n ∷ []) (n + 1) m e in
    let y = counted (t n) [] (n + 1) m x.1 in
    elim (dec_lt i n) [ yes l ↦ each_at t n x.0.0 x.0.1 i l | no l ↦ let s : i ≡ n = omega arith in (y.0.0, rw s y.0.1) ]

pub each_of : (t : ℕ → Answer) (n : ℕ) → ((i : ℕ) → i < n → (k : ℕ) × (t i ≡ Ok k)) → each t n ≡ Ok n
each_of t zero h = each_none t
each_of t (suc n) h =
    let x = h n (omega arith) in
    ap (each t) (sym (add-one n)) ∙ each_more t n x.0 (each_of t n (λ i l. h i (omega arith))) x.1 ∙ ap Ok (add-one n)

pub each_other : (t : ℕ → Answer) (c : Cause) (k n : ℕ) → ((i : ℕ) → t i ≡ refused c k → ⊥) → each t n ≡ refused c k → ⊥
unfolding each unless
each_other t c k zero o e = let z : ◌≡◌ {A = ℕ} 0 1 = cc in omega arith
each_other t c k (suc n) o e =
    let x = refused_later (each t n) (t n ∷ []) (n + 1) c k (each_other t c k n o) e in
    let y = refused_later (t n) [] (n + 1) c k (o n) x.1 in
    let f : Ok (n + 1) ≡ refused c k = y.1 in
    let z : ◌≡◌ {A = ℕ} 0 1 = cc in
    omega arith

-- ---- what the exit of a `?` returns

pub handed_on : (x : Answer) (r : Refusal) → IsErr x × IsErrAnd x (λ y. y ≡ r) → x ≡ Err r
handed_on x r h = let p = err_from_is_err_and x h.1 in p.1 ∙ ap Err p.2
