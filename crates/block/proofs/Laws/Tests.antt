-- What the tests of one block leave: which cause a refusal has, and that the test of tables against their bezels comes last and takes nothing else away.
use Rattle.std.proofs.Common.{Ok, Err}
use mathlib.Core.Path.{◌≡◌, refl, sym, ap}
use mathlib.Core.Logic.{◌⊎◌, inl, inr}
use mathlib.Core.Bool.{Bool, true, false, cond}
use mathlib.Core.List.{List, []}
use Prim.Native.Nat.{ℕ, ◌≤◌}
use native.Mathlib.Omega.{arith}
use Rattle.answer.specs.Answer.{number, Verdict}
use Rattle.answer.specs.declared.Cause.{Cause}
use Rattle.answer.specs.declared.Cause.TheVariants.{Check, Form, Floats, Integers, Bend}
use Rattle.block.specs.Bytes.{check_right, weighed, u32}
use Rattle.block.specs.Form.{well_formed, known}
use Rattle.block.specs.Ranges.{floats_in, integers_in, bend_suits}
use Rattle.block.specs.Verdict.{shape, verdict}

-- the number of a verdict's cause, 0 where the block has passed
abbrev number_of : Verdict → ℕ
number_of (Ok tt) = 0
number_of (Err c) = number c

never : {A : Type 0} {c : Cause} → ◌≡◌ {A = Verdict} (Ok tt) (Err c) → A
never e = let z : ◌≡◌ {A = ℕ} 0 1 = cc in absurd (omega arith)

-- the tests in their order, over what they have found
abbrev in_order : Bool → Bool → Bool → Bool → Verdict
in_order f r i s = cond f (cond r (cond i (cond s (Ok tt) (Err Bend)) (Err Integers)) (Err Floats)) (Err Form)

-- ---- a block that has passed

-- it has passed 5, 6, 7 and 15
pub record AllPass (b : List ℕ) : Type 0 where
  pub formed : well_formed b ≡ true
  pub floats : floats_in b ≡ true
  pub integers : integers_in b ≡ true
  pub suits : bend_suits b ≡ true

pub passed : (b : List ℕ) → verdict b ≡ Ok tt → AllPass b
unfolding verdict shape
passed b e = let t = go (check_right b) (well_formed b) (floats_in b) (integers_in b) (bend_suits b) (ap number_of e) in record { formed = t.0; floats = t.1; integers = t.2; suits = t.3 }
  where
    go : (c f r i s : Bool) → number_of (cond c (in_order f r i s) (Err Check)) ≡ 0 → (f ≡ true) × (r ≡ true) × (i ≡ true) × (s ≡ true)
    go true true true true true e = (refl, refl, refl, refl)
    go true true true true false e = absurd (omega arith)
    go true true true false s e = absurd (omega arith)
    go true true false i s e = absurd (omega arith)
    go true false r i s e = absurd (omega arith)
    go false f r i s e = absurd (omega arith)

-- ---- a block that is refused

-- its cause is 4, 5, 6, 7 or 15
pub cause_of : (b : List ℕ) (c : Cause) → verdict b ≡ Err c → ((4 ≤ number c) × (number c ≤ 7)) ⊎ (number c ≡ 15)
unfolding verdict shape
cause_of b c = go (check_right b) (well_formed b) (floats_in b) (integers_in b) (bend_suits b)
  where
    go : (k f r i s : Bool) → cond k (in_order f r i s) (Err Check) ≡ Err c → ((4 ≤ number c) × (number c ≤ 7)) ⊎ (number c ≡ 15)
    go true true true true true e = never e
    go true true true true false e = inr (sym (ap number_of e))
    go true true true false s e = let n : 7 ≡ number c = ap number_of e in inl (omega arith, omega arith)
    go true true false i s e = let n : 6 ≡ number c = ap number_of e in inl (omega arith, omega arith)
    go true false r i s e = let n : 5 ≡ number c = ap number_of e in inl (omega arith, omega arith)
    go false f r i s e = let n : 4 ≡ number c = ap number_of e in inl (omega arith, omega arith)

-- where there are no bytes there is no kind
pub none_refused : verdict [] ≡ Err Form
unfolding verdict check_right weighed u32 shape well_formed known
none_refused = refl

-- ---- test 15

-- the tests 5 to 7 as they were before 15
unfoldable pub shape_before : List ℕ → Verdict
shape_before b = cond (well_formed b) (cond (floats_in b) (cond (integers_in b) (Ok tt) (Err Integers)) (Err Floats)) (Err Form)

-- a refusal by 15 says all of this
pub bend_says : (b : List ℕ) → shape b ≡ Err Bend → (well_formed b ≡ true) × (floats_in b ≡ true) × (integers_in b ≡ true) × (bend_suits b ≡ false)
unfolding shape
bend_says b e = go (well_formed b) (floats_in b) (integers_in b) (bend_suits b) (ap number_of e)
  where
    go : (f r i s : Bool) → number_of (in_order f r i s) ≡ 15 → (f ≡ true) × (r ≡ true) × (i ≡ true) × (s ≡ false)
    go true true true false e = (refl, refl, refl, refl)
    go true true true true e = absurd (omega arith)
    go true true false s e = absurd (omega arith)
    go true false i s e = absurd (omega arith)
    go false r i s e = absurd (omega arith)

-- and nothing less leads to it
pub bend_follows : (b : List ℕ) → well_formed b ≡ true → floats_in b ≡ true → integers_in b ≡ true → bend_suits b ≡ false → shape b ≡ Err Bend
unfolding shape
bend_follows b f r i s = rw (f, r, i, s) refl

-- where the table suits, nothing has moved
pub suits_as_before : (b : List ℕ) → bend_suits b ≡ true → shape b ≡ shape_before b
unfolding shape shape_before
suits_as_before b s = rw s refl

pub verdict_as_before : (b : List ℕ) → bend_suits b ≡ true → verdict b ≡ cond (check_right b) (shape_before b) (Err Check)
unfolding verdict
verdict_as_before b s = rw (suits_as_before b s) refl

-- and what was refused is refused by the same cause
pub refused_as_before : (b : List ℕ) (c : Cause) → shape_before b ≡ Err c → shape b ≡ Err c
unfolding shape shape_before
refused_as_before b c = go (well_formed b) (floats_in b) (integers_in b)
  where
    go : (f r i : Bool) → ◌≡◌ {A = Verdict} (cond f (cond r (cond i (Ok tt) (Err Integers)) (Err Floats)) (Err Form)) (Err c) → in_order f r i (bend_suits b) ≡ Err c
    go true true true e = never e
    go true true false e = e
    go true false i e = e
    go false r i e = e
