-- Runs of zero bytes: where the runs are just the unused bytes of a kind, the definition's test of each byte passes; and the check is the sum of the others.
use mathlib.Core.Path.{◌≡◌, refl, sym, ap, ◌∙◌}
use mathlib.Core.Bool.{Bool, true, false, not, ◌&&◌, ◌||◌, beq}
use mathlib.Core.List.{List, [], ◌∷◌}
use Prim.Native.Nat.{ℕ, zero, suc, ◌+◌, ◌≤◌, ◌<◌}
use native.Mathlib.Decide.{dec_lt}
use native.Mathlib.Numerals.{add-one}
use native.Mathlib.Omega.{arith}
use borrow.Author.Tests.{leb-true, ltb-true, eqb-true, le-leb, lt-ltb, le-ltb, eq-eqb}
use lib.Dec.{leb, ltb, eqb}
use lib.ListN.{length, get_or}
use lib.Bits.{bit_or, or_add_and, and_le_l, and_le_r}
use Rattle.geom.proofs.Laws.{both_true}
use Rattle.judge.proofs.Laws.Every.{every_at}
use Rattle.block.specs.Bytes.{byte, every, weighed}
use Rattle.block.specs.Form.{used, unused_zero, fields}
use Rattle.judge.specs.Private.{zeros, within, inside, clear, ordered, Gaps}

either : (a b : Bool) → (a || b) ≡ true → a ≡ false → b ≡ true
either true b e f = let z : ◌≡◌ {A = ℕ} 0 1 = cc in absurd (omega arith)
either false b e f = e

or_right : (a b : Bool) → b ≡ true → (a || b) ≡ true
or_right true b e = refl
or_right false b e = e

-- two tests that pass together are equal
same_test : (a b : Bool) → (a ≡ true → b ≡ true) → (b ≡ true → a ≡ true) → a ≡ b
same_test true b f g = sym (f refl)
same_test false true f g = g refl
same_test false false f g = refl

-- bytes in one are 0 where each is
pub none_or : (m n : ℕ) → eqb (bit_or m n) 0 ≡ (eqb m 0 && eqb n 0)
none_or m n =
    same_test (eqb (bit_or m n) 0) (eqb m 0 && eqb n 0)
    (λ e. let h = eqb-true (bit_or m n) 0 e in rw (eq-eqb m 0 (omega (arith, h, or_add_and m n, and_le_r m n)), eq-eqb n 0 (omega (arith, h, or_add_and m n, and_le_l m n))))
    (λ e. let h = both_true (eqb m 0) (eqb n 0) e in eq-eqb (bit_or m n) 0 (omega (arith, or_add_and m n, eqb-true m 0 h.0, eqb-true n 0 h.1)))

every_of : (f : ℕ → Bool) (n : ℕ) → ((o : ℕ) → o < n → f o ≡ true) → every n f ≡ true
unfolding every
every_of f zero g = refl
every_of f (suc n) g = rw (every_of f n (λ o h. g o (omega arith)), g n (omega arith))

-- no byte is tested
pub zeros_none : (b : List ℕ) (from to : ℕ) → to ≤ from → true ≡ zeros b from to
unfolding zeros
zeros_none b from to h = sym (every_of _ to (λ o l. rw (lt-ltb o from (omega arith))))

-- one byte more beside the others
pub zeros_more : (b : List ℕ) (from i s : ℕ) → from ≤ i → eqb s 0 ≡ zeros b from i → eqb (bit_or s (byte b i)) 0 ≡ zeros b from (i + 1)
unfolding zeros every
zeros_more b from i s h e = rw (none_or s (byte b i), e, add-one i) (rw (le-ltb i from h))

zero_in : (b : List ℕ) (r : ℕ × ℕ) → zeros b r.0 r.1 ≡ true → (o : ℕ) → within r o ≡ true → byte b o ≡ 0
unfolding zeros
zero_in b r e o h =
    let w = both_true (leb r.0 o) (ltb o r.1) h in
    let l = leb-true r.0 o w.0 in
    let m = ltb-true o r.1 w.1 in
    eqb-true (byte b o) 0 (either (ltb o r.0) _ (every_at _ r.1 e o m) (le-ltb o r.0 l))

in_zero : (b : List ℕ) (r : ℕ × ℕ) → ((o : ℕ) → within r o ≡ true → byte b o ≡ 0) → zeros b r.0 r.1 ≡ true
unfolding zeros
in_zero b r g = every_of _ r.1 (λ o h. elim (dec_lt o r.0) [ yes l ↦ rw (lt-ltb o r.0 l) | no l ↦ let m : r.0 ≤ o = omega arith in rw (le-ltb o r.0 m, g o (rw (le-leb r.0 o m, lt-ltb o r.1 h))) ])

-- a byte of the first run or of a later one
first_or : (b : List ℕ) (r : ℕ × ℕ) (rs : List (ℕ × ℕ)) (o : ℕ) (w : Bool) → within r o ≡ w → inside (r ∷ rs) o ≡ true
    → (within r o ≡ true → byte b o ≡ 0) → (inside rs o ≡ true → byte b o ≡ 0) → byte b o ≡ 0
first_or b r rs o true e h f g = f e
first_or b r rs o false e h f g = g (either (within r o) (inside rs o) h e)

clear_at : (b : List ℕ) (rs : List (ℕ × ℕ)) → clear b rs ≡ true → (o : ℕ) → inside rs o ≡ true → byte b o ≡ 0
clear_at b [] e o h = let z : ◌≡◌ {A = ℕ} 0 1 = cc in absurd (omega arith)
clear_at b (r ∷ rs) e o h =
    let u = both_true (zeros b r.0 r.1) (clear b rs) e in
    first_or b r rs o (within r o) refl h (zero_in b r u.0 o) (clear_at b rs u.1 o)

clear_of : (b : List ℕ) (rs : List (ℕ × ℕ)) → ((o : ℕ) → inside rs o ≡ true → byte b o ≡ 0) → clear b rs ≡ true
clear_of b [] g = refl
clear_of b (r ∷ rs) g =
    rw (in_zero b r (λ o h. g o (rw h)), clear_of b rs (λ o h. g o (or_right (within r o) (inside rs o) h))) refl

pub first_of : (from : ℕ) (r : ℕ × ℕ) (rs : List (ℕ × ℕ)) → ordered from (r ∷ rs) ≡ true → (from ≤ r.0) × (r.0 ≤ r.1) × (ordered r.1 rs ≡ true)
first_of from r rs e =
    let x = both_true (leb from r.0) (leb r.0 r.1 && ordered r.1 rs) e in
    let y = both_true (leb r.0 r.1) (ordered r.1 rs) x.1 in
    (leb-true from r.0 x.0, leb-true r.0 r.1 y.0, y.1)

pub order_ends : (from : ℕ) (rs : List (ℕ × ℕ)) → ordered from rs ≡ true → from ≤ 508
order_ends from [] e = leb-true from 508 e
order_ends from (r ∷ rs) e = let x = first_of from r rs e in omega (arith, x.0, x.1, order_ends r.1 rs x.2)

ends_go : (r : ℕ × ℕ) (rs : List (ℕ × ℕ)) (o : ℕ) (w : Bool) → within r o ≡ w → r.1 ≤ 508 → inside (r ∷ rs) o ≡ true → (inside rs o ≡ true → o < 508) → o < 508
ends_go r rs o true q l h g = omega (arith, ltb-true o r.1 (both_true (leb r.0 o) (ltb o r.1) q).1)
ends_go r rs o false q l h g = g (either (within r o) (inside rs o) h q)

inside_ends : (from : ℕ) (rs : List (ℕ × ℕ)) → ordered from rs ≡ true → (o : ℕ) → inside rs o ≡ true → o < 508
inside_ends from [] e o h = let z : ◌≡◌ {A = ℕ} 0 1 = cc in absurd (omega arith)
inside_ends from (r ∷ rs) e o h = let x = first_of from r rs e in ends_go r rs o (within r o) refl (order_ends r.1 rs x.2) h (inside_ends r.1 rs x.2 o)

-- each run lies before the check
pub fits_at : (from : ℕ) (rs : List (ℕ × ℕ)) (i : ℕ) (r : ℕ × ℕ) → ordered from rs ≡ true → i < length rs → (get_or rs i r).0 ≤ (get_or rs i r).1 × (get_or rs i r).1 ≤ 508
fits_at from [] i r e h = absurd (omega arith)
fits_at from (x ∷ rs) zero r e h = let y = first_of from x rs e in (y.1, order_ends x.1 rs y.2)
fits_at from (x ∷ rs) (suc i) r e h = let y = first_of from x rs e in fits_at x.1 rs i r y.2 (omega arith)

-- and behind the one before
pub behind_at : (from : ℕ) (rs : List (ℕ × ℕ)) (i : ℕ) (r : ℕ × ℕ) → ordered from rs ≡ true → suc i < length rs → (get_or rs i r).1 ≤ (get_or rs (suc i) r).0
behind_at from [] i r e h = absurd (omega arith)
behind_at from (x ∷ []) i r e h = absurd (omega arith)
behind_at from (x ∷ y ∷ rs) zero r e h = let z = first_of from x (y ∷ rs) e in (first_of x.1 y rs z.2).0
behind_at from (x ∷ y ∷ rs) (suc i) r e h = let z = first_of from x (y ∷ rs) e in behind_at x.1 (y ∷ rs) i r z.2 (omega arith)

-- the bytes of five runs in one
pub five_clear : (b : List ℕ) (rs : List (ℕ × ℕ)) (v0 v1 v2 v3 v4 : ℕ) → length rs ≡ 5
    → eqb v0 0 ≡ zeros b (get_or rs 0 (0, 0)).0 (get_or rs 0 (0, 0)).1 → eqb v1 0 ≡ zeros b (get_or rs 1 (0, 0)).0 (get_or rs 1 (0, 0)).1
    → eqb v2 0 ≡ zeros b (get_or rs 2 (0, 0)).0 (get_or rs 2 (0, 0)).1 → eqb v3 0 ≡ zeros b (get_or rs 3 (0, 0)).0 (get_or rs 3 (0, 0)).1
    → eqb v4 0 ≡ zeros b (get_or rs 4 (0, 0)).0 (get_or rs 4 (0, 0)).1
    → eqb (bit_or (bit_or (bit_or (bit_or v0 v1) v2) v3) v4) 0 ≡ clear b rs
five_clear b (r0 ∷ r1 ∷ r2 ∷ r3 ∷ r4 ∷ []) v0 v1 v2 v3 v4 l e0 e1 e2 e3 e4 =
    rw (none_or, none_or, none_or, none_or, e0, e1, e2, e3, e4)
    (all_five (zeros b r0.0 r0.1) (zeros b r1.0 r1.1) (zeros b r2.0 r2.1) (zeros b r3.0 r3.1) (zeros b r4.0 r4.1))
  where
    all_five : (p q r s t : Bool) → (p && q && r && s && t) ≡ (p && (q && (r && (s && (t && true)))))
    all_five true true true true true = refl
    all_five true true true true false = refl
    all_five true true true false t = refl
    all_five true true false s t = refl
    all_five true false r s t = refl
    all_five false q r s t = refl
five_clear b [] v0 v1 v2 v3 v4 l e0 e1 e2 e3 e4 = absurd (omega arith)
five_clear b (_ ∷ []) v0 v1 v2 v3 v4 l e0 e1 e2 e3 e4 = absurd (omega arith)
five_clear b (_ ∷ _ ∷ []) v0 v1 v2 v3 v4 l e0 e1 e2 e3 e4 = absurd (omega arith)
five_clear b (_ ∷ _ ∷ _ ∷ []) v0 v1 v2 v3 v4 l e0 e1 e2 e3 e4 = absurd (omega arith)
five_clear b (_ ∷ _ ∷ _ ∷ _ ∷ []) v0 v1 v2 v3 v4 l e0 e1 e2 e3 e4 = absurd (omega arith)
five_clear b (_ ∷ _ ∷ _ ∷ _ ∷ _ ∷ _ ∷ _) v0 v1 v2 v3 v4 l e0 e1 e2 e3 e4 = absurd (omega arith)

-- kinds with the same fields have the same gaps
pub gaps_alike : (k p k' p' : ℕ) (rs : List (ℕ × ℕ)) → fields k p ≡ fields k' p' → Gaps k' p' rs → Gaps k p rs
unfolding used
gaps_alike k p k' p' rs e h = record {
  in_order = h.in_order;
  unused = every_of _ 508 (λ o l. rw e (every_at (λ j. beq (used k' p' j) (not (inside rs j))) 508 h.unused o l));
}

unlike : (a b : Bool) → beq a (not b) ≡ true → a ≡ not b
unlike true true e = let z : ◌≡◌ {A = ℕ} 0 1 = cc in absurd (omega arith)
unlike true false e = refl
unlike false true e = refl
unlike false false e = let z : ◌≡◌ {A = ℕ} 0 1 = cc in absurd (omega arith)

-- where the runs are the unused bytes, both tests are one
pub covered : (b : List ℕ) (k p : ℕ) (rs : List (ℕ × ℕ)) → Gaps k p rs → clear b rs ≡ unused_zero k p b
unfolding unused_zero
covered b k p rs u = same_test (clear b rs) (every 508 (λ o. used k p o || eqb (byte b o) 0)) to from
  where
    other : (o : ℕ) → o < 508 → used k p o ≡ not (inside rs o)
    other o h = unlike (used k p o) (inside rs o) (every_at (λ j. beq (used k p j) (not (inside rs j))) 508 u.unused o h)

    go : (c : clear b rs ≡ true) (o : ℕ) → o < 508 → (w : Bool) → inside rs o ≡ w → (used k p o || eqb (byte b o) 0) ≡ true
    go c o h true q = rw (clear_at b rs c o q) (or_right (used k p o) true refl)
    go c o h false q = rw (other o h, q)

    to : clear b rs ≡ true → every 508 (λ o. used k p o || eqb (byte b o) 0) ≡ true
    to c = every_of (λ o. used k p o || eqb (byte b o) 0) 508 (λ o h. go c o h (inside rs o) refl)

    from : every 508 (λ o. used k p o || eqb (byte b o) 0) ≡ true → clear b rs ≡ true
    from c = clear_of b rs (λ o q. let h = inside_ends 0 rs u.in_order.in_order o q in eqb-true (byte b o) 0 (either (used k p o) (eqb (byte b o) 0) (every_at (λ j. used k p j || eqb (byte b j) 0) 508 c o h) (other o h ∙ ap not q)))

-- ---- the sum

fewer_zeros : (b : List ℕ) (from i : ℕ) → zeros b from (suc i) ≡ true → zeros b from i ≡ true
unfolding zeros every
fewer_zeros b from i z = (both_true (every i (λ o. ltb o from || eqb (byte b o) 0)) (ltb i from || eqb (byte b i) 0) z).0

-- zero bytes weigh nothing
pub run_weighs : (b : List ℕ) (from to : ℕ) → from ≤ to → zeros b from to ≡ true → weighed b to ≡ weighed b from
unfolding weighed
run_weighs b from zero h z = let e : from ≡ zero = omega arith in rw e refl
run_weighs b from (suc i) h z = elim (dec_lt i from) [
  | yes l ↦ let e : from ≡ suc i = omega arith in rw e refl
  | no l ↦
      let m : from ≤ i = omega arith in
      let n : byte b i ≡ 0 = zero_in b (from, suc i) z i (rw (le-leb from i m, lt-ltb i (suc i) (omega arith))) in
      rw (n, run_weighs b from i m (fewer_zeros b from i z)) (omega arith)
]

-- and so does each run that is clear
pub weightless_at : (b : List ℕ) (from : ℕ) (rs : List (ℕ × ℕ)) (i : ℕ) (r : ℕ × ℕ) → ordered from rs ≡ true → clear b rs ≡ true → i < length rs
    → weighed b (get_or rs i r).1 ≡ weighed b (get_or rs i r).0
weightless_at b from [] i r e z h = absurd (omega arith)
weightless_at b from (x ∷ rs) zero r e z h = run_weighs b x.0 x.1 (first_of from x rs e).1 (both_true (zeros b x.0 x.1) (clear b rs) z).0
weightless_at b from (x ∷ rs) (suc i) r e z h =
    weightless_at b x.1 rs i r (first_of from x rs e).2 (both_true (zeros b x.0 x.1) (clear b rs) z).1 (omega arith)
