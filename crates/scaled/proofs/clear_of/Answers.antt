-- `clear_of`: what the two searches tell; none of the columns that the second passed is as `near` says.
use Prim.Native.Nat.{ℕ, ◌≤◌, ◌<◌}
use mathlib.Core.Path.{◌≡◌, sym}
use mathlib.Core.Bool.{false}
use native.Mathlib.Omega.{arith}
use Rattle.std.proofs.Common.{rules, Option, None, Some, MatchOption}
use Rattle.std.specs.Bool.{⊤}
use Rattle.std.specs.Option.{unwrap_or}
use Rattle.std.proofs.lemmas.Iterator.{first_from_Range, serves_from_Range}
use Rattle.scaled.proofs.clear_of.Goals as goal

pub find-requires-clause-callable : goal.find-requires-clause-callable
find-requires-clause-callable g c = serves_from_Range (λ x q k. search rules) (λ x l h. search (rules, c.requires.call x (omega arith)))

pub find-requires-2-clause-callable : goal.find-requires-2-clause-callable
find-requires-2-clause-callable g c = serves_from_Range (λ x q k. search rules) (λ x l h. search (rules, c.requires.call x (omega arith)))

-- what a search from a on passes, up to what it finds or the end
passed : (No Yes : ℕ → Type 0) (a n : ℕ) (r : Option ℕ) → a ≤ n
    → MatchOption r ((k : ℕ) → a ≤ k → k < n → No k) (λ i. (a ≤ i) × (i < n) × Yes i × ((k : ℕ) → a ≤ k → k < i → No k))
    → (a ≤ unwrap_or r n) × (unwrap_or r n ≤ n) × ((k : ℕ) → a ≤ k → k < unwrap_or r n → No k)
passed No Yes a n None l h = (l, omega arith, h)
passed No Yes a n (Some i) l h = (h.0, omega (arith, h.1), h.3)

pub returns-clause-clear : goal.returns-clause-clear
returns-clause-clear g c = λ rule h.
    let one = passed (λ k. ⊤) (λ k. ⊤) 0 c.args.n c.find.result (omega arith) (first_from_Range _ _ _ _ (λ k. ⊤) (λ k. ⊤) c.find.ensures.ran (λ x q k. tt) (λ x q k. (search rules, tt))) in
    let from : c.unwrap_or-from.result ≤ c.args.n = omega (arith, c.unwrap_or-from.ensures, one.1) in
    let two = passed (λ k. k < c.args.n → rule k ≡ false) (λ k. ⊤) c.unwrap_or-from.result c.args.n c.find-2.result from
    (first_from_Range _ _ _ _ (λ k. ⊤) (λ k. k < c.args.n → rule k ≡ false) c.find-2.ensures.ran (λ x q k. tt) (λ x q k. (search rules, λ l. sym (h x false l (search rules))))) in
    record {
      order = omega (arith, c.unwrap_or-to.ensures, two.0);
      room = omega (arith, c.unwrap_or-to.ensures, two.1);
      is = λ i l m. two.2 i l (omega (arith, c.unwrap_or-to.ensures)) (omega (arith, c.unwrap_or-to.ensures, two.1));
    }
