-- What private contracts cite: runs of bytes, each from one byte on and before another.
use Rattle.std.specs.Prelude.{ℕ, ◌≡◌, Bool, true, false, not, ◌&&◌, ◌||◌, List, [], ◌∷◌, leb, ltb, eqb}
use Rattle.std.specs.Bool.{beq}
use Rattle.block.specs.Bytes.{byte, every}
use Rattle.block.specs.Form.{used}

-- the bytes from `from` on and before `to` are zero
unfoldable pub zeros : List ℕ → ℕ → ℕ → Bool
zeros b from to = every to (λ o. ltb o from || eqb (byte b o) 0)

-- byte o is in a run
abbrev pub within : ℕ × ℕ → ℕ → Bool
within r o = leb r.0 o && ltb o r.1

-- byte o is in one of the runs
abbrev pub inside : List (ℕ × ℕ) → ℕ → Bool
inside [] o = false
inside (r ∷ rs) o = within r o || inside rs o

-- the bytes of each run are zero
abbrev pub clear : List ℕ → List (ℕ × ℕ) → Bool
clear b [] = true
clear b (r ∷ rs) = zeros b r.0 r.1 && clear b rs

-- each run begins behind the one before, from a byte on, and the last ends before the check
abbrev pub ordered : ℕ → List (ℕ × ℕ) → Bool
ordered from [] = leb from 508
ordered from (r ∷ rs) = leb from r.0 && (leb r.0 r.1 && ordered r.1 rs)

pub record InOrder (rs : List (ℕ × ℕ)) : Type 0 where
  pub in_order : ordered 0 rs ≡ true

-- the runs are just the bytes that kind k with paint p does not use
pub record Gaps (k p : ℕ) (rs : List (ℕ × ℕ)) : Type 0 where
  pub in_order : InOrder rs
  pub unused : every 508 (λ o. beq (used k p o) (not (inside rs o))) ≡ true
