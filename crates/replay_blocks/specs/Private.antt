-- What private contracts cite.
use Rattle.replay_blocks.specs.declared.Ask.{Ask}
use Rattle.replay_blocks.specs.declared.Ask.TheVariants.{Judge, Add, Remove, JudgeAt}
use Rattle.std.specs.Prelude.{◌≡◌, ◌≢◌, cond, ◌||◌, List, ℕ, ◌*◌, ◌≤◌, eqb, ltb, length, take}

-- how many bytes at the buffer's front are settled, by what was asked, the answer and the buffer's length: an answer below 2 ^ 32 is no refusal
unfoldable pub settled_len : ℕ → ℕ → ℕ → ℕ
settled_len asked answer len = cond (ltb answer 0x1_0000_0000) (cond (eqb asked 1 || eqb asked 2) (512 * answer) len) len

-- the buffer is as long as before, and its first n bytes are the list s
pub record Begins (before : List ℕ) (n : ℕ) (s after : List ℕ) : Type 0 where
  pub long : length after ≡ length before
  pub fits : n ≤ length after
  pub is : take n after ≡ s

-- what the number asks
abbrev pub IsAsked : ℕ → Ask → Type 0
IsAsked number Judge = number ≡ 0
IsAsked number Add = number ≡ 1
IsAsked number Remove = number ≡ 2
IsAsked number JudgeAt = (number ≢ 0) × ((number ≢ 1) × (number ≢ 2))
