-- 01's table of causes: what each answer returns.
use Rattle.std.specs.Prelude.{ℕ, ◌+◌, ◌*◌, ◌%◌, Result, Ok, Err}
use Rattle.answer.specs.declared.Cause.{Cause}
use Rattle.answer.specs.declared.Cause.TheVariants.{Canvas, Sources, Rundown, Check, Form, Floats, Integers, Priority, Source, Frame, Scratch, Room, Absent, Pass, Bend, Next}
use Rattle.answer.specs.declared.Refusal.{Refusal}

-- what a call hands back: a value, or a refusal
abbrev pub Answer : Type 0
Answer = Result ℕ Refusal

-- one thing among many that are tested
abbrev pub Verdict : Type 0
Verdict = Result (Unit {0}) Cause

-- a refusal by the cause, with what stands beside its number
abbrev pub refused : Cause → ℕ → Answer
refused c n = Err (record { cause = c; beside = n })

-- 01's number of each cause
abbrev pub number : Cause → ℕ
number Canvas = 1
number Sources = 2
number Rundown = 3
number Check = 4
number Form = 5
number Floats = 6
number Integers = 7
number Priority = 8
number Source = 9
number Frame = 10
number Scratch = 11
number Room = 12
number Absent = 13
number Pass = 14
number Bend = 15
number Next = 16

-- what an answer returns: 01's number, 0 where nothing is refused, and with it the value, or what the cause's line says
pub record Returned : Type 0 where
  pub number : ℕ
  pub value : ℕ

unfoldable pub returned : Answer → Returned
returned (Ok n) = record { number = 0; value = n }
returned (Err r) = record { number = number r.cause; value = r.beside }

-- an answer as C gets it, one number of 64 bits: the value, or what stands beside the cause's number, in the lower half, modulo 2 ^ 32
unfoldable pub packed : Answer → ℕ
packed a = (returned a).number * 0x1_0000_0000 + (returned a).value % 0x1_0000_0000
