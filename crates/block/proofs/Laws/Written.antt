-- Blocks written by their fields, for worked examples.
use Prim.Native.Nat.{ℕ, zero, suc, ◌+◌, ◌-◌, ◌/◌, ◌%◌}
use mathlib.Core.List.{List, [], ◌∷◌, ◌++◌}
use Rattle.block.specs.Bytes.{weighed}

-- the low n bytes of a number, the lowest first
unfoldable pub low : ℕ → ℕ → List ℕ
low zero v = []
low (suc n) v = v % 256 ∷ low n (v / 256)

unfoldable pub zeros : ℕ → List ℕ
zeros zero = []
zeros (suc n) = 0 ∷ zeros n

-- a field: its offset, its size in bytes and its value
pub record Field : Type 0 where
  pub offset : ℕ
  pub size : ℕ
  pub value : ℕ

-- bytes from place i to 507, by fields in the order of their offsets; what lies between them is zero
unfoldable pub laid : ℕ → List Field → List ℕ
laid i [] = zeros (508 - i)
laid i (f ∷ fs) = zeros (f.offset - i) ++ (low f.size f.value ++ laid (f.offset + f.size) fs)

-- and the check
unfoldable pub block_of : List Field → List ℕ
block_of fs = laid 0 fs ++ low 4 (weighed (laid 0 fs) 508)

abbrev pub field : ℕ → ℕ → ℕ → Field
field o n v = record { offset = o; size = n; value = v }
