-- A float that is read from bits is a NaN where its bits are a NaN's.
use Rattle.std.proofs.Common.{true, false, sym, ◌∙◌}
use Rattle.records.proofs.Steps.{real_is}
use Rattle.records.proofs.real.Goals as goal

pub returns-then-is_nan : goal.returns-then-is_nan
returns-then-is_nan c = real_is _ _ _ _ true c.word.ensures c.f32_from_bits_with_nan-x.ensures (sym c.if-is_nan.true ∙ c.is_nan.ensures.value)

pub returns-else-is_nan : goal.returns-else-is_nan
returns-else-is_nan c = real_is _ _ _ _ false c.word.ensures c.f32_from_bits_with_nan-x.ensures (sym c.if-is_nan.false ∙ c.is_nan.ensures.value)
