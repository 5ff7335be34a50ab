-- `paint`: by the kind.
use Rattle.layer.proofs.ByKind.{plain, in_room, first_glass, second_glass}
use Rattle.layer.specs.Layer.{painting_by}
use Rattle.block.proofs.Laws.Kinds.{kind_number}
use Rattle.block.specs.declared.Kind.TheVariants.{Fill, Stroke, Shadow, Glass, Straight, Scaled, Genie, Frame}
use Rattle.std.specs.Prelude.{Some, None}
use lib.ListN.{length}
use mathlib.Core.Path.{◌∙◌}
use Rattle.layer.proofs.paint.Goals as goal

pub returns-in-Some-Fill : goal.returns-in-Some-Fill
unfolding painting_by
returns-in-Some-Fill c =
    let a = c.args in
    let p = plain (Some Fill) a.size.w a.size.h a.sources.table.now a.sources.pool.now a.b.now a.px.now a.first.now a.second.now (cc) (λ q. cc) in
    record { canvas = cc; first = p.first; second = p.second }

pub returns-in-Some-Stroke : goal.returns-in-Some-Stroke
unfolding painting_by
returns-in-Some-Stroke c =
    let a = c.args in
    let p = plain (Some Stroke) a.size.w a.size.h a.sources.table.now a.sources.pool.now a.b.now a.px.now a.first.now a.second.now (cc) (λ q. cc) in
    record { canvas = cc; first = p.first; second = p.second }

pub returns-in-Some-Shadow : goal.returns-in-Some-Shadow
unfolding painting_by
returns-in-Some-Shadow c =
    let a = c.args in
    let p = plain (Some Shadow) a.size.w a.size.h a.sources.table.now a.sources.pool.now a.b.now a.px.now a.first.now a.second.now (cc) (λ q. cc) in
    record { canvas = cc; first = p.first; second = p.second }

pub returns-in-Some-Straight : goal.returns-in-Some-Straight
unfolding painting_by
returns-in-Some-Straight c =
    let a = c.args in
    let p = plain (Some Straight) a.size.w a.size.h a.sources.table.now a.sources.pool.now a.b.now a.px.now a.first.now a.second.now (cc) (λ q. cc) in
    record { canvas = cc; first = p.first; second = p.second }

pub returns-in-Some-Scaled : goal.returns-in-Some-Scaled
unfolding painting_by
returns-in-Some-Scaled c =
    let a = c.args in
    let p = plain (Some Scaled) a.size.w a.size.h a.sources.table.now a.sources.pool.now a.b.now a.px.now a.first.now a.second.now (cc) (λ q. cc) in
    record { canvas = cc; first = p.first; second = p.second }

pub returns-in-Some-Genie : goal.returns-in-Some-Genie
unfolding painting_by
returns-in-Some-Genie c =
    let a = c.args in
    let p = plain (Some Genie) a.size.w a.size.h a.sources.table.now a.sources.pool.now a.b.now a.px.now a.first.now a.second.now (cc) (λ q. cc) in
    record { canvas = cc; first = p.first; second = p.second }

pub returns-in-Some-Frame : goal.returns-in-Some-Frame
unfolding painting_by
returns-in-Some-Frame c =
    let a = c.args in
    let p = plain (Some Frame) a.size.w a.size.h a.sources.table.now a.sources.pool.now a.b.now a.px.now a.first.now a.second.now (cc) (λ q. cc) in
    record { canvas = cc; first = p.first; second = p.second }

pub returns-in-Some-Glass : goal.returns-in-Some-Glass
returns-in-Some-Glass c =
    let a = c.args in
    let g = c.glass_layer.ensures in
    let four = kind_number _ Glass (cc) in
    record {
      canvas = g.canvas ∙ in_room a.size.w a.size.h a.sources.table.now a.sources.pool.now (length a.first.now) (length a.second.now) a.b.now a.px.now four;
      first = g.first ∙ first_glass a.size.w a.size.h a.b.now a.px.now a.first.now (length a.second.now) four;
      second = second_glass a.size.w a.size.h a.b.now _ _ _ _ four g.second;
    }

pub returns-in-None : goal.returns-in-None
unfolding painting_by
returns-in-None c =
    let a = c.args in
    let p = plain None a.size.w a.size.h a.sources.table.now a.sources.pool.now a.b.now a.px.now a.first.now a.second.now (cc) (λ q. cc) in
    record { canvas = p.canvas; first = p.first; second = p.second }
