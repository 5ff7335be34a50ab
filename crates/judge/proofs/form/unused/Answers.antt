-- `unused`: the runs are the unused bytes of each kind.
use Rattle.block.proofs.Laws.Kinds.{kind_number, no_kind}
use Rattle.block.specs.declared.Kind.TheVariants.{Fill, Stroke, Shadow, Glass, Straight, Scaled, Genie, Frame}
use Rattle.block.specs.Fields.{kind}
use mathlib.Core.Path.{◌≡◌, sym, ◌∙◌}
use mathlib.Core.Path.{refl}
use Rattle.judge.proofs.Unused.{gaps_alike}
use Rattle.block.specs.Bytes.{every}
use Rattle.block.specs.Form.{fields, among, used}
use Rattle.judge.proofs.form.unused.Goals as goal

pub returns-in-Some-Fill : goal.returns-in-Some-Fill
unfolding every used among fields
returns-in-Some-Fill c = let e : kind c.args.b.now ≡ 1 = kind_number _ Fill (cc) in rw e c.fill_gaps.ensures

pub returns-in-Some-Stroke : goal.returns-in-Some-Stroke
unfolding every used among fields
returns-in-Some-Stroke c = let e : kind c.args.b.now ≡ 2 = kind_number _ Stroke (cc) in rw e (record { in_order = record { in_order = refl }; unused = refl })

pub returns-in-Some-Shadow : goal.returns-in-Some-Shadow
unfolding every used among fields
returns-in-Some-Shadow c = let e : kind c.args.b.now ≡ 3 = kind_number _ Shadow (cc) in rw e (record { in_order = record { in_order = refl }; unused = refl })

pub returns-in-Some-Glass : goal.returns-in-Some-Glass
unfolding every used among fields
returns-in-Some-Glass c = let e : kind c.args.b.now ≡ 4 = kind_number _ Glass (cc) in rw e (record { in_order = record { in_order = refl }; unused = refl })

pub returns-in-Some-Straight : goal.returns-in-Some-Straight
unfolding every used among fields
returns-in-Some-Straight c = let e : kind c.args.b.now ≡ 5 = kind_number _ Straight (cc) in rw e (record { in_order = record { in_order = refl }; unused = refl })

pub returns-in-Some-Scaled : goal.returns-in-Some-Scaled
unfolding every used among fields
returns-in-Some-Scaled c = let e : kind c.args.b.now ≡ 6 = kind_number _ Scaled (cc) in rw e (record { in_order = record { in_order = refl }; unused = refl })

pub returns-in-Some-Genie : goal.returns-in-Some-Genie
unfolding every used among fields
returns-in-Some-Genie c = let e : kind c.args.b.now ≡ 7 = kind_number _ Genie (cc) in rw e (record { in_order = record { in_order = refl }; unused = refl })

pub returns-in-Some-Frame : goal.returns-in-Some-Frame
unfolding every used among fields
returns-in-Some-Frame c = let e : kind c.args.b.now ≡ 8 = kind_number _ Frame (cc) in rw e (record { in_order = record { in_order = refl }; unused = refl })

pub returns-in-None : goal.returns-in-None
unfolding every used among fields
returns-in-None c = let n = no_kind _ (sym c.kind_of.ensures ∙ c.in-None.is) in gaps_alike _ _ 0 0 _ (rw (n.not1, n.not2, n.not3, n.not4, n.not5, n.not6, n.not7, n.not8)) (record { in_order = record { in_order = refl }; unused = refl })
