-- `integral_float::floor` meets its contract: a negative x is rounded up without its sign, and a zero and a NaN are their own. Assumes
-- nothing.
use mathlib.Core.Path.{sym, ap, ◌∙◌}
use lib.Ieee.{Float, neg, of_int, of_bits}
use Rattle.binary32.specs.Operations.{opposite}
use Rattle.binary32.specs.Real.{floor_f, ceiling_f}
use Rattle.binary32.proofs.Binary32.{fitting}
use Rattle.binary32.proofs.Integral.{twice}
use Rattle.binary32.proofs.Meets.{meant, neg_meets, lt_meets, floor_meets}
use Rattle.integral_float.proofs.Tests.{positive, neither}
use Rattle.integral_float.proofs.floor.Goals as goal

pub whole_above-requires : goal.whole_above-requires
unfolding of_bits of_int
whole_above-requires c = let x = c.args.x in sym (lt_meets _ (neg x)) ∙ positive x c.if-x.true

pub returns-then-x : goal.returns-then-x
returns-then-x c =
    let all =
    let x = c.args.x in
    meant (floor_meets x (fitting x c.well_formed.0.1))
    (ap neg c.whole_above.ensures ∙ neg_meets (ceiling_f (neg x)) ∙ twice (floor_f (opposite (neg x)))
    ∙ ap (λ (y : Float). floor_f (opposite y)) (neg_meets x) ∙ ap floor_f (twice x)) in
    record {
      value = all.0;
      exactly = all.1;
    }

pub whole_below-requires : goal.whole_below-requires
unfolding of_bits of_int
whole_below-requires c = sym (lt_meets _ c.args.x) ∙ c.if-x-2.true

pub returns-then-x-2 : goal.returns-then-x-2
returns-then-x-2 c =
    let all =
    meant (floor_meets c.args.x (fitting c.args.x c.well_formed.0.1)) c.whole_below.ensures in
    record {
      value = all.0;
      exactly = all.1;
    }

pub returns : goal.returns
unfolding of_bits
returns c =
    let all =
    let f = fitting c.args.x c.well_formed.0.1 in
    meant (floor_meets c.args.x f) (neither c.args.x f c.if-x.false c.if-x-2.false) in
    record {
      value = all.0;
      exactly = all.1;
    }
