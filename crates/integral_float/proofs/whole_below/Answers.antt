-- `integral_float::whole_below` meets its contract: below 2^23 it is the whole number nearby, or one less where that is above x; from there
-- on there is no fraction. Assumes nothing.
use mathlib.Core.Path.{ap, ◌∙◌}
use lib.Ieee.{binary32, sub}
use Rattle.integral_float.proofs.Tests.{in_contract, large}
use Rattle.integral_float.proofs.Nearness.{told}
use Rattle.integral_float.proofs.whole_below.Goals as goal

pub nearby-whole-requires : goal.nearby-whole-requires
nearby-whole-requires c = (c.requires, in_contract c.args.x c.if-x.true)

pub returns-then-x : goal.returns-then-x
returns-then-x c =
    let whole = c.nearby-whole.result in
    ap (sub binary32 whole) c.one_where.ensures ∙ (told c.args.x whole c.requires c.if-x.true c.nearby-whole.ensures).down_is

pub returns : goal.returns
returns c = (large c.args.x c.well_formed.0.1 c.requires c.if-x.false).0
