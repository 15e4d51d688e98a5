-- `list_has::has` meets its contract: b's items that are left are to lie among those that are left of a. Assumes nothing.
use Rattle.std.proofs.Common.{sym, ◌∙◌}
use Rattle.ink_list.specs.Entries.{item_numbers}
use Rattle.ink_list.proofs.SiftLaws.{skip_rises}
use Rattle.ink_list.proofs.TestLaws.{has_no, has_yes, subset_end}
use Rattle.list_has.proofs.has.Goals as goal

pub returns-then-not-stands : goal.returns-then-not-stands
returns-then-not-stands c =
    let l = c.loop-x in
    sym (l.invariant.rest ∙ has_no item_numbers _ _ c.args.b.now l.invariant.rising c.requires.rising_b l.x-index c.loop-x-test.true c.skip_below-left.ensures
    (sym c.stands.ensures ∙ c.if-not-stands.true))

pub loop-x-preserved : goal.loop-x-preserved
loop-x-preserved c =
    let l = c.loop-x in
    record {
      rising = rw c.skip_below-left.ensures (skip_rises _ 0 _ l.left.now l.invariant.rising);
      rest =
          l.invariant.rest ∙ has_yes item_numbers _ _ c.args.b.now l.invariant.rising c.requires.rising_b l.x-index c.loop-x-test.true c.skip_below-left.ensures
          (sym c.stands.ensures ∙ c.if-not-stands.false);
    }

pub returns : goal.returns
returns c = let l = c.loop-x in sym (l.invariant.rest ∙ subset_end l.left.now c.args.b.now l.x-index c.loop-x-test.false)
