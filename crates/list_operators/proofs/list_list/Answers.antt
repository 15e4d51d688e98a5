-- `list_operators::list_list` meets its contract. Assumes nothing.
use Rattle.slices.proofs.Lists.{ap2}
use Rattle.ink_list.proofs.Rests.{of_lent}
use Rattle.ink_value.proofs.Reading.{entries_in_lem, wrote_is}
use Rattle.list_pairs.specs.Pairs.{merge_l}
use Rattle.op.specs.Op.{op_number}
use Rattle.list_operators.proofs.list_list.Goals as goal

pub merge-requires : goal.merge-requires
merge-requires c =
    record {
      rising_a = rw c.entries_of.ensures.items c.requires.formed_a.lent.rising;
      rising_b = rw c.entries_of-2.ensures.items c.requires.formed_b.lent.rising;
    }

pub returns : goal.returns
returns c =
    let is = c.args.lists.items.now in
    let vs = c.args.lists.values.now in
    λ limit a b.
    let w = rw (c.entries_of.ensures.items, c.entries_of.ensures.values, c.entries_of-2.ensures.items, c.entries_of-2.ensures.values) at (c.merge.ensures limit) (of_lent limit _ _ a.lent) (of_lent limit _ _ b.lent) in (
      wrote_is (ap2 (merge_l limit (op_number c.args.op)) (entries_in_lem is vs c.args.a) (entries_in_lem is vs c.args.b)) w.0,
      w.1,
    )
