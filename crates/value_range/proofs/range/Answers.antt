-- `value_range::range` meets its contract: the entries that are lent are those of the first value. Assumes nothing.
use Rattle.std.proofs.Common.{sym, ◌∙◌}
use Rattle.slices.proofs.Lists.{ap3}
use Rattle.ink_number.proofs.Signed.{returned}
use Rattle.ink_list.specs.Ops.{range}
use Rattle.ink_list.proofs.Rests.{of_lent}
use Rattle.ink_value.proofs.Reading.{entries_in_lem, wrote_is}
use Rattle.value_range.proofs.range.Goals as goal

pub returns : goal.returns
returns c =
    let a = c.args in
    let l = c.lower_bound-lower in
    let u = c.upper_bound-upper in
    let low = sym (returned l.type_inv ∙ l.ensures a.lists.items.now c.requires.formed_b.items_in) in
    let high = sym (returned u.type_inv ∙ u.ensures a.lists.items.now c.requires.formed_c.items_in) in
    let wrote = rw (c.entries_of.ensures.items, c.entries_of.ensures.values) at c.range.ensures in
    λ limit f.
    let w = wrote limit (of_lent limit _ _ f.lent) in
    (wrote_is (ap3 (range limit) low high (entries_in_lem a.lists.items.now a.lists.values.now a.a)) w.0, w.1)
