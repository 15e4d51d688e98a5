-- `list_operators::list1` meets its contract. Assumes nothing.
use Rattle.std.proofs.Common.{sym, ◌∙◌, arith}
use Rattle.ink_list.specs.Entries.{item_numbers}
use Rattle.list_operators.specs.Lists.{unary_l}
use Rattle.slices.proofs.Lists.{ap2}
use Rattle.ink_value.proofs.Reading.{entries_in_lem, set_in_lem, formed_limit, wrote_is}
use Rattle.op.specs.Op.{op_number}
use Rattle.list_operators.proofs.list1.Goals as goal

pub unary-requires : goal.unary-requires
unary-requires c =
    let a = c.args in
    let h = c.requires.room in
    record {
      ascends = rw c.entries_of.ensures.items (formed_limit a.pack.limit a.lists.items.now a.lists.values.now item_numbers a.a (omega (arith, a.pack.bounded.small)) c.requires.formed).lent.rising;
      bound = (omega (arith, a.pack.bounded.some, h), omega (arith, a.pack.bounded.within, h));
    }

pub returns : goal.returns
returns c =
    let a = c.args in
    let d = a.pack.tables in
    let is = a.lists.items.now in
    let vs = a.lists.values.now in (
      wrote_is
          (ap2 (unary_l d.ends.now d.defined.now (op_number a.op)) (set_in_lem is vs a.a ∙ sym c.origins_in.ensures) (entries_in_lem is vs a.a))
          (rw (c.entries_of.ensures.items, c.entries_of.ensures.values) at c.unary.ensures.0),
      c.unary.ensures.1,
    )
