-- `list_operators::list_int` meets its contract. Assumes nothing.
use Rattle.std.proofs.Common.{sym, ◌∙◌, arith}
use Rattle.ink_list.specs.Entries.{item_numbers}
use Rattle.ink_value.specs.Value.{val_of}
use Rattle.list_operators.specs.Lists.{shift_l, definitions_of}
use Rattle.slices.proofs.Lists.{ap3}
use Rattle.ink_number.proofs.Signed.{returned}
use Rattle.ink_value.proofs.Reading.{entries_in_lem, set_in_lem, formed_limit, wrote_is}
use Rattle.list_operators.proofs.Listing.{right_int}
use Rattle.op.specs.Op.{op_number}
use Rattle.list_operators.proofs.list_int.Goals as goal

pub shift-requires : goal.shift-requires
shift-requires c =
    let a = c.args in
    let h = c.requires.room in
    record {
      ascends = rw c.entries_of.ensures.items (formed_limit a.pack.limit a.lists.items.now a.lists.values.now item_numbers a.a (omega (arith, a.pack.bounded.small)) c.requires.formed.0).lent.rising;
      defined_len_bound = omega (arith, a.pack.bounded.within, h);
    }

pub returns : goal.returns
returns c =
    let a = c.args in
    let d = a.pack.tables in
    let is = a.lists.items.now in
    let vs = a.lists.values.now in (
      wrote_is
          (right_int (definitions_of a.pack) (op_number a.op) (val_of is vs a.a) is vs a.b c.requires.no_list
          ∙ ap3 (shift_l d.ends.now d.defined.now (op_number a.op)) (set_in_lem is vs a.a ∙ sym c.origins_in.ensures)
          (sym (returned c.to_int-by.type_inv ∙ c.to_int-by.ensures is c.requires.formed.1.items_in))
          (entries_in_lem is vs a.a))
          (rw (c.entries_of.ensures.items, c.entries_of.ensures.values) at c.shift.ensures.0),
      c.shift.ensures.1,
    )
