-- `list_operators::list2` meets its contract. Assumes nothing.
use Rattle.std.proofs.Common.{sym, ◌∙◌, ◌≤◌}
use Rattle.ink_list.specs.Lists.{places}
use Rattle.ink_value.specs.Value.{val_of}
use Rattle.ink_value.proofs.Reading.{formed_limit, wrote_is}
use Rattle.list_operators.specs.Lists.{definitions_of}
use Rattle.list_operators.proofs.Listing.{right_list}
use Rattle.op.specs.Op.{op_number}
use Rattle.list_operators.proofs.list2.Goals as goal

pub list_list-requires : goal.list_list-requires
list_list-requires c =
    let a = c.args in
    let h : a.pack.limit ≤ places a.out.now = c.requires.room in
    record {
      formed_a = formed_limit a.pack.limit a.lists.items.now a.lists.values.now (places a.out.now) a.a h c.requires.formed.0;
      formed_b = formed_limit a.pack.limit a.lists.items.now a.lists.values.now (places a.out.now) a.b h c.requires.formed.1;
    }

pub returns-in-List : goal.returns-in-List
returns-in-List c =
    let a = c.args in
    let is = a.lists.items.now in
    let vs = a.lists.values.now in
    let w = c.list_list.ensures a.pack.limit c.requires.formed.0 c.requires.formed.1 in (
      wrote_is (right_list (definitions_of a.pack) (op_number a.op) (val_of is vs a.a) is vs a.b (sym c.kind.ensures ∙ c.in-List.is)) w.0,
      w.1,
    )

pub list_int-requires : goal.list_int-requires
list_int-requires c =
    record {
      room = c.requires.room;
      formed = c.requires.formed;
      no_list = λ e. c.in_default.not-List (c.kind.ensures ∙ e);
    }
