-- `operating::list_through` meets its contract: the list is read back from where its operator wrote it, and put in its place. Assumes nothing.
use Rattle.std.proofs.Common.{ℕ, ◌*◌, sym, ap, arith}
use Rattle.op.specs.Op.{op_number}
use Rattle.ink_list.specs.Entries.{item_numbers}
use Rattle.ink_value.proofs.Reading.{few_in, formed_limit}
use Rattle.list_operators.specs.Lists.{definitions_of}
use Rattle.operating.proofs.Putting.{place_fits, made_formed, made_put}
use Rattle.operating.proofs.list_through.Goals as goal

pub store-requires : goal.store-requires
store-requires c =
    let p = c.args.pack in
    let v = c.list-v.result in
    let g = rw (c.lists.ensures.items, c.lists.ensures.values) at c.list-v.ensures.0 in
    let f = made_formed (definitions_of p) (op_number c.args.op) _ _ _ _ v _ _ _ _ _ _ g p.bounded.within c.requires.formed (omega arith) (omega arith) in
    let h = place_fits p.limit c.args.place _ c.requires.fact.2 (few_in p.limit _ _ v f) in
    record {
      formed = rw (c.lists-2.ensures.items, c.lists-2.ensures.values) (formed_limit p.limit _ _ item_numbers v (omega (arith, p.bounded.small)) f);
      room = omega (arith, h);
    }

pub returns : goal.returns
returns c =
    let p = c.args.pack in
    let v = c.list-v.result in
    let g = rw (c.lists.ensures.items, c.lists.ensures.values) at c.list-v.ensures.0 in
    let f = made_formed (definitions_of p) (op_number c.args.op) _ _ _ _ v _ _ _ _ _ _ g p.bounded.within c.requires.formed (omega arith) (omega arith) in (
      λ F e.
          let s = c.store.ensures.0 F (rw (e, c.lists-2.ensures.items, c.lists-2.ensures.values) f) in
          made_put g (ap (λ (k : ℕ). c.args.place * k) (sym e)) (rw (c.lists-2.ensures.items, c.lists-2.ensures.values) at s),
      c.store.ensures.1,
    )
