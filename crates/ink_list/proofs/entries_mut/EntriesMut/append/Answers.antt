-- `ink_list::entries_mut::EntriesMut::append` meets its contract: what is left to be stored are the entries from place i on. Assumes nothing.
use Rattle.std.proofs.Common.{refl, arith, rules}
use Rattle.ink_list.proofs.Rests.{rest_cons, rest_done, length_entries}
use Rattle.ink_list.proofs.Output.{begin, has_room, pushed, stored}
use Rattle.ink_list.proofs.entries_mut.EntriesMut.append.Goals as goal

pub loop-i-init : goal.loop-i-init
loop-i-init c =
    let a = c.args.a in
    let e = length_entries a.items.now a.values.now a.parallel in
    record { same = (refl, refl); writing = begin (omega arith) }

pub push-next-requires : goal.push-next-requires
push-next-requires c =
    let a = c.args.a in
    let l = c.loop-i in
    has_room l.invariant.writing (rest_cons l.i a.items.now a.values.now a.parallel c.loop-i-test.true)

pub loop-i-preserved : goal.loop-i-preserved
loop-i-preserved c =
    let a = c.args.a in
    let l = c.loop-i in
    record {
      same = search rules;
      writing = pushed l.invariant.writing (rest_cons l.i a.items.now a.values.now a.parallel c.loop-i-test.true) (search rules) c.push-next.ensures.0;
    }

pub returns : goal.returns
returns c =
    let a = c.args.a in
    let l = c.loop-i in
    (stored l.invariant.writing (rest_done l.i a.items.now a.values.now c.loop-i-test.false), l.invariant.same)
