-- `list_merge::union` meets its contract: what is left of the answer is the union of what is left of the two. Assumes nothing.
use Rattle.std.proofs.Common.{◌≡◌, ◌⊎◌, [], refl, arith, rules, inl, inr}
use Rattle.ink_list.specs.Entries.{Rising}
use Rattle.ink_list.specs.Lists.{list_of, places}
use Rattle.ink_list.proofs.Rests.{rest, rest_cons, rest_done, items_entries, length_entries}
use Rattle.ink_list.proofs.UnionLaws.{union_limit}
use Rattle.list_merge.proofs.Merging.{start, less_room, same_room, more_room, less_pushed, same_pushed, more_pushed, left_room, right_room, merged}
use Rattle.list_merge.proofs.union.Goals.{Left-loop-i, then-loop-i-test+else-j-b, else-loop-i-test}
use Rattle.list_merge.proofs.union.Goals as goal

pub loop-i-init : goal.loop-i-init
loop-i-init c =
    let a = c.args.a in
    let b = c.args.b in
    record {
      inside = search rules;
      same = (refl, refl);
      merging = start (rw (items_entries _ _ a.parallel) c.requires.rising_a) (rw (items_entries _ _ b.parallel) c.requires.rising_b);
    }

pub push-n-requires : goal.push-n-requires
push-n-requires c =
    let l = c.loop-i in
    less_room l.invariant.merging
    (rest_cons l.i _ _ c.args.a.parallel c.loop-i-test.true) (rest_cons l.j _ _ c.args.b.parallel c.if-j-b.true)
    c.if-x-y.true

pub push-n-requires-then-x-y-2 : goal.push-n-requires-then-x-y-2
push-n-requires-then-x-y-2 c =
    let l = c.loop-i in
    same_room l.invariant.merging
    (rest_cons l.i _ _ c.args.a.parallel c.loop-i-test.true) (rest_cons l.j _ _ c.args.b.parallel c.if-j-b.true)
    c.if-x-y-2.true

pub push-n-requires-else-x-y-2 : goal.push-n-requires-else-x-y-2
push-n-requires-else-x-y-2 c =
    let l = c.loop-i in
    more_room l.invariant.merging
    (rest_cons l.i _ _ c.args.a.parallel c.loop-i-test.true) (rest_cons l.j _ _ c.args.b.parallel c.if-j-b.true)
    (omega (arith, c.if-x-y.false, c.if-x-y-2.false))

pub loop-i-preserved-then-x-y : goal.loop-i-preserved-then-x-y
loop-i-preserved-then-x-y c =
    let l = c.loop-i in
    record {
      inside = search rules;
      same = search rules;
      merging =
          less_pushed l.invariant.merging
          (rest_cons l.i _ _ c.args.a.parallel c.loop-i-test.true) (rest_cons l.j _ _ c.args.b.parallel c.if-j-b.true)
          c.if-x-y.true (search rules) c.push-n.ensures.0;
    }

pub loop-i-preserved-then-x-y-2 : goal.loop-i-preserved-then-x-y-2
loop-i-preserved-then-x-y-2 c =
    let l = c.loop-i in
    record {
      inside = search rules;
      same = search rules;
      merging =
          same_pushed l.invariant.merging
          (rest_cons l.i _ _ c.args.a.parallel c.loop-i-test.true) (rest_cons l.j _ _ c.args.b.parallel c.if-j-b.true)
          c.if-x-y-2.true (search rules) c.push-n-then-x-y-2.ensures.0;
    }

pub loop-i-preserved : goal.loop-i-preserved
loop-i-preserved c =
    let l = c.loop-i in
    record {
      inside = search rules;
      same = search rules;
      merging =
          more_pushed l.invariant.merging
          (rest_cons l.i _ _ c.args.a.parallel c.loop-i-test.true) (rest_cons l.j _ _ c.args.b.parallel c.if-j-b.true)
          (omega (arith, c.if-x-y.false, c.if-x-y-2.false)) (search rules) c.push-n-else-x-y-2.ensures.0;
    }

-- after the loop one of the two is used up
used : (c : Left-loop-i) → (rest c.loop-i.i c.args.a.items.now c.args.a.values.now ≡ []) ⊎ (rest c.loop-i.j c.args.b.items.now c.args.b.values.now ≡ [])
used c =
    elim c.loop-i-test.branch [
      | then-loop-i-test+else-j-b w ↦ inr (rest_done _ _ _ w.if-j-b.false)
      | else-loop-i-test w ↦ inl (rest_done _ _ _ w.loop-i-test.false)
    ]

pub append-n-requires : goal.append-n-requires
append-n-requires c =
    let t = c.from.result in
    let r = left_room c.loop-i.invariant.merging (used (goal.at.append-n-requires c).Left-loop-i) in
    rw (← c.from.ensures.items, ← c.from.ensures.values, length_entries t.items.now t.values.now t.parallel) at r

pub append-requires : goal.append-requires
append-requires c =
    let t = c.from-2.result in
    let p = rw (c.from.ensures.items, c.from.ensures.values) at c.append-n.ensures.0 in
    let r = right_room c.loop-i.invariant.merging (used (goal.at.append-requires c).Left-loop-i) p in
    rw (← c.from-2.ensures.items, ← c.from-2.ensures.values, length_entries t.items.now t.values.now t.parallel) at r

pub returns : goal.returns
returns c =
    let p = rw (c.from.ensures.items, c.from.ensures.values) at c.append-n.ensures.0 in
    let q = rw (c.from-2.ensures.items, c.from-2.ensures.values) at c.append.ensures.0 in
    let w = merged c.loop-i.invariant.merging (used (goal.at.returns c).Left-loop-i) p q in
    let a = c.args.a in
    let b = c.args.b in
    let ra : Rising (places c.args.out.now) (list_of a) = rw (items_entries _ _ a.parallel) c.requires.rising_a in
    let rb : Rising (places c.args.out.now) (list_of b) = rw (items_entries _ _ b.parallel) c.requires.rising_b in
    λ limit al bl. (rw (← union_limit (places c.args.out.now) limit (list_of a) (list_of b) ra rb al bl) w, search rules)
