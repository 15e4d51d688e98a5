-- `list_definitions::origins_of` meets its contract: the bits of the definitions before d are set, and those from d on are the origins of
-- the items that are left. Assumes nothing.
use Rattle.std.proofs.Common.{ℕ, ap, ◌∙◌, ◌+◌, arith}
use Rattle.ink_list.specs.Entries.{item_numbers}
use Rattle.list_definitions.proofs.OriginLaws.{origin_yes, origin_no, one_bit, bits_grow}
use Rattle.list_definitions.proofs.DefLaws.{below_ascends}
use Rattle.list_definitions.proofs.origins_of.Goals as goal
use Rattle.list_definitions.proofs.origins_of.Goals.{then-rest-left, else-rest-left}

pub loop-d-preserved : goal.loop-d-preserved
loop-d-preserved c =
    let a = c.args in
    let l = c.loop-d in
    let i = l.invariant in
    let one = one_bit l.d (omega arith) in
    elim c.if-rest-left.branch [
      | then-rest-left w ↦ record {
        ascends = rw (w.left-is, c.skip_below-rest.ensures) (below_ascends _ 0 item_numbers l.left.now i.ascends);
        below = rw (w.set-is ∙ ap (λ (n : ℕ). l.set + n) one) (bits_grow l.set l.d i.below).1;
        whole =
            i.whole
            ∙ origin_yes item_numbers l.left.now a.ends.now i.ascends l.d c.loop-d-test.true _ c.skip_below-rest.ensures l.set w.if-rest-left.true
            ∙ rw (w.set-is ∙ ap (λ (n : ℕ). l.set + n) one, w.left-is);
      }
      | else-rest-left w ↦ record {
        ascends = rw (w.left-is, c.skip_below-rest.ensures) (below_ascends _ 0 item_numbers l.left.now i.ascends);
        below = rw w.set-is (bits_grow l.set l.d i.below).0;
        whole =
            i.whole
            ∙ origin_no item_numbers l.left.now a.ends.now i.ascends l.d c.loop-d-test.true _ c.skip_below-rest.ensures l.set w.if-rest-left.false
            ∙ rw (w.set-is, w.left-is);
      }
    ]
