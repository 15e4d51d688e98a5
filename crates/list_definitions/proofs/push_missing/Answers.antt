-- `list_definitions::push_missing` meets its contract: what is left to store are the items from k on that a has not, and those are the
-- ones that what is left of a has not. Assumes nothing.
use Rattle.std.proofs.Common.{refl, sym, ◌∙◌, arith}
use Rattle.ink_list.specs.Entries.{item_numbers}
use Rattle.ink_list.proofs.Output.{begin, has_room, turn, pushed}
use Rattle.list_definitions.proofs.DefLaws.{still_rising, still_same, item_held, item_missing}
use Rattle.list_definitions.proofs.push_missing.Goals as goal
use Rattle.list_definitions.proofs.push_missing.Goals.{then-not-stands, else-not-stands}

pub loop-k-init : goal.loop-k-init
loop-k-init c =
    record { ascends = c.requires.ascends; agrees = λ j h. refl; same = (refl, refl); writing = begin c.requires.room }

pub push-n-requires : goal.push-n-requires
push-n-requires c =
    let i = c.loop-k.invariant in
    has_room i.writing
    (item_missing _ _ _ _ _ c.loop-k-test.true item_numbers i.ascends i.agrees _ c.skip_below-left.ensures (sym c.stands.ensures ∙ c.if-not-stands.true))

pub loop-k-preserved : goal.loop-k-preserved
loop-k-preserved c =
    let a = c.args in
    let l = c.loop-k in
    let i = l.invariant in
    let t = c.loop-k-test.true in
    let e = c.skip_below-left.ensures in
    elim c.if-not-stands.branch [
      | then-not-stands w ↦ record {
        ascends = still_rising a.defined.now a.a.now l.left.now l.k a.end t item_numbers i.ascends i.agrees _ e;
        agrees = still_same a.defined.now a.a.now l.left.now l.k a.end t item_numbers i.ascends i.agrees _ e;
        same = rw w.out-is (w.push-n.ensures.1.0 ∙ i.same.0, w.push-n.ensures.1.1 ∙ i.same.1);
        writing =
            let h = item_missing a.defined.now a.a.now l.left.now l.k a.end t item_numbers i.ascends i.agrees _ e (sym c.stands.ensures ∙ w.if-not-stands.true) in
            rw (w.out-is, w.n-is) (pushed i.writing h (omega arith) w.push-n.ensures.0);
      }
      | else-not-stands w ↦ record {
        ascends = still_rising a.defined.now a.a.now l.left.now l.k a.end t item_numbers i.ascends i.agrees _ e;
        agrees = still_same a.defined.now a.a.now l.left.now l.k a.end t item_numbers i.ascends i.agrees _ e;
        same = rw w.out-is i.same;
        writing =
            let h = item_held a.defined.now a.a.now l.left.now l.k a.end t item_numbers i.ascends i.agrees _ e (sym c.stands.ensures ∙ w.if-not-stands.false) in
            rw (w.out-is, w.n-is) (turn i.writing h);
      }
    ]
