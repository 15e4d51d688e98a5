-- `list_definitions::invert` meets its contract: what is left to store are the items from `low` on that a has not, in the definitions from
-- place end-index on, whose set is s. Assumes nothing.
use Rattle.std.proofs.Common.{refl, ◌∙◌, arith, length, length-append}
use Rattle.ink_list.specs.Entries.{Entry}
use Rattle.ink_list.proofs.Output.{begin, fits, turn, appended, done}
use Rattle.list_definitions.proofs.DefLaws.{onward_end, ends_done, ends_turn, def_in, def_out, invert_length, invert_start}
use Rattle.list_definitions.proofs.invert.Goals as goal
use Rattle.list_definitions.proofs.invert.Goals.{then-chosen, else-chosen}

pub loop-end-init : goal.loop-end-init
loop-end-init c =
    let a = c.args in
    let d = a.definitions in
    let h = invert_length d.ends.now d.defined.now a.set a.a.now in
    record {
      ascends = c.requires.ascends;
      agrees = λ j h. refl;
      numbered = d.tables.numbered;
      same = (refl, refl);
      writing = turn (begin (omega arith)) (invert_start d.ends.now d.defined.now a.set a.a.now);
    }

pub push_missing-requires-clause-range : goal.push_missing-requires-clause-range
push_missing-requires-clause-range c =
    let d = c.args.definitions in
    let l = c.loop-end in
    let t = ends_turn d.ends.now l.end-index c.loop-end-test.true l.low _ l.invariant.numbered _ c.from-low.ensures in
    let p = d.tables.few in
    (omega arith, t.1, p)

pub push_missing-requires-clause-room : goal.push_missing-requires-clause-room
push_missing-requires-clause-room c =
    let a = c.args in
    let d = a.definitions in
    let l = c.loop-end in
    let i = l.invariant in
    let h = def_in d.defined.now d.ends.now l.end-index c.loop-end-test.true l.s a.a.now l.low _ i.numbered _ c.from-low.ensures l.left.now c.if-chosen.true i.agrees in
    omega (arith, fits (turn i.writing h), length-append {A = Entry})

pub loop-end-preserved : goal.loop-end-preserved
loop-end-preserved c =
    let a = c.args in
    let d = a.definitions in
    let l = c.loop-end in
    let i = l.invariant in
    let t = ends_turn d.ends.now l.end-index c.loop-end-test.true l.low _ i.numbered _ c.from-low.ensures in
    elim c.if-chosen.branch [
      | then-chosen w ↦ record {
        ascends = rw w.left-is w.push_missing.ensures.left.0;
        agrees = λ j h. rw w.left-is (w.push_missing.ensures.left.1 j h ∙ i.agrees j (omega arith));
        numbered = t.2;
        same = rw w.out-is (w.push_missing.ensures.entries.1.0 ∙ i.same.0, w.push_missing.ensures.entries.1.1 ∙ i.same.1);
        writing =
            let h = def_in d.defined.now d.ends.now l.end-index c.loop-end-test.true l.s a.a.now l.low _ i.numbered _ c.from-low.ensures l.left.now w.if-chosen.true i.agrees in
            rw (w.out-is, w.n-is) (appended i.writing h w.push_missing.ensures.entries.0);
      }
      | else-chosen w ↦ record {
        ascends = rw w.left-is i.ascends;
        agrees = λ j h. rw w.left-is (i.agrees j (omega arith));
        numbered = t.2;
        same = rw w.out-is i.same;
        writing =
            let h = def_out d.defined.now d.ends.now l.end-index c.loop-end-test.true l.s a.a.now l.low _ i.numbered _ c.from-low.ensures w.if-chosen.false in
            rw (w.out-is, w.n-is) (turn i.writing h);
      }
    ]

pub returns : goal.returns
returns c =
    let d = c.args.definitions in
    let l = c.loop-end in
    let i = l.invariant in
    let e = ends_done l.low (length d.defined.now) l.end-index d.ends.now i.numbered c.loop-end-test.false in
    (done i.writing (onward_end l.low (length d.defined.now) _ (omega arith)), i.same)
