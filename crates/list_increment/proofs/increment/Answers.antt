-- `list_increment::increment` meets its contract: what is left to store are the targets from the first item of the definition at place
-- end-index on, those of the entries that are left. Assumes nothing.
use Rattle.std.proofs.Common.{◌≡◌, ◌-◌, ◌∙◌, length, take, drop, [], ℤ, List, refl, sym, subst, arith, w32, length-drop}
use Rattle.std.proofs.Math.Seq.{length-take-le}
use Rattle.ink_number.proofs.Signed.{back, back32}
use Rattle.ink_list.specs.Entries.{item_numbers, Entry, entries, Wrote, RisingFrom}
use Rattle.ink_list.specs.Steps.{drop_below}
use Rattle.ink_list.proofs.Rests.{of_lent}
use Rattle.ink_list.proofs.Output.{begin, appended, turn, kept, done}
use Rattle.list_definitions.specs.Defs.{retarget, increment}
use Rattle.list_definitions.specs.Search.{raised}
use Rattle.list_definitions.proofs.Raised.{length_raised, raised_entries}
use Rattle.list_definitions.proofs.OriginLaws.{shorter}
use Rattle.list_definitions.proofs.DefLaws.{ends_turn, ends_done, onward_end}
use Rattle.list_definitions.proofs.IncrementSearch.{chosen_length}
use Rattle.list_definitions.proofs.TargetLaws.{retarget_length, retarget_start, rising_on, step_out, step_in}
use Rattle.list_increment.proofs.increment.Goals as goal
use Rattle.list_increment.proofs.increment.Goals.{then-chosen, else-chosen}

pub loop-end-init : goal.loop-end-init
loop-end-init c =
    let a = c.args in
    let d = a.definitions in
    let R = raised (back w32 a.by) a.a.values.now in
    let h = retarget_length d.ends.now d.defined.now a.set (entries a.a.items.now R) in
    record {
      few = omega arith;
      numbered = d.tables.numbered;
      rising = of_lent item_numbers a.a.items.now R (record { long = a.a.parallel ∙ sym (length_raised (back w32 a.by) a.a.values.now); rising = c.requires.ascends });
      same = (refl, refl);
      writing = turn (begin (omega arith)) (retarget_start d.ends.now d.defined.now a.set (entries a.a.items.now R));
    }

pub overflow_sub-passed : goal.overflow_sub-passed
overflow_sub-passed c = rw (c.skip_below.ensures, c.len.ensures) (shorter _ _)

pub slice_bounds-definition-end : goal.slice_bounds-definition-end
slice_bounds-definition-end c =
    let d = c.args.definitions in
    let l = c.loop-end in
    let t = ends_turn d.ends.now l.end-index c.loop-end-test.true l.low _ l.invariant.numbered _ c.from-low.ensures in
    t.1

pub retarget-n-requires : goal.retarget-n-requires
retarget-n-requires c =
    let d = c.args.definitions in
    let l = c.loop-end in
    let t = ends_turn d.ends.now l.end-index c.loop-end-test.true l.low _ l.invariant.numbered _ c.from-low.ensures in
    let k = kept l.invariant.writing in
    let e = length-take-le (c.from-low.result - l.low) (drop l.low d.defined.now) (omega (arith, length-drop l.low d.defined.now)) in
    omega arith

pub loop-end-preserved : goal.loop-end-preserved
loop-end-preserved c =
    let a = c.args in
    let d = a.definitions in
    let l = c.loop-end in
    let i = l.invariant in
    let t = ends_turn d.ends.now l.end-index c.loop-end-test.true l.low _ i.numbered _ c.from-low.ensures in
    let is = l.left.items.now in
    let vs = l.left.values.now in
    let m = c.len.result - length c.skip_below.result.now in
    let skip : m ≡ length is - length (drop_below c.from-low.result is) = rw (c.len.ensures, c.skip_below.ensures, c.from-low.ensures) refl in
    let rising : RisingFrom c.from-low.result item_numbers (entries c.from-left.result.items.now (raised (back w32 a.by) c.from-left.result.values.now)) =
    rw (c.from-left.ensures.items, c.from-left.ensures.values)
    (rising_on item_numbers is vs l.left.parallel (back w32 a.by) d.ends.now d.defined.now l.end-index l.low l.s m c.loop-end-test.true i.numbered i.rising _ c.from-low.ensures skip) in
    elim c.if-chosen.branch [
      | then-chosen w ↦ record {
        few =
            let p = chosen_length l.low [] (take (c.from-low.result - l.low) (drop l.low d.defined.now)) (raised (back w32 a.by) (take m vs)) in
            let e = length-take-le (c.from-low.result - l.low) (drop l.low d.defined.now) (omega (arith, length-drop l.low d.defined.now)) in
            omega (arith, w.n-is, w.retarget-n.ensures.0.next_is);
        numbered = t.2;
        rising = rising;
        same = rw w.out-is (w.retarget-n.ensures.1.0 ∙ i.same.0, w.retarget-n.ensures.1.1 ∙ i.same.1);
        writing =
            let h = step_in item_numbers is vs l.left.parallel (back w32 a.by) d.ends.now d.defined.now l.end-index l.low l.s m c.loop-end-test.true i.numbered i.rising _ c.from-low.ensures skip w.if-chosen.true in
            rw (w.out-is, w.n-is, c.from-left.ensures.items, c.from-left.ensures.values) (appended i.writing h w.retarget-n.ensures.0);
      }
      | else-chosen w ↦ record {
        few = rw w.n-is (omega arith);
        numbered = t.2;
        rising = rising;
        same = rw w.out-is i.same;
        writing =
            let h = step_out item_numbers is vs l.left.parallel (back w32 a.by) d.ends.now d.defined.now l.end-index l.low l.s m c.loop-end-test.true i.numbered i.rising _ c.from-low.ensures skip w.if-chosen.false in
            rw (w.out-is, w.n-is, c.from-left.ensures.items, c.from-left.ensures.values) (turn i.writing h);
      }
    ]

pub returns : goal.returns
returns c =
    let a = c.args in
    let d = a.definitions in
    let l = c.loop-end in
    let e = ends_done l.low (length d.defined.now) l.end-index d.ends.now l.invariant.numbered c.loop-end-test.false in (
      subst (λ (z : ℤ). Wrote (increment d.ends.now d.defined.now a.set z (entries a.a.items.now a.a.values.now)) l.n a.out.now.items.now l.out.items.now a.out.now.values.now l.out.values.now) (back32 a.by c.ranges.by)
          (subst (λ (x : List Entry). Wrote (retarget d.ends.now d.defined.now a.set x) l.n a.out.now.items.now l.out.items.now a.out.now.values.now l.out.values.now) (raised_entries (back w32 a.by) a.a.items.now a.a.values.now)
          (done l.invariant.writing (onward_end l.low (length d.defined.now) _ (omega arith)))),
      l.invariant.same,
    )
