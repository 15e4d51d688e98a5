-- `run_sheet::run_sheet` meets its contract: question 7; the work slices are cleared, and the inner run leaves them so. Assumes nothing.
use mathlib.Core.Path.{refl, sym, ◌∙◌}
use native.Mathlib.Omega.{arith}
use Rattle.run_memory.proofs.Opening.{runs_stopped, runs_given, slots_no, room_no, memory_yes, slots_formed, long_yes, zeroed_memory}
use Rattle.run_sheet.proofs.run_sheet.Goals as goal

pub returns-then-not-all_formed : goal.returns-then-not-all_formed
returns-then-not-all_formed c =
    let n = c.counts.ensures in
    (rw c.from.ensures (runs_stopped _ 7 _ _ _ _ _ _ (slots_no c.args.pack.read n.definitions n.items _ _ _ _ _ _ _ (sym c.all_formed.ensures ∙ c.if-not-all_formed.true))), (refl, refl), (refl, refl))

pub returns-then-not-long_enough : goal.returns-then-not-long_enough
returns-then-not-long_enough c =
    let n = c.counts.ensures in
    (rw c.from-then-not-long_enough.ensures (runs_stopped _ 7 _ _ _ _ _ _ (room_no c.args.pack.read n.definitions n.items _ _ _ _ _ _ _ (sym (rw (c.lists.ensures.items, c.lists.ensures.values, c.lists-2.ensures.items, c.lists-2.ensures.values) at c.long_enough.ensures) ∙ c.if-not-long_enough.true))), (refl, refl), (refl, refl))

pub zero-requires : goal.zero-requires
zero-requires c =
    let g = long_yes c.args.pack.format _ _ _ _ (sym (rw (c.lists.ensures.items, c.lists.ensures.values, c.lists-2.ensures.items, c.lists-2.ensures.values) at c.long_enough.ensures) ∙ c.if-not-long_enough.false) in
    omega (arith, g.work_items, g.work_values)

pub run_checked-requires : goal.run_checked-requires
run_checked-requires c =
    let n = c.counts.ensures in
    let g = long_yes c.args.pack.format _ _ _ _ (sym (rw (c.lists.ensures.items, c.lists.ensures.values, c.lists-2.ensures.items, c.lists-2.ensures.values) at c.long_enough.ensures) ∙ c.if-not-long_enough.false) in
    record {
      sheet_bound = c.requires.0;
      formed = slots_formed c.args.pack.read n.definitions n.items _ _ _ c.requires.1.narrow (sym c.all_formed.ensures ∙ c.if-not-all_formed.false);
      memory = zeroed_memory c.args.pack.format c.requires.1 _ _ _ _ _ _ g c.zero.ensures.0 c.zero.ensures.1;
    }

pub returns : goal.returns
returns c =
    let n = c.counts.ensures in
    let r = c.run_checked.ensures in
    let z = c.zero.ensures in (
      runs_given _ c.args.pack.bytes.now _ _ _ _ _ _ _ _ _ _ _
          (memory_yes c.args.pack.read n.definitions n.items _ _ _ _ _ _ _ (sym c.all_formed.ensures ∙ c.if-not-all_formed.false) (sym (rw (c.lists.ensures.items, c.lists.ensures.values, c.lists-2.ensures.items, c.lists-2.ensures.values) at c.long_enough.ensures) ∙ c.if-not-long_enough.false))
          r.ran_in.0 (r.kept.0 ∙ z.0) (r.kept.1 ∙ z.1),
      (r.kept.2.0 ∙ z.2.0, r.kept.2.1 ∙ z.2.1),
      r.ran_in.1,
    )
