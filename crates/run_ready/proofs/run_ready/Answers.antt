-- `run_ready::run_ready` meets its contract: questions 6 and 7 in their order, and then the run, which leaves clear work slices as
-- they were. Assumes nothing.
use mathlib.Core.Path.{refl, sym, ◌∙◌}
use native.Mathlib.Omega.{arith}
use Rattle.run_memory.proofs.Opening.{runs_stopped, sheet_no, sheet_yes, slots_no, room_no, memory_yes, slots_formed, long_yes}
use Rattle.run_ready.proofs.Clearing.{clear_memory, runs_clear}
use Rattle.pack.proofs.Programs.{sheets_long}
use Rattle.machine.proofs.Whole.{opened_passed}
use Rattle.run_ready.proofs.run_ready.Goals as goal

pub returns-then-sheet_count-sheet : goal.returns-then-sheet_count-sheet
returns-then-sheet_count-sheet c =
    let a = c.args in
    let p = a.pack.bytes.now in
    let F = a.pack.format in
    let no = sheet_no F p a.sheet _ (omega (arith, c.sheet_count.ensures, c.if-sheet_count-sheet.true, sheets_long p F)) in
    record {
      runs_any = (rw c.from.ensures (runs_stopped _ 6 _ _ _ _ _ _ (opened_passed F p a.sheet _ _ c.requires.passed.0 ∙ no)), (refl, refl), (refl, refl));
      kept = (refl, refl, (refl, refl));
    }

pub returns-then-not-all_formed : goal.returns-then-not-all_formed
returns-then-not-all_formed c =
    let a = c.args in
    let p = a.pack.bytes.now in
    let F = a.pack.format in
    let n = c.counts.ensures in
    let yes = sheet_yes F p a.sheet _ (omega (arith, c.sheet_count.ensures, c.if-sheet_count-sheet.false, sheets_long p F)) in
    record {
      runs_any = (
        rw c.from-then-not-all_formed.ensures
            (runs_stopped _ 7 _ _ _ _ _ _ (opened_passed F p a.sheet _ _ c.requires.passed.0 ∙ yes ∙ slots_no a.pack.read n.definitions n.items _ _ _ _ _ _ _ (sym c.all_formed.ensures ∙ c.if-not-all_formed.true))),
        (refl, refl),
        (refl, refl),
      );
      kept = (refl, refl, (refl, refl));
    }

pub returns-then-not-long_enough : goal.returns-then-not-long_enough
returns-then-not-long_enough c =
    let a = c.args in
    let p = a.pack.bytes.now in
    let F = a.pack.format in
    let n = c.counts.ensures in
    let yes = sheet_yes F p a.sheet _ (omega (arith, c.sheet_count.ensures, c.if-sheet_count-sheet.false, sheets_long p F)) in
    record {
      runs_any = (
        rw c.from-then-not-long_enough.ensures
            (runs_stopped _ 7 _ _ _ _ _ _ (opened_passed F p a.sheet _ _ c.requires.passed.0 ∙ yes ∙ room_no a.pack.read n.definitions n.items _ _ _ _ _ _ _ (sym (rw (c.lists.ensures.items, c.lists.ensures.values, c.lists-2.ensures.items, c.lists-2.ensures.values) at c.long_enough.ensures) ∙ c.if-not-long_enough.true))),
        (refl, refl),
        (refl, refl),
      );
      kept = (refl, refl, (refl, refl));
    }

pub run_checked-requires : goal.run_checked-requires
run_checked-requires c =
    let a = c.args in
    let n = c.counts.ensures in
    record {
      sheet_bound = omega (arith, c.sheet_count.ensures, c.if-sheet_count-sheet.false);
      formed = slots_formed a.pack.read n.definitions n.items _ _ _ c.requires.passed.1.narrow (sym c.all_formed.ensures ∙ c.if-not-all_formed.false);
      memory = clear_memory a.pack.format c.requires.passed.1 _ _ _ _ c.requires.clear (long_yes a.pack.format _ _ _ _ (sym (rw (c.lists.ensures.items, c.lists.ensures.values, c.lists-2.ensures.items, c.lists-2.ensures.values) at c.long_enough.ensures) ∙ c.if-not-long_enough.false));
    }

pub returns : goal.returns
returns c =
    let a = c.args in
    let p = a.pack.bytes.now in
    let F = a.pack.format in
    let n = c.counts.ensures in
    let r = c.run_checked.ensures in
    let yes = sheet_yes F p a.sheet _ (omega (arith, c.sheet_count.ensures, c.if-sheet_count-sheet.false, sheets_long p F)) in
    let long = sym (rw (c.lists.ensures.items, c.lists.ensures.values, c.lists-2.ensures.items, c.lists-2.ensures.values) at c.long_enough.ensures) ∙ c.if-not-long_enough.false in
    record {
      runs_any = (
        runs_clear _ p _ _ _ _ _ _ _ _ _ _ _ c.requires.clear (long_yes F _ _ _ _ long)
            (opened_passed F p a.sheet _ _ c.requires.passed.0 ∙ yes ∙ memory_yes a.pack.read n.definitions n.items _ _ _ _ _ _ _ (sym c.all_formed.ensures ∙ c.if-not-all_formed.false) long)
            r.ran_in.0 r.kept.0 r.kept.1,
        r.kept.2,
        r.ran_in.1,
      );
      kept = r.kept;
    }
