-- `run_checked::run_checked` meets its contract: the work, the result stored, and what was used cleared. Assumes nothing.
use mathlib.Core.Path.{◌∙◌}
use native.Mathlib.Omega.{arith}
use Rattle.ink_list.specs.Entries.{item_numbers}
use Rattle.ink_value.proofs.Reading.{few_in, formed_limit}
use Rattle.run_checked.proofs.Ending.{ran_value, same_run, items_back, values_back}
use Rattle.run_checked.proofs.run_checked.Goals as goal

pub store-last-requires : goal.store-last-requires
store-last-requires c =
    let m = c.requires.memory in
    let f = rw c.in-Ok.is at c.work-ran.ensures.0.end_formed in
    let n = few_in c.args.pack.format.limit _ _ c.in-Ok.v f in
    record {
      formed = rw (c.lists.ensures.items, c.lists.ensures.values) (formed_limit c.args.pack.format.limit _ _ item_numbers c.in-Ok.v (omega (arith, m.format.few)) f);
      room = omega (arith, n, m.result_items, m.result_values);
    }

pub returns-in-Ok : goal.returns-in-Ok
returns-in-Ok c =
    let w = c.work-ran.ensures.0 in
    let e = rw c.in-Ok.is at w.end_is in
    let f = rw c.in-Ok.is at w.end_formed in
    let s = rw (c.lists.ensures.items, c.lists.ensures.values) at c.store-last.ensures.0 c.args.pack.format in
    record {
      ran_in = (ran_value _ _ _ _ _ _ _ (e ∙ same_run _ _ _ _ _ c.args.pack.read c.args.sheet _) (s f), c.store-last.ensures.1);
      kept = (
        c.clear.ensures.0 ∙ items_back _ _ _ _ _ _ _ _ _ c.requires.memory w,
        c.clear.ensures.1 ∙ values_back _ _ _ _ _ _ _ _ _ c.requires.memory w,
        (c.clear.ensures.2.0 ∙ c.work-ran.ensures.1.0, c.clear.ensures.2.1 ∙ c.work-ran.ensures.1.1),
      );
    }

pub returns-in-Err-clause-kept : goal.returns-in-Err-clause-kept
returns-in-Err-clause-kept c =
    let w = c.work-ran.ensures.0 in
    let k = c.clear-in-Err.ensures in (
      k.0 ∙ items_back _ _ _ _ _ _ _ _ _ c.requires.memory w,
      k.1 ∙ values_back _ _ _ _ _ _ _ _ _ c.requires.memory w,
      (k.2.0 ∙ c.work-ran.ensures.1.0, k.2.1 ∙ c.work-ran.ensures.1.1),
    )
