-- `run_memory::all_formed` meets its contract: slices of one length, and every slot answered yes, or one answered no. Assumes nothing.
use Rattle.std.proofs.Common.{rules, tests, ◌≡◌, true, false, sym, ◌∙◌}
use borrow.Author.Tests.{ne_eqb}
use Rattle.std.proofs.lemmas.Iterator.{cases_from_all, YieldsList-from_slice}
use Rattle.ink_value.specs.Value.{formed_in}
use Rattle.run_memory.proofs.Forming.{each_asked, uneven, even}
use Rattle.run_memory.proofs.all_formed.Goals as goal

pub returns-then-lists : goal.returns-then-lists
returns-then-lists c =
    let s = c.args.slots.now in
    let n = c.args.counts in
    let formed = formed_in n.items n.definitions s.lists.items.now s.lists.values.now in
    each_asked n.items n.definitions s.lists.items.now s.lists.values.now s.values c.all.result
    (cases_from_all _ _ c.all.result (λ v. formed v ≡ true) (λ v. formed v ≡ false) c.all.ensures.ran (YieldsList-from_slice s.values c.iter.ensures.rest)
    (λ x q k. search (rules, tests)) (λ x q k. search (rules, tests)))
    ∙ sym (even n.items n.definitions s.lists.items.now s.lists.values.now s.values c.if-lists.true)

pub returns-else-lists : goal.returns-else-lists
returns-else-lists c =
    let s = c.args.slots.now in
    let n = c.args.counts in
    ne_eqb _ _ c.if-lists.false ∙ sym (uneven n.items n.definitions s.lists.items.now s.lists.values.now s.values c.if-lists.false)
