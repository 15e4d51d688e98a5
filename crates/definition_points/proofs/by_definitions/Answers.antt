-- `definition_points::by_definitions` is safe: what it tests is what it calls for. Assumes nothing.
use Rattle.std.proofs.Common.{sym, ◌∙◌, arith}
use Rattle.ink_list.specs.Entries.{item_numbers}
use Rattle.ink_list.proofs.Formed.{formed_sound}
use Rattle.ink_list.proofs.Wrote.{ascends_limit}
use Rattle.definition_points.proofs.by_definitions.Goals as goal

pub invariant_of-a : goal.invariant_of-a
invariant_of-a c = record { parallel = (formed_sound _ _ _ _ _ (sym c.is_formed.ensures ∙ c.if-not-is_formed.false)).0.long }

pub answers-requires-clause-ascends : goal.answers-requires-clause-ascends
answers-requires-clause-ascends c =
    ascends_limit 0 _ item_numbers _ (omega (arith, c.in-Some.definitions.tables.few))
    (formed_sound _ _ _ _ _ (sym c.is_formed.ensures ∙ c.if-not-is_formed.false)).0.rising
