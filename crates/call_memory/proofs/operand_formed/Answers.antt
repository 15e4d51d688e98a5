-- `call_memory::operand_formed` meets its contract: the two counts are those of the pack's definitions. Assumes nothing.
use mathlib.Core.Path.{sym, ◌∙◌}
use mathlib.Core.List.{◌∷◌, []}
use Prim.Native.Nat.{ℕ}
use Rattle.ink_value.specs.Value.{all_formed}
use Rattle.slices.proofs.Lists.{ap2}
use Rattle.pack.proofs.Values.{pack_tables}
use Rattle.call_memory.proofs.operand_formed.Goals as goal

pub returns : goal.returns
returns c =
    let t = pack_tables _ _ c.args.pack.narrow c.args.pack.sound in
    c.one_formed.ensures ∙ ap2 (λ (m n : ℕ). all_formed m n c.args.lists.items.now c.args.lists.values.now (c.args.v ∷ [])) (c.total_items-items.ensures.0 ∙ sym t.defined_long) (c.byte_at-definitions.ensures.0 ∙ sym t.ends_long)
