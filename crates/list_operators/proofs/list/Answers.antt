-- `list_operators::list` meets its contract: the entries, and the origin set that goes with them. Assumes nothing.
use mathlib.Core.Path.{ap}
use Prim.Native.Nat.{ℕ}
use native.Mathlib.Omega.{arith}
use Rattle.std.proofs.Common.{length-take}
use Rattle.ink_value.specs.Value.{first_of}
use Rattle.ink_value.proofs.ReadBack.{first_wf}
use Rattle.ink_value.specs.declared.Value.TheVariants as Is
use Rattle.list_operators.specs.Lists.{definitions_of}
use Rattle.list_operators.proofs.Listing.{written, rises, makes}
use Rattle.op.specs.Op.{op_number}
use Rattle.list_operators.proofs.list.Goals as goal

pub first_items-items-requires : goal.first_items-items-requires
first_items-items-requires c =
    let e = written (definitions_of c.args.pack) (op_number c.args.op) _ c.entries_for-len.ensures.0 in
    omega (arith, e, length-take {A = ℕ})

pub origins_after-origins-requires : goal.origins_after-origins-requires
origins_after-origins-requires c =
    let a = c.args in (
      rw c.first_items-items.ensures
          (rises (definitions_of a.pack) a.pack.bounded.within (op_number a.op) (first_of a.lists.items.now a.lists.values.now a.operands.count a.operands.first a.operands.second a.operands.third)
          (first_wf a.pack.limit a.lists.items.now a.lists.values.now a.operands.count a.operands.first a.operands.second a.operands.third c.requires.formed) c.entries_for-len.ensures.0 a.pack.bounded.small),
      a.pack.bounded.few,
    )

pub returns : goal.returns
returns c =
    let a = c.args in (
      makes (definitions_of a.pack) a.pack.bounded.within (op_number a.op) (first_of a.lists.items.now a.lists.values.now a.operands.count a.operands.first a.operands.second a.operands.third)
          (first_wf a.pack.limit a.lists.items.now a.lists.values.now a.operands.count a.operands.first a.operands.second a.operands.third c.requires.formed) c.entries_for-len.ensures.0 _
          (ap (λ (o : ℕ). Is.List o 0 c.entries_for-len.result)
          (rw c.first_items-items.ensures at (c.origins_after-origins.ensures a.lists.items.now a.lists.values.now a.operands.third))),
      c.entries_for-len.ensures.1,
    )
