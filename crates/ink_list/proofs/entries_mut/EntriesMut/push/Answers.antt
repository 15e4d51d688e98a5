-- `ink_list::entries_mut::EntriesMut::push` meets its contract: a store of one element is a fill with one. Assumes nothing.
use Rattle.std.proofs.Common.{refl, ap, ◌∙◌, arith, ℤ, slice_set, w32}
use Rattle.std.proofs.lemmas.Int.{to_z-of_z}
use Rattle.slices.proofs.Filled.{fill_one}
use Rattle.ink_list.proofs.entries_mut.EntriesMut.push.Goals as goal

pub returns : goal.returns
returns c =
    let a = c.args in
    let s = a.self.now in (
      record {
        next_is = refl;
        items_in = fill_one a.n s.items.now a.item (omega arith);
        values_in =
            ap (λ (z : ℤ). slice_set s.values.now a.n z) (to_z-of_z w32 a.value c.ranges.value)
            ∙ fill_one a.n s.values.now a.value (omega arith);
      },
      (refl, refl),
    )
