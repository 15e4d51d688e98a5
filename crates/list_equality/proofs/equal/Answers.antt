-- `list_equality::equal` meets its contract: lists of the same items are equal, item by item. Assumes nothing.
use Rattle.std.proofs.lemmas.Bool.Decides.{Decides-eqb}
use Rattle.std.proofs.lemmas.Slice.Eq.{slice_eq-Decides}
use Rattle.ink_list.proofs.EqualLaws.{equal_decided}
use Rattle.list_equality.proofs.equal.Goals as goal

pub returns : goal.returns
returns c =
    let p = c.requires in
    equal_decided _ _ _ p.rising_a p.rising_b c.eq.result (slice_eq-Decides Decides-eqb _ _ _ c.eq.ensures)
