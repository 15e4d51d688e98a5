-- `list_sift::without` meets its contract: the items that match are not b's. Assumes nothing.
use Rattle.std.proofs.Common.{false}
use Rattle.std.specs.Bool.{beq}
use Rattle.ink_list.specs.Entries.{member}
use Rattle.ink_list.specs.Lists.{list_of}
use Rattle.ink_list.proofs.SiftLaws.{sift_ext, beq_false}
use Rattle.list_sift.proofs.without.Goals as goal

pub returns : goal.returns
returns c =
    let a = c.args in
    λ limit ra.
    rw (← sift_ext limit 0 (λ e. beq (member a.b.now e.0) false) _ (list_of a.a) ra (λ k v h. beq_false (member a.b.now k)))
    (c.matching.ensures limit ra)
