-- `list_sift::intersect` meets its contract: the items that match are b's. Assumes nothing.
use Rattle.std.proofs.Common.{true}
use Rattle.std.specs.Bool.{beq}
use Rattle.ink_list.specs.Entries.{member}
use Rattle.ink_list.specs.Lists.{list_of}
use Rattle.ink_list.proofs.SiftLaws.{sift_ext, beq_true}
use Rattle.list_sift.proofs.intersect.Goals as goal

pub returns : goal.returns
returns c =
    let a = c.args in
    λ limit ra.
    rw (← sift_ext limit 0 (λ e. beq (member a.b.now e.0) true) _ (list_of a.a) ra (λ k v h. beq_true (member a.b.now k)))
    (c.matching.ensures limit ra)
