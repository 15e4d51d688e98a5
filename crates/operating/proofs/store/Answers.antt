-- `operating::store` meets its contract: a list's entries copied, and any other value as it is. Assumes nothing.
use mathlib.Core.Path.{refl}
use Rattle.slices.proofs.Lists.{ap2}
use Rattle.ink_list.specs.Entries.{entries}
use Rattle.operating.proofs.Putting.{put_plain, put_copied}
use Rattle.operating.proofs.store.Goals as goal

pub returns-in-List : goal.returns-in-List
returns-in-List c =
    let a = c.args in
    let l = c.in-List in (
      λ F f. rw l.is (put_copied F a.lists.items.now a.lists.values.now l.origins l.start l.len (rw l.is at f) a.to (ap2 entries c.entries_of.ensures.items c.entries_of.ensures.values) c.append.result c.append.ensures.0),
      c.append.ensures.1,
    )

pub returns-in_default : goal.returns-in_default
returns-in_default c = (λ F f. put_plain _ _ _ _ _ _ c.in_default.not-List, (refl, refl))
