-- Each answer is well formed. Assumes nothing.
use mathlib.Core.List.{List}
use Prim.Native.Nat.{ℕ}
use lib.IntN.{ℤ}
use lib.ListN.{length}
use Rattle.ink_list.specs.Entries.{Entry, Rising}
use Rattle.ink_list.proofs.Laws.{gather_rising}
use Rattle.list_definitions.specs.Defs.{invert, retarget, unheld, target}

pub invert_rising : (ends : List ℕ) (defined : List ℤ) (set : ℕ) (is : List ℕ) → Rising (length defined) (invert ends defined set is)
unfolding invert
invert_rising ends defined set is = gather_rising (length defined) (unheld ends defined set is)

pub retarget_rising : (ends : List ℕ) (defined : List ℤ) (set : ℕ) (a : List Entry) → Rising (length defined) (retarget ends defined set a)
unfolding retarget
retarget_rising ends defined set a = gather_rising (length defined) (target ends defined set a)
