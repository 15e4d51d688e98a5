-- What is lent to a call: as it was at entry, and as it is at exit. Assumes nothing.
use Rattle.std.specs.Prelude.{List}
use Rattle.std.specs.Borrow.{Bor, MutBor}
use denote.Triple.Both.{Both}

-- a slice that is read
abbrev pub Slice : Type 0 → Type 0
Slice A = Both (Bor (List A)) (Bor (List A))

-- a slice that is written
abbrev pub MutSlice : Type 0 → Type 0
MutSlice A = Both (MutBor (List A)) (MutBor (List A))

-- one value that is written
abbrev pub Cell : Type 0 → Type 0
Cell A = Both (MutBor A) (MutBor A)
