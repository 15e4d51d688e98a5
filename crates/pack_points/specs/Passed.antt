-- A pack that is shown has passed. Assumes nothing.
use Rattle.std.specs.Prelude.{List, ℕ}
use Rattle.pack.specs.Format.{format1}
use Rattle.pack.specs.Judge.{Sound}

abbrev pub Passed : List ℕ → Type 0
Passed p = Sound format1 p
