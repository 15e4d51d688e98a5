-- The words of the contracts for slices that a pack's parts are read into, each as it was at entry and as it is at exit. Assumes nothing.
-- For inner steps alone: no entry point's contract cites it.
use Rattle.std.specs.Prelude.{ℕ, ℤ}
use Rattle.slices.specs.Slices.{MutSlice}
use Rattle.ink_list.specs.declared.well_formed.Counts.{Counts}
use Rattle.pack.specs.Bodies.{Pack}
use Rattle.pack.specs.Read.{Tabled}

-- a pack's two tables are written from the start of two slices, and how many places each takes is returned
abbrev pub TabledIn : Pack → Counts → MutSlice ℕ → MutSlice ℤ → Type 0
TabledIn d r ends defined =
    Tabled d r.definitions r.items ends.entry.now ends.exit.now defined.entry.now defined.exit.now
