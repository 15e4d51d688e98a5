-- The tables of a pack, read into two arrays: the slices from their start are the tables. Assumes nothing.
use mathlib.Core.Path.{◌≡◌, sym, ap, ◌∙◌}
use mathlib.Core.List.{List}
use Prim.Native.Nat.{ℕ, ◌≤◌}
use lib.IntN.{ℤ}
use lib.ListN.{length, take}
use Rattle.slices.proofs.Filled.{over_front, over_long}
use Rattle.pack.specs.Bodies.{Pack}
use Rattle.pack.specs.Read.{ends_of, defined_of, Tabled}

module _ {d : Pack} {n m : ℕ} {oe oe' : List ℕ} {od od' : List ℤ} (t : Tabled d n m oe oe' od od') where
  pub ends_front : take n oe' ≡ ends_of d
  ends_front = over_front (ends_of d) oe oe' n t.ends_long t.ends_in

  pub ends_fit : n ≤ length oe'
  ends_fit = over_long (ends_of d) oe oe' n t.ends_long t.ends_in

  pub ends_count : n ≡ length (take n oe')
  ends_count = t.ends_long ∙ sym (ap length ends_front)

  pub defined_front : take m od' ≡ defined_of d
  defined_front = over_front (defined_of d) od od' m t.defined_long t.defined_in

  pub defined_fit : m ≤ length od'
  defined_fit = over_long (defined_of d) od od' m t.defined_long t.defined_in

  pub defined_count : m ≡ length (take m od')
  defined_count = t.defined_long ∙ sym (ap length defined_front)
