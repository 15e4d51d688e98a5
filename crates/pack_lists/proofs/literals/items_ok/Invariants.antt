-- `pack_lists::literals::items_ok` meets its contract. The loop's invariant: m entries are left, from k on. Where `least` is at most the count
-- of items, whether theirs rise from it is whether all rise; where it is above, they do not. Assumes nothing.
use Rattle.std.proofs.Common.{ℕ, List, ◌≡◌, ◌+◌, ◌<◌, ◌≤◌, drop}
use mathlib.Core.Bool.{Bool, false}
use Rattle.ink_list.specs.Entries.{ascends}
use Rattle.slices.specs.Every.{table}
use Rattle.pack.specs.Bodies.{item}
use Rattle.pack_lists.proofs.Chunks.{Left}
use Rattle.pack_lists.proofs.literals.items_ok.Given as goal

pub record Rest (all : Bool) (total least : ℕ) (rest : List ℕ) : Type 0 where
  pub within : least ≤ total → ascends least total rest ≡ all
  pub past : total < least → all ≡ false

abbrev pub invariant-loop-entry : goal.invariant-loop-entry
invariant-loop-entry l =
    let is : List ℕ = table l.n (item l.format l.pack.bytes.now l.b) in
    (k : ℕ) × (m : ℕ) × (k + m ≡ l.n) × Left l.pack.bytes.now l.first l.stride l.entry-iterator.rest.now k m × (l.entry-iterator.size ≡ l.stride)
    × Rest (ascends 0 l.total is) l.total l.least (drop k is)
