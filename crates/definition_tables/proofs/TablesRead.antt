-- What is read of a pack that has passed, and that it is what the calls on a checked pack ask for. Assumes nothing.
use mathlib.Core.Path.{◌≡◌, refl, ap}
use mathlib.Core.Bool.{Bool, true, false}
use mathlib.Core.List.{List, [], ◌∷◌}
use Prim.Native.Nat.{ℕ, ◌<◌, ◌≤◌}
use native.Mathlib.Omega.{arith}
use lib.IntN.{ℤ}
use lib.ListN.{length, get_or, take}
use borrow.Author.Tests.{lt-leb, le-leb}
use Rattle.slices.proofs.Every.{and_both, and_no_left, and_no_right}
use Rattle.ink_number.specs.Answer.{gives, ask}
use Rattle.pack.specs.Bodies.{decoded}
use Rattle.slices.proofs.Filled.{over_front}
use Rattle.pack.specs.Format.{definition_limit}
use Rattle.pack.specs.declared.format.Format.{Format}
use Rattle.pack.specs.Read.{ends_of, defined_of, Tabled}
use Rattle.definition_tables.specs.Tables.{Passed, Reads, Ready, tables_long}

module _ (F : Format) (p ends : List ℕ) (defined : List ℤ) (counts : List ℕ) where
  -- question 7: where a slice is short nothing is written
  unread : tables_long F ends defined ≡ false → Reads (ask 7 (tables_long F ends defined) (gives (decoded F p))) 7 ends ends defined defined counts counts
  unread e = rw e (record { number = refl; ends_in = refl; defined_in = refl; counted = refl })

  pub reads_no_ends : length ends < definition_limit → Reads (ask 7 (tables_long F ends defined) (gives (decoded F p))) 7 ends ends defined defined counts counts
  unfolding tables_long
  reads_no_ends h = unread (and_no_left _ _ (lt-leb definition_limit (length ends) h))

  pub reads_no_defined : length defined < F.limit → Reads (ask 7 (tables_long F ends defined) (gives (decoded F p))) 7 ends ends defined defined counts counts
  unfolding tables_long
  reads_no_defined h = unread (and_no_right _ _ (lt-leb F.limit (length defined) h))

pub reads_tables : (F : Format) (p : List ℕ) {ends ends' : List ℕ} {defined defined' : List ℤ} {counts counts' : List ℕ} {m n : ℕ}
    → definition_limit ≤ length ends → F.limit ≤ length defined → Tabled (decoded F p) m n ends ends' defined defined' → counts' ≡ m ∷ n ∷ []
    → Reads (ask 7 (tables_long F ends defined) (gives (decoded F p))) 0 ends ends' defined defined' counts counts'
unfolding tables_long
reads_tables F p {ends} {ends'} {defined} h k t e =
    rw (and_both _ _ (le-leb definition_limit (length ends) h) (le-leb F.limit (length defined) k))
    (record { number = refl; ends_in = t.ends_in; defined_in = t.defined_in; counted = rw (t.ends_long, t.defined_long) at e })

-- the tables, cut to the counts, where 0 was returned
pub ready : (F : Format) (p ends ends' : List ℕ) (defined defined' : List ℤ) (n : ℕ) (counts counts' : List ℕ) → Passed F p
    → Reads (ask 7 (tables_long F ends defined) (gives (decoded F p))) n ends ends' defined defined' counts counts' → n ≡ 0
    → Ready F p (take (get_or counts' 0 0) ends') (take (get_or counts' 1 0) defined')
ready F p ends ends' defined defined' n counts counts' h r z = go (tables_long F ends defined) r
  where
    go : (t : Bool) → Reads (ask 7 t (gives (decoded F p))) n ends ends' defined defined' counts counts'
        → Ready F p (take (get_or counts' 0 0) ends') (take (get_or counts' 1 0) defined')
    go true w =
        let d = decoded F p in
        record {
          passed = h;
          ends_are = over_front (ends_of d) ends ends' (get_or counts' 0 0) (ap (λ (c : List ℕ). get_or c 0 0) w.counted) w.ends_in;
          defined_are = over_front (defined_of d) defined defined' (get_or counts' 1 0) (ap (λ (c : List ℕ). get_or c 1 0) w.counted) w.defined_in;
        }
    go false w = absurd (omega (arith, w.number))
