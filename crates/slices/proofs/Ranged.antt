-- A test that is asked of each number below n in turn, as an iterator's `all` asks it. Assumes nothing.
use mathlib.Core.Path.{◌≡◌, sym, subst, ◌∙◌}
use mathlib.Core.Bool.{Bool, true, false}
use Prim.Native.Nat.{ℕ, ◌<◌}
use native.Mathlib.Nat.{zero-add}
use native.Mathlib.Omega.{arith}
use lib.ListN.{length, get_or}
use Rattle.std.specs.Bool.{MatchBool}
use Rattle.std.specs.List.{range_with_len, AllWithin, HoldsAt}
use Rattle.std.proofs.lemmas.List.FromFn.{length-range_with_len, get_or-range_with_len}
use Rattle.slices.specs.Every.{every}
use Rattle.slices.proofs.Every.{every_all, every_fails}

ranged_at : (n k : ℕ) → k < n → get_or (range_with_len 0 n) k 0 ≡ k
ranged_at n k b = get_or-range_with_len 0 n k 0 b ∙ zero-add k

-- it answers yes where each did, and no where one did not
pub every_ranged : (t : ℕ → Bool) (n : ℕ) (r : Bool)
    → MatchBool r (AllWithin (λ k. t k ≡ true) (range_with_len 0 n) 0 (length (range_with_len 0 n)))
    ((k : ℕ) × (k < length (range_with_len 0 n)) × HoldsAt (λ k. t k ≡ false) (range_with_len 0 n) k)
    → r ≡ every n t
every_ranged t n true h =
    sym (every_all n t (λ k b. subst (λ (j : ℕ). t j ≡ true) (ranged_at n k b) (h k 0 (omega arith) (rw (length-range_with_len 0 n) b))))
every_ranged t n false (k, b, h) =
    let b' : k < n = subst (λ (m : ℕ). k < m) (length-range_with_len 0 n) b in
    sym (every_fails t n k b' (subst (λ (j : ℕ). t j ≡ false) (ranged_at n k b') (h 0)))
