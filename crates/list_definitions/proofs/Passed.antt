-- A turn at a definition that is not in the set, by the definition's place in the table. Assumes nothing.
use mathlib.Core.Path.{◌≡◌, subst}
use mathlib.Core.List.{List}
use Prim.Native.Nat.{ℕ, ◌%◌, ◌≤◌, ◌<◌}
use native.Mathlib.Omega.{arith}
use borrow.Author.Tests.{lt-ltb}
use lib.IntN.{ℤ}
use lib.ListN.{get_or, drop}
use Rattle.ink_list.specs.Entries.{Entry}
use Rattle.ink_list.proofs.Output.{Writing}
use Rattle.slices.proofs.Lists.{drop_at}
use Rattle.list_definitions.specs.Defs.{Ends, unheld}
use Rattle.list_definitions.proofs.DefLaws.{onward, onward_skip, ends_at, ends_below}

-- of the definitions from d on, the first ends by the total
pub end_bound : (low k total d : ℕ) (ends : List ℕ) → Ends low total (drop d ends) → low ≤ k → k < total → get_or ends d 0 ≤ total
end_bound low k total d ends b l h = ends_below low total d ends (ends_at low total d ends b (omega arith)) b

pub bounded_on : (low k e total : ℕ) (es : List ℕ) → Ends low total es → low ≤ k → k < e → (x : ℕ) × (x ≤ e) × Ends x total es
bounded_on low k e total es b l h = (low, omega arith, b)

-- its numbers are passed over
pub passed_over : {at n : ℕ} {answer : List Entry} {oi oi' : List ℕ} {ov ov' : List ℤ} (low : ℕ) (defined : List ℤ) (ends : List ℕ) (d s : ℕ) (is : List ℕ) (k total : ℕ)
    → Writing at answer n (onward k total (unheld (drop d ends) defined s is)) oi oi' ov ov'
    → Ends low total (drop d ends) → low ≤ k → k < total → k < get_or ends d 0 → s % 2 ≡ 0
    → Writing at answer n (onward (get_or ends d 0) total (unheld (drop d ends) defined s is)) oi oi' ov ov'
passed_over {at} {n} {answer} {oi} {oi'} {ov} {ov'} low defined ends d s is k total w b m h l z =
    let f = unheld (drop d ends) defined s is in
    let there = ends_at low total d ends b (omega arith) in
    subst (λ (left : List Entry). Writing at answer n left oi oi' ov ov')
    (onward_skip k (get_or ends d 0) total f (omega arith) (end_bound low k total d ends b m h) (λ j p q. rw (drop_at ends d 0 there, lt-ltb j (get_or ends d 0) q, z)))
    w
