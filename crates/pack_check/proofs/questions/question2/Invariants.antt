-- `pack_check::questions::question2` meets its contract. The loop's invariant: `at` is where body b has to start, and the bodies before it start
-- where they have to. Assumes nothing.
use Prim.Native.Nat.{◌+◌, ◌*◌, ◌≤◌}
use mathlib.Core.Bool.{true}
use mathlib.Core.Path.{◌≡◌}
use lib.Dec.{eqb}
use Rattle.slices.specs.Every.{every}
use Rattle.pack.specs.Contents.{offset, place}
use Rattle.pack_check.proofs.questions.question2.Given as goal

abbrev pub invariant-loop-b : goal.invariant-loop-b
invariant-loop-b l = (l.at ≡ place l.p l.b) × (l.at ≤ l.initial.at + 65536 * l.b) × (every l.b (λ k. eqb (offset l.p k) (place l.p k)) ≡ true)
