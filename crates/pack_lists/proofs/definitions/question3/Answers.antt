-- `pack_lists::definitions::question3` meets its contract. Assumes nothing.
use Prim.Native.Nat.{ℕ}
use mathlib.Core.Bool.{true}
use mathlib.Core.Path.{◌≡◌, sym, ap, ◌∙◌, subst}
use native.Mathlib.Omega.{arith}
use lib.Dec.{leb}
use Rattle.slices.specs.Every.{◌and◌, every}
use Rattle.slices.proofs.Every.{and_no_left, every_fails}
use Rattle.pack.specs.Bodies.{definition_ok, items_below}
use Rattle.pack.specs.Contents.{definition_count}
use Rattle.pack.specs.Judge as J
use Rattle.pack_lists.proofs.definitions.question3.Goals as goal

pub returns-then-not-definition_ok : goal.returns-then-not-definition_ok
unfolding J.question3
returns-then-not-definition_ok c =
    let l = c.loop-d in
    sym (and_no_left _ _ (every_fails _ _ l.d (omega arith) (sym c.definition_ok.ensures ∙ c.if-not-definition_ok.true)))

pub returns : goal.returns
unfolding J.question3 ◌and◌
returns c =
    let a = c.args in
    let p = a.pack.bytes.now in
    let l = c.loop-d in
    let e : l.d ≡ definition_count p = omega arith in
    rw (subst (λ (k : ℕ). every k (definition_ok a.format p) ≡ true) e l.invariant.2)
    (ap (λ (k : ℕ). leb k a.format.limit) (l.invariant.0 ∙ ap (items_below a.format p) e))
