-- `pack_check::questions::question2` meets its contract. Assumes nothing.
use Prim.Native.Nat.{ℕ, ◌<◌}
use mathlib.Core.Bool.{true}
use mathlib.Core.Path.{◌≡◌, sym, ap, ◌∙◌, subst}
use native.Mathlib.Omega.{arith}
use lib.Dec.{eqb}
use lib.ListN.{length}
use borrow.Author.Tests.{ne_eqb}
use Rattle.slices.specs.Every.{◌and◌, every}
use Rattle.slices.proofs.Every.{and_no_left, every_fails}
use Rattle.pack.specs.Contents.{body_count, offset, place}
use Rattle.pack.specs.Judge as J
use Rattle.pack_check.proofs.questions.question2.Goals as goal

pub returns-then-offset-at : goal.returns-then-offset-at
unfolding J.question2
returns-then-offset-at c =
    let l = c.loop-b in
    let p = c.args.p.now in
    let below : l.b < body_count p = omega arith in
    sym (and_no_left _ _ (every_fails _ _ l.b below (ne_eqb (offset p l.b) (place p l.b) (λ e. omega arith))))

pub returns : goal.returns
unfolding J.question2 ◌and◌
returns c =
    let l = c.loop-b in
    let p = c.args.p.now in
    let e : l.b ≡ body_count p = omega arith in
    rw (subst (λ (k : ℕ). every k (λ j. eqb (offset p j) (place p j)) ≡ true) e l.invariant.2)
    (ap (λ (k : ℕ). eqb k (length p)) (l.invariant.0 ∙ ap (place p) e))
