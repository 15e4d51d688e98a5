-- `pack_lists::definitions::definition_ok` meets its contract: where the body is too short for a count it is no definition. Assumes nothing.
use mathlib.Core.Path.{◌≡◌, sym, ap, ◌∙◌}
use native.Mathlib.Omega.{arith}
use borrow.Author.Tests.{lt-ltb, le-ltb, ne_eqb}
use Rattle.slices.specs.Every.{◌and◌}
use Rattle.slices.proofs.Every.{and_no_left, and_no_right}
use Rattle.pack.specs.Bodies.{count, definition_ok}
use Rattle.pack.specs.Bytes.{number}
use Rattle.pack.specs.Contents.{size}
use Rattle.pack_lists.proofs.definitions.definition_ok.Goals as goal

pub returns-then-n-format : goal.returns-then-n-format
unfolding definition_ok
returns-then-n-format c =
    let a = c.args in
    sym (and_no_right _ _ (ne_eqb (size a.pack.bytes.now a.d) _ (λ e. omega arith)))

pub returns-then-k-eq0 : goal.returns-then-k-eq0
unfolding definition_ok
returns-then-k-eq0 c =
    let a = c.args in
    let k : count a.format a.pack.bytes.now a.d ≡ 0 =
    sym (c.number_at-k.ensures.0 ∙ ap (number a.format.wide a.pack.bytes.now) c.offset-at.ensures.0) ∙ c.if-k-eq0.true in
    sym (and_no_left _ _ (le-ltb 0 (count a.format a.pack.bytes.now a.d) (omega arith)))

pub returns : goal.returns
unfolding definition_ok ◌and◌
returns c =
    let a = c.args in
    let p = a.pack.bytes.now in
    let k : c.number_at-k.result ≡ count a.format p a.d =
    c.number_at-k.ensures.0 ∙ ap (number a.format.wide p) c.offset-at.ensures.0 in
    rw (lt-ltb 0 (count a.format p a.d) (omega arith), ← k, ← c.size-n.ensures.0)
