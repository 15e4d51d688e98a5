-- `pack_check::questions::question1` meets its contract, each return by the test that led to it. Assumes nothing.
use native.Mathlib.Omega.{arith}
use borrow.Author.Tests.{le-leb, lt-leb, eq-eqb, ne_eqb}
use Rattle.slices.specs.Every.{◌and◌}
use Rattle.pack.specs.Judge as J
use Rattle.pack.specs.Bytes.{byte}
use Rattle.pack.specs.Format.{definition_limit}
use Rattle.pack_check.proofs.questions.question1.Goals as goal

pub returns-then-p-lt4 : goal.returns-then-p-lt4
unfolding J.question1 ◌and◌
returns-then-p-lt4 c = simp (lt-leb _ _ c.if-p-lt4.true)

pub returns-then-p-gt-PACK_LIMIT : goal.returns-then-p-gt-PACK_LIMIT
unfolding J.question1 ◌and◌
returns-then-p-gt-PACK_LIMIT c = simp (le-leb _ _ c.if-p-lt4.false, lt-leb _ _ c.if-p-gt-PACK_LIMIT.true)

pub returns-then-p-format : goal.returns-then-p-format
unfolding J.question1 ◌and◌
returns-then-p-format c =
    simp (le-leb _ _ c.if-p-lt4.false, le-leb _ _ c.if-p-gt-PACK_LIMIT.false, ne_eqb _ _ c.if-p-format.true)

pub returns-then-byte_at-gt-DEFINITION_LIMIT : goal.returns-then-byte_at-gt-DEFINITION_LIMIT
unfolding J.question1 ◌and◌
returns-then-byte_at-gt-DEFINITION_LIMIT c =
    let a = c.args in
    simp (le-leb _ _ c.if-p-lt4.false, le-leb _ _ c.if-p-gt-PACK_LIMIT.false, eq-eqb _ _ c.if-p-format.false, lt-leb (byte a.p.now 1) definition_limit (omega arith))

pub returns : goal.returns
unfolding J.question1 ◌and◌
returns c =
    let a = c.args in
    simp (le-leb _ _ c.if-p-lt4.false, le-leb _ _ c.if-p-gt-PACK_LIMIT.false, eq-eqb _ _ c.if-p-format.false, le-leb (byte a.p.now 1) definition_limit (omega arith), c.body_count.ensures.0)
