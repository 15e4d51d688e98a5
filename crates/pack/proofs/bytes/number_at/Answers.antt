-- `pack::bytes::number_at` meets its contract, by the width. Assumes nothing.
use Prim.Native.Nat.{ℕ}
use mathlib.Core.Path.{◌≡◌, sym, ap, ◌∙◌}
use native.Mathlib.Omega.{arith}
use Rattle.pack.specs.Bytes.{number}
use Rattle.pack.proofs.Numbers.{number_one}
use Rattle.pack.proofs.bytes.number_at.Goals as goal

pub returns-then-wide-eq1 : goal.returns-then-wide-eq1
returns-then-wide-eq1 c =
    let a = c.args in
    let one : a.wide ≡ 1 = c.if-wide-eq1.true in
    (c.byte_at.ensures.0 ∙ sym (number_one a.p.now a.at) ∙ ap (λ (w : ℕ). number w a.p.now a.at) (sym one), omega arith)

pub returns : goal.returns
returns c =
    let a = c.args in
    let two : a.wide ≡ 2 = omega arith in
    (c.u16_at.ensures.0 ∙ ap (λ (w : ℕ). number w a.p.now a.at) (sym two), omega arith)
