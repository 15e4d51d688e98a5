-- `pack_read::copy_values` meets its contract. Assumes nothing.
use Prim.Native.Nat.{ℕ, ◌+◌, ◌*◌}
use mathlib.Core.Path.{refl, ◌∙◌}
use native.Mathlib.Omega.{arith}
use lib.IntN.{ℤ}
use mir.Facts.{to_z-of_z}
use Rattle.slices.proofs.Filled.{fill_none, fill_more}
use Rattle.pack.specs.Bytes.{i32}
use mir.Syntax.{w32}
use Rattle.pack_read.proofs.copy_values.Goals as goal

pub loop-k-init : goal.loop-k-init
loop-k-init c =
    let a = c.args in
    fill_none a.from (λ (k : ℕ). i32 a.p.now (a.at + 4 * k)) a.out.now a.out.now refl

pub loop-k-preserved : goal.loop-k-preserved
loop-k-preserved c =
    let a = c.args in
    let l = c.loop-k in
    let f : ℕ → ℤ = λ (k : ℕ). i32 a.p.now (a.at + 4 * k) in
    fill_more a.from f a.out.now l.k l.out _ l.invariant (omega arith) (to_z-of_z {w = w32} (record { sfits = c.i32_at.type_inv }) ∙ c.i32_at.ensures)
