-- `run_checked::clear` meets its contract. The invariant: the places passed are zero as far as they were used, and the others as they were.
-- Assumes nothing.
use mathlib.Core.Path.{refl, sym, ◌∙◌}
use Prim.Native.Nat.{ℕ}
use native.Mathlib.Omega.{arith}
use lib.IntN.{ℤ, pos}
use Rattle.run_checked.proofs.Clearing.{cleared_none, cleared_more, used_fits}
use Rattle.run_checked.proofs.clear.Goals as goal

pub loop-q-init : goal.loop-q-init
loop-q-init c =
    let a = c.args in
    (sym (cleared_none a.format {X = ℕ} 0 a.used.now a.work.now.items.now), sym (cleared_none a.format {X = ℤ} (pos 0) a.used.now a.work.now.values.now), (refl, refl))

pub zero-requires : goal.zero-requires
zero-requires c =
    let a = c.args in
    let l = c.loop-q in
    let r = c.requires.roomy in
    let few = c.requires.used_len.1 in
    let i = used_fits a.format 0 a.used.now a.work.now.items.now few r.items_room l.q (omega (arith, c.loop-q-test.true, c.requires.used_len.0)) _ l.invariant.0 in
    let v = used_fits a.format (pos 0) a.used.now a.work.now.values.now few r.values_room l.q (omega (arith, c.loop-q-test.true, c.requires.used_len.0)) _ l.invariant.1 in
    omega (arith, i, v)

pub loop-q-preserved : goal.loop-q-preserved
loop-q-preserved c =
    let a = c.args in
    let l = c.loop-q in
    let z = c.zero.ensures in (
      z.0 ∙ rw l.invariant.0 (sym (cleared_more a.format {X = ℕ} 0 a.used.now a.work.now.items.now l.q)),
      z.1 ∙ rw l.invariant.1 (sym (cleared_more a.format {X = ℤ} (pos 0) a.used.now a.work.now.values.now l.q)),
      (z.2.0 ∙ l.invariant.2.0, z.2.1 ∙ l.invariant.2.1),
    )
