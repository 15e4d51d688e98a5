-- `pack_literals::copy_each` meets its contract. Assumes nothing.
use mathlib.Core.Path.{refl, ◌∙◌}
use native.Mathlib.Omega.{arith}
use mir.Facts.{to_z-of_z}
use Rattle.slices.proofs.Filled.{fill_none, fill_more}
use Rattle.pack.specs.Read.{item_from, value_from}
use mir.Syntax.{w32}
use Rattle.pack_literals.proofs.copy_each.Goals as goal

pub loop-k-init : goal.loop-k-init
loop-k-init c =
    let a = c.args in
    let f = item_from a.wide a.p.now a.at in
    let g = value_from a.wide a.p.now a.at in
    (fill_none a.from f a.items.now a.items.now refl, fill_none a.from g a.values.now a.values.now refl)

pub loop-k-preserved : goal.loop-k-preserved
loop-k-preserved c =
    let a = c.args in
    let l = c.loop-k in
    let f = item_from a.wide a.p.now a.at in
    let g = value_from a.wide a.p.now a.at in (
      fill_more a.from f a.items.now l.k l.items _ l.invariant.0 (omega arith) c.number_at-item.ensures.0,
      fill_more a.from g a.values.now l.k l.values _ l.invariant.1 (omega arith) (to_z-of_z {w = w32} (record { sfits = c.i32_at-value.type_inv }) ∙ c.i32_at-value.ensures),
    )
