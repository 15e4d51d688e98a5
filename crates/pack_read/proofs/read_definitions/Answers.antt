-- `pack_read::read_definitions` meets its contract. Assumes nothing.
use Prim.Native.Nat.{ℕ, suc, ◌+◌, ◌*◌, ◌<◌}
use mathlib.Core.List.{List}
use mathlib.Core.Path.{◌≡◌, refl, sym, ap, ◌∙◌}
use native.Mathlib.Numerals.{add-one}
use native.Mathlib.Omega.{arith}
use lib.IntN.{ℤ}
use Rattle.slices.specs.Every.{table}
use Rattle.slices.specs.Filled.{fill}
use Rattle.slices.proofs.Tables.{length_table}
use Rattle.slices.proofs.Filled.{fill_none, front_more, fill_over}
use Rattle.pack.specs.Bodies.{count, items_below}
use Rattle.pack.specs.Bytes.{i32}
use Rattle.pack.specs.Contents.{definition_count}
use Rattle.pack.proofs.Laid.{body}
use Rattle.pack.proofs.Values.{counted, defined, items_up, items_more, values_below, length_values, values_none, values_long, values_more, ends_table}
use Rattle.pack_read.proofs.read_definitions.Goals as goal

pub loop-d-init : goal.loop-d-init
unfolding items_below
loop-d-init c =
    let p = c.args.pack.bytes.now in
    let F = c.args.pack.format in
    (refl, fill_none 0 (λ e. items_below F p (suc e)) c.args.ends.now c.args.ends.now refl, values_none F p c.args.defined.now)

pub copy_values-requires : goal.copy_values-requires
copy_values-requires c =
    let p = c.args.pack.bytes.now in
    let F = c.args.pack.format in
    let l = c.loop-d in
    let below : l.d < definition_count p = omega arith in
    let up = items_up F p (definition_count p) l.d below in
    let whole = counted F p l.d ((defined F p c.args.pack.sound.three).each l.d below) in
    let long = values_long F p c.args.defined.now l.d (omega arith) l.defined l.invariant.2 in
    record {
      n_in_bounds = omega (arith, body p c.args.pack.sound.contents l.d (omega arith), whole);
      n_in_bounds_2 = omega (arith, long);
    }

pub overflow_add-items : goal.overflow_add-items
overflow_add-items c =
    let p = c.args.pack.bytes.now in
    let F = c.args.pack.format in
    let l = c.loop-d in
    let below : l.d < definition_count p = omega arith in
    omega (arith, items_up F p (definition_count p) l.d below, (defined F p c.args.pack.sound.three).within, c.args.pack.narrow)

pub overflow_cast-ends : goal.overflow_cast-ends
overflow_cast-ends c =
    let p = c.args.pack.bytes.now in
    let F = c.args.pack.format in
    let l = c.loop-d in
    let below : l.d < definition_count p = omega arith in
    omega (arith, items_up F p (definition_count p) l.d below, (defined F p c.args.pack.sound.three).within, c.args.pack.narrow)

pub loop-d-preserved : goal.loop-d-preserved
loop-d-preserved c =
    let p = c.args.pack.bytes.now in
    let F = c.args.pack.format in
    let l = c.loop-d in
    let below : l.d < definition_count p = omega arith in
    let up = items_up F p (definition_count p) l.d below in
    let total : l.items + c.item_count-k.result ≡ items_below F p (l.d + 1) = omega (arith, items_more F p l.d) in
    let one : l.items + c.item_count-k.result ≡ items_below F p (suc l.d) = rw (← add-one l.d) total in
    let wrote : ℕ → ℕ → ℕ → List ℤ = λ m n o. fill m (table n (λ k. i32 p (o + F.wide + 4 * k))) l.defined in (
      total,
      front_more (λ e. items_below F p (suc e)) c.args.ends.now l.d l.ends l.invariant.1 _ (omega arith) one,
      c.copy_values.ensures
          ∙ ap (λ (m : ℕ). wrote m c.item_count-k.result c.offset.result) l.invariant.0
          ∙ ap (λ (n : ℕ). wrote (items_below F p l.d) n c.offset.result) c.item_count-k.ensures.0
          ∙ ap (λ (o : ℕ). wrote (items_below F p l.d) (count F p l.d) o) c.offset.ensures.0
          ∙ values_more F p c.args.defined.now l.d (omega (arith, up)) l.defined l.invariant.2,
    )

pub returns : goal.returns
returns c =
    let p = c.args.pack.bytes.now in
    let F = c.args.pack.format in
    let l = c.loop-d in
    let D = definition_count p in
    let e : l.d ≡ D = omega arith in
    let total : l.items ≡ items_below F p D = l.invariant.0 ∙ ap (items_below F p) e in
    let ends₀ = c.args.ends.now in
    let defined₀ = c.args.defined.now in
    record {
      ends_long = c.byte_at-n.ensures.0 ∙ sym (rw (ends_table F p D) (length_table D (λ k. items_below F p (suc k))));
      defined_long = total ∙ sym (length_values F p D);
      ends_in = l.invariant.1
          ∙ ap (λ (d : ℕ). fill 0 (table d (λ k. items_below F p (suc k))) ends₀) e
          ∙ ap (λ (xs : List ℕ). fill 0 xs ends₀) (sym (ends_table F p D))
          ∙ fill_over _ ends₀;
      defined_in = l.invariant.2 ∙ ap (λ (d : ℕ). fill 0 (values_below F p d) defined₀) e ∙ fill_over (values_below F p D) defined₀;
    }

pub item_count-k-requires-clause-d_value : goal.item_count-k-requires-clause-d_value
item_count-k-requires-clause-d_value c =
    (defined c.args.pack.format c.args.pack.bytes.now c.args.pack.sound.three).each c.loop-d.d (omega arith)
