-- `increment_search::Raised::rises` meets its contract: the values before the cursor rise, the last of them being `last`, and are Ints.
-- Assumes nothing.
use Rattle.std.proofs.Common.{◌+◌, refl, sym, ap, ◌∙◌, ℤ, pos, get_or, drop, w32, arith}
use Rattle.std.proofs.Math.Seq.{take_all}
use mir.Val.{to_z}
use Rattle.ink_number.proofs.Signed.{returned}
use Rattle.list_definitions.specs.Search.{raised, rises_above}
use Rattle.slices.proofs.Every.{not_both}
use Rattle.list_definitions.proofs.Raised.{sum_of, ints_more, ints_from}
use Rattle.list_definitions.proofs.Order.{le_not_lt, not_le_lt}
use Rattle.list_definitions.proofs.IncrementSearch.{rise_yes, rise_no, rise_end}
use Rattle.increment_search.proofs.Raised.rises.Goals as goal

pub loop-value-init : goal.loop-value-init
loop-value-init c =
    let rest = c.in-Some.rest.now in
    let s = sum_of c.in-Some.first.now c.args.self.by (omega arith) (omega arith) c.wrapping_add-last.ensures in
    record {
      told = rw c.in-Some.ensures.cases.0 (ap (λ (z : ℤ). rises_above z (raised c.args.self.by rest)) (s ∙ sym (returned c.wrapping_add-last.type_inv)));
      ints = refl;
    }

pub returns-then-v-last : goal.returns-then-v-last
returns-then-v-last c =
    let a = c.args in
    let l = c.loop-value in
    let rest = c.in-Some.rest.now in
    let s = sum_of (get_or rest l.value-index (pos 0)) a.self.by (omega arith) (omega arith) c.wrapping_add-v.ensures in
    record {
      told =
          sym (l.invariant.told
          ∙ rise_no a.self.by (to_z w32 l.last-bits) rest l.value-index c.loop-value-test.true
          (rw s (le_not_lt c.wrapping_add-v.result (to_z w32 l.last-bits) (rw (returned c.wrapping_add-v.type_inv) at c.if-v-last.true))));
      ints = λ e. absurd (not_both e);
    }

pub loop-value-preserved : goal.loop-value-preserved
loop-value-preserved c =
    let a = c.args in
    let l = c.loop-value in
    let rest = c.in-Some.rest.now in
    let s = sum_of (get_or rest l.value-index (pos 0)) a.self.by (omega arith) (omega arith) c.wrapping_add-v.ensures in
    record {
      told =
          l.invariant.told
          ∙ rise_yes a.self.by (to_z w32 l.last-bits) rest l.value-index c.loop-value-test.true
          (rw s (not_le_lt c.wrapping_add-v.result (to_z w32 l.last-bits) (rw (returned c.wrapping_add-v.type_inv) at c.if-v-last.false)))
          ∙ ap (λ (z : ℤ). rises_above z (raised a.self.by (drop (l.value-index + 1) rest))) (s ∙ sym (returned c.wrapping_add-v.type_inv));
      ints = ints_more rest l.value-index c.loop-value-test.true (omega arith) l.invariant.ints;
    }

pub returns : goal.returns
returns c =
    let a = c.args in
    let l = c.loop-value in
    let rest = c.in-Some.rest.now in
    record {
      told =
          sym (l.invariant.told ∙ rise_end a.self.by (to_z w32 l.last-bits) rest l.value-index c.loop-value-test.false);
      ints =
          λ e. rw c.in-Some.ensures.cases.0
          (ints_from c.in-Some.first.now rest (omega arith) (rw (take_all l.value-index rest c.loop-value-test.false) at l.invariant.ints));
    }
