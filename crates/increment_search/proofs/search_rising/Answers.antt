-- `increment_search::search_rising` meets its contract: what is left to store are the definition's values from cursor k on that are
-- among the entries' from cursor i on. Assumes nothing.
use Rattle.std.proofs.Common.{◌≡◌, [], ◌+◌, drop, refl, sym, ap, ◌∙◌, arith, ℕ, get_or, pos, w32}
use lib.Signed.{lt_z}
use mir.Val.{SFits}
use Rattle.ink_number.proofs.Signed.{read2}
use Rattle.list_definitions.specs.Search.{raised}
use Rattle.list_definitions.proofs.Raised.{sum_of}
use Rattle.list_definitions.proofs.Order.{neither_less}
use Rattle.ink_list.proofs.Output.{begin, turn, has_room, pushed, stored}
use Rattle.list_definitions.proofs.IncrementSearch.{matched, rising_matched, chosen_length, on_d, on_v, merge_less, merge_more, merge_same, matched_end, matched_none}
use Rattle.increment_search.specs.Chosen.{values_of}
use Rattle.increment_search.proofs.search_rising.Goals as goal

pub loop-k-init : goal.loop-k-init
loop-k-init c =
    let a = c.args in
    let ds = a.definition.values.now in
    let p = c.requires.rising in
    let W = values_of a.raised in
    let h = chosen_length a.definition.first [] ds W in
    let z : a.definition.first ≡ a.definition.first + 0 = omega arith in
    record {
      places = (omega arith, omega arith);
      rising = p;
      same = (refl, refl);
      writing = turn (begin (omega arith)) (rising_matched a.definition.first ds W p.0 ∙ ap (λ (k : ℕ). matched k ds W) z);
    }

pub loop-k-preserved-then-v-d : goal.loop-k-preserved-then-v-d
loop-k-preserved-then-v-d c =
    let a = c.args in
    let ds = a.definition.values.now in
    let vs = a.raised.values.now in
    let l = c.loop-k in
    let i = l.invariant in
    let r = c.wrapping_add-v.result in
    let d = get_or ds l.k (pos 0) in
    let s = sum_of (get_or vs l.i (pos 0)) a.raised.by (omega arith) (omega arith) c.wrapping_add-v.ensures in
    let fd : SFits w32 d = record { sfits = omega arith } in
    let fr : SFits w32 r = record { sfits = c.wrapping_add-v.type_inv } in
    record {
      places = (i.places.0, omega arith);
      rising = (i.rising.0, on_v a.definition.first a.raised.by ds vs l.k l.i c.loop-k-test.true c.if-i-raised.true i.rising.0 i.rising.1);
      same = i.same;
      writing =
          turn i.writing
          (merge_more a.definition.first a.raised.by ds vs l.k l.i c.loop-k-test.true c.if-i-raised.true i.rising.0 i.rising.1
          (rw s (sym (read2 lt_z r d fr fd) ∙ c.if-v-d.true)));
    }

pub loop-k-preserved-then-d-v : goal.loop-k-preserved-then-d-v
loop-k-preserved-then-d-v c =
    let a = c.args in
    let ds = a.definition.values.now in
    let vs = a.raised.values.now in
    let l = c.loop-k in
    let i = l.invariant in
    let r = c.wrapping_add-v.result in
    let d = get_or ds l.k (pos 0) in
    let s = sum_of (get_or vs l.i (pos 0)) a.raised.by (omega arith) (omega arith) c.wrapping_add-v.ensures in
    let fd : SFits w32 d = record { sfits = omega arith } in
    let fr : SFits w32 r = record { sfits = c.wrapping_add-v.type_inv } in
    record {
      places = (omega arith, i.places.1);
      rising = (on_d a.definition.first a.raised.by ds vs l.k l.i c.loop-k-test.true c.if-i-raised.true i.rising.0 i.rising.1, i.rising.1);
      same = i.same;
      writing =
          turn i.writing
          (merge_less a.definition.first a.raised.by ds vs l.k l.i c.loop-k-test.true c.if-i-raised.true i.rising.0 i.rising.1
          (rw s (sym (read2 lt_z d r fd fr) ∙ c.if-d-v.true)));
    }

pub push-n-requires : goal.push-n-requires
push-n-requires c =
    let a = c.args in
    let ds = a.definition.values.now in
    let vs = a.raised.values.now in
    let l = c.loop-k in
    let i = l.invariant in
    let r = c.wrapping_add-v.result in
    let d = get_or ds l.k (pos 0) in
    let s = sum_of (get_or vs l.i (pos 0)) a.raised.by (omega arith) (omega arith) c.wrapping_add-v.ensures in
    let fd : SFits w32 d = record { sfits = omega arith } in
    let fr : SFits w32 r = record { sfits = c.wrapping_add-v.type_inv } in
    has_room i.writing
    (merge_same a.definition.first a.raised.by ds vs l.k l.i c.loop-k-test.true c.if-i-raised.true i.rising.0 i.rising.1
    (neither_less d r (sym (read2 lt_z d r fd fr) ∙ c.if-d-v.false) (sym (read2 lt_z r d fr fd) ∙ c.if-v-d.false) ∙ sym s))

pub loop-k-preserved : goal.loop-k-preserved
loop-k-preserved c =
    let a = c.args in
    let ds = a.definition.values.now in
    let vs = a.raised.values.now in
    let l = c.loop-k in
    let i = l.invariant in
    let r = c.wrapping_add-v.result in
    let d = get_or ds l.k (pos 0) in
    let s = sum_of (get_or vs l.i (pos 0)) a.raised.by (omega arith) (omega arith) c.wrapping_add-v.ensures in
    let fd : SFits w32 d = record { sfits = omega arith } in
    let fr : SFits w32 r = record { sfits = c.wrapping_add-v.type_inv } in
    record {
      places = (omega arith, omega arith);
      rising = (
        on_d a.definition.first a.raised.by ds vs l.k l.i c.loop-k-test.true c.if-i-raised.true i.rising.0 i.rising.1,
        on_v a.definition.first a.raised.by ds vs l.k l.i c.loop-k-test.true c.if-i-raised.true i.rising.0 i.rising.1,
      );
      same = (c.push-n.ensures.1.0 ∙ i.same.0, c.push-n.ensures.1.1 ∙ i.same.1);
      writing =
          pushed i.writing
          (merge_same a.definition.first a.raised.by ds vs l.k l.i c.loop-k-test.true c.if-i-raised.true i.rising.0 i.rising.1
          (neither_less d r (sym (read2 lt_z d r fd fr) ∙ c.if-d-v.false) (sym (read2 lt_z r d fr fd) ∙ c.if-v-d.false) ∙ sym s))
          fd.sfits c.push-n.ensures.0;
    }

pub returns-else-i-raised : goal.returns-else-i-raised
returns-else-i-raised c =
    let a = c.args in
    let ds = a.definition.values.now in
    let vs = a.raised.values.now in
    let l = c.loop-k in (
      stored l.invariant.writing (matched_none (a.definition.first + l.k) a.raised.by (drop l.k ds) vs l.i c.if-i-raised.false),
      l.invariant.same,
    )

pub returns-after-loop-k : goal.returns-after-loop-k
returns-after-loop-k c =
    let a = c.args in
    let ds = a.definition.values.now in
    let vs = a.raised.values.now in
    let l = c.loop-k in (
      stored l.invariant.writing (matched_end (a.definition.first + l.k) l.k ds (raised a.raised.by (drop l.i vs)) c.loop-k-test.false),
      l.invariant.same,
    )
