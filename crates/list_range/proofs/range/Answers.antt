-- `list_range::range` meets its contract: what is left of the answer is the range of the entries that are left. Assumes nothing.
use Rattle.std.proofs.Common.{ℤ, pos, get_or, refl, ap, ◌∙◌, subst, arith, rules, w32}
use Rattle.ink_number.proofs.Signed.{back, back32}
use Rattle.ink_list.specs.Entries.{Lent, Wrote}
use Rattle.ink_list.specs.Lists.{list_of, places}
use Rattle.ink_list.specs.Ops.{sift, within, range}
use Rattle.ink_list.proofs.Rests.{rest_done, of_lent}
use Rattle.ink_list.proofs.Output.{begin, has_room, pushed, turn, done}
use Rattle.ink_list.proofs.SiftLaws.{sift_length, sift_limit, sift_nil, keep_yes, keep_no}
use Rattle.ink_list.proofs.TestLaws.{within_back}
use Rattle.list_range.proofs.range.Goals.{then-within, else-within}
use Rattle.list_range.proofs.range.Goals as goal

pub loop-i-init : goal.loop-i-init
loop-i-init c =
    let a = c.args in
    let h = sift_length (places a.out.now) (λ e. within (back w32 a.lower) (back w32 a.upper) e.1) (list_of a.a) in
    record { same = (refl, refl); writing = begin (omega arith) }

pub push-n-requires : goal.push-n-requires
push-n-requires c =
    let a = c.args in
    let l = c.loop-i in
    let la : Lent (places a.out.now) a.a.items.now a.a.values.now = record { long = a.a.parallel; rising = c.requires } in
    has_room l.invariant.writing
    (keep_yes _ (λ e. within (back w32 a.lower) (back w32 a.upper) e.1) _ _ la l.i c.loop-i-test.true (within_back (back w32 a.lower) (back w32 a.upper) (get_or a.a.values.now l.i (pos 0)) (search rules) c.within.ensures ∙ c.if-within.true))

pub loop-i-preserved : goal.loop-i-preserved
loop-i-preserved c =
    let a = c.args in
    let l = c.loop-i in
    let la : Lent (places a.out.now) a.a.items.now a.a.values.now = record { long = a.a.parallel; rising = c.requires } in
    let t = within_back (back w32 a.lower) (back w32 a.upper) (get_or a.a.values.now l.i (pos 0)) (search rules) c.within.ensures in
    elim c.if-within.branch [
      | then-within w ↦
          rw (w.out-is, w.n-is)
          (record {
            same = search rules;
            writing =
                pushed l.invariant.writing (keep_yes _ (λ e. within (back w32 a.lower) (back w32 a.upper) e.1) _ _ la l.i c.loop-i-test.true (t ∙ w.if-within.true))
                (search rules) w.push-n.ensures.0;
          })
      | else-within w ↦
          rw (w.out-is, w.n-is)
          (record {
            same = l.invariant.same;
            writing = turn l.invariant.writing (keep_no _ (λ e. within (back w32 a.lower) (back w32 a.upper) e.1) _ _ la l.i c.loop-i-test.true (t ∙ w.if-within.false));
          })
    ]

pub returns : goal.returns
returns c =
    let a = c.args in
    let l = c.loop-i in
    let la : Lent (places a.out.now) a.a.items.now a.a.values.now = record { long = a.a.parallel; rising = c.requires } in
    λ limit ra. (
      subst (λ (z : ℤ). Wrote (range limit z a.upper (list_of a.a)) l.n a.out.now.items.now l.out.items.now a.out.now.values.now l.out.values.now) (back32 a.lower c.ranges.lower)
          (subst (λ (z : ℤ). Wrote (range limit (back w32 a.lower) z (list_of a.a)) l.n a.out.now.items.now l.out.items.now a.out.now.values.now l.out.values.now) (back32 a.upper c.ranges.upper)
          (rw (← sift_limit (places a.out.now) limit (λ e. within (back w32 a.lower) (back w32 a.upper) e.1) (list_of a.a) (of_lent _ _ _ la) ra)
          (done l.invariant.writing (ap (sift _ _) (rest_done l.i a.a.items.now a.a.values.now c.loop-i-test.false) ∙ sift_nil _ _)))),
      l.invariant.same,
    )
