-- `list_sift::matching` meets its contract: what is left of the answer are the entries that are left whose items are among those that
-- are left of b, or are not. Assumes nothing.
use Rattle.std.proofs.Common.{Bool, refl, sym, ap, ◌∙◌, arith, rules}
use Rattle.std.specs.Bool.{beq}
use Rattle.ink_list.specs.Entries.{member, Ascends, Lent}
use Rattle.ink_list.specs.Lists.{list_of, places}
use Rattle.ink_list.specs.Ops.{sift}
use Rattle.ink_list.proofs.Rests.{rest_done, of_lent}
use Rattle.ink_list.proofs.Output.{begin, has_room, pushed, turn, done}
use Rattle.ink_list.proofs.SiftLaws.{sift_length, sift_limit, sift_nil, skip_rises, match_yes, match_no}
use Rattle.list_sift.proofs.matching.Goals.{then-stands-want, else-stands-want}
use Rattle.list_sift.proofs.matching.Goals as goal

pub loop-i-init : goal.loop-i-init
loop-i-init c =
    let a = c.args in
    let h = sift_length (places a.out.now) (λ e. beq (member a.b.now e.0) a.want) (list_of a.a) in
    record { same = (refl, refl); rising = c.requires.rising_b; writing = begin (omega arith) }

pub push-n-requires : goal.push-n-requires
push-n-requires c =
    let a = c.args in
    let l = c.loop-i in
    let la : Lent (places a.out.now) a.a.items.now a.a.values.now = record { long = a.a.parallel; rising = c.requires.rising_a } in
    has_room l.invariant.writing
    (match_yes _ a.want _ _ la l.i c.loop-i-test.true _ _ l.invariant.rising c.skip_below-left.ensures
    (ap (λ (b : Bool). beq b a.want) (sym c.stands.ensures) ∙ c.if-stands-want.true))

pub loop-i-preserved : goal.loop-i-preserved
loop-i-preserved c =
    let a = c.args in
    let l = c.loop-i in
    let la : Lent (places a.out.now) a.a.items.now a.a.values.now = record { long = a.a.parallel; rising = c.requires.rising_a } in
    let r : Ascends 0 (places a.out.now) c.skip_below-left.result.now = rw c.skip_below-left.ensures (skip_rises _ 0 _ l.left.now l.invariant.rising) in
    let s = ap (λ (b : Bool). beq b a.want) (sym c.stands.ensures) in
    elim c.if-stands-want.branch [
      | then-stands-want w ↦
          rw (w.out-is, w.n-is)
          (record {
            same = search rules;
            rising = r;
            writing =
                pushed l.invariant.writing
                (match_yes _ a.want _ _ la l.i c.loop-i-test.true _ _ l.invariant.rising c.skip_below-left.ensures (s ∙ w.if-stands-want.true))
                (search rules) w.push-n.ensures.0;
          })
      | else-stands-want w ↦
          rw (w.out-is, w.n-is)
          (record {
            same = l.invariant.same;
            rising = r;
            writing =
                turn l.invariant.writing
                (match_no _ a.want _ _ la l.i c.loop-i-test.true _ _ l.invariant.rising c.skip_below-left.ensures (s ∙ w.if-stands-want.false));
          })
    ]

pub returns : goal.returns
returns c =
    let a = c.args in
    let l = c.loop-i in
    let la : Lent (places a.out.now) a.a.items.now a.a.values.now = record { long = a.a.parallel; rising = c.requires.rising_a } in
    λ limit ra. (
      rw (← sift_limit (places a.out.now) limit (λ e. beq (member a.b.now e.0) a.want) (list_of a.a) (of_lent _ _ _ la) ra)
          (done l.invariant.writing (ap (sift _ _) (rest_done l.i a.a.items.now a.a.values.now c.loop-i-test.false) ∙ sift_nil _ _)),
      l.invariant.same,
    )
