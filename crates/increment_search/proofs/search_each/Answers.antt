-- `increment_search::search_each` meets its contract: what is left to store is what is chosen of the definition's values from place k on,
-- those before it being the first k. Assumes nothing.
use Rattle.std.proofs.Common.{[], ◌+◌, ◌<◌, ◌^◌, ◌∙◌, refl, sym, ap, arith, get_or, pos, take}
use mathlib.Core.Path.{ap₂}
use lib.Signed.{mag}
use Rattle.ink_number.proofs.Signed.{returned}
use Rattle.list_definitions.specs.Search.{among}
use Rattle.list_definitions.proofs.Raised.{ints_more}
use Rattle.ink_list.proofs.Output.{begin, turn, has_room, pushed, stored}
use Rattle.list_definitions.proofs.IncrementSearch.{chosen_start, chosen_end, chosen_length, each_yes, each_seen, each_no}
use Rattle.increment_search.specs.Chosen.{values_of}
use Rattle.increment_search.proofs.search_each.Goals as goal
use Rattle.increment_search.proofs.search_each.Goals.{then-hits+then-not-hits, else-hits, else-hits-via-then-hits+else-not-hits, else-hits-via-else-hits}

pub loop-k-init : goal.loop-k-init
loop-k-init c =
    let a = c.args in
    let ds = a.definition.values.now in
    let W = values_of a.raised in
    let h = chosen_length a.definition.first [] ds W in
    record { ints = refl; same = (refl, refl); writing = turn (begin (omega arith)) (chosen_start a.definition.first ds W) }

pub push-n-requires : goal.push-n-requires
push-n-requires c =
    let a = c.args in
    let ds = a.definition.values.now in
    let l = c.loop-k in
    let d = get_or ds l.k (pos 0) in
    let b : mag d < 2 ^ 31 = omega arith in
    let W = values_of a.raised in
    let hit = c.hits.ensures ∙ ap (among W) (returned b) in
    let seen = c.hits-then-hits.ensures ∙ ap₂ among l.invariant.ints (returned b) in
    has_room l.invariant.writing (each_yes a.definition.first ds W l.k c.loop-k-test.true (sym hit ∙ c.if-hits.true) (sym seen ∙ c.if-not-hits.true))

pub loop-k-preserved : goal.loop-k-preserved
loop-k-preserved c =
    let a = c.args in
    let ds = a.definition.values.now in
    let l = c.loop-k in
    let i = l.invariant in
    let d = get_or ds l.k (pos 0) in
    let b : mag d < 2 ^ 31 = omega arith in
    let W = values_of a.raised in
    let hit = c.hits.ensures ∙ ap (among W) (returned b) in
    elim c.if-hits.branch [
      | then-hits+then-not-hits w ↦
          let seen = w.hits-then-hits.ensures ∙ ap₂ among i.ints (returned b) in
          let h = each_yes a.definition.first ds W l.k c.loop-k-test.true (sym hit ∙ w.if-hits.true) (sym seen ∙ w.if-not-hits.true) in
          record {
            ints = ints_more ds l.k c.loop-k-test.true b i.ints;
            same = rw w.out-is (w.push-n.ensures.1.0 ∙ i.same.0, w.push-n.ensures.1.1 ∙ i.same.1);
            writing = rw (w.out-is, w.n-is) (pushed i.writing h b w.push-n.ensures.0);
          }
      | else-hits w ↦ record {
        ints = ints_more ds l.k c.loop-k-test.true b i.ints;
        same = rw w.out-is i.same;
        writing = rw (w.out-is, w.n-is) (elim w.else-hits.branch [
          | else-hits-via-then-hits+else-not-hits x ↦
              let seen = x.hits-then-hits.ensures ∙ ap₂ among i.ints (returned b) in
              turn i.writing (each_seen a.definition.first ds W l.k c.loop-k-test.true (sym hit ∙ x.if-hits.true) (sym seen ∙ x.if-not-hits.false))
          | else-hits-via-else-hits x ↦ turn i.writing (each_no a.definition.first ds W l.k c.loop-k-test.true (sym hit ∙ x.if-hits.false))
        ]);
      }
    ]

pub returns : goal.returns
returns c =
    let a = c.args in
    let ds = a.definition.values.now in
    let l = c.loop-k in (
      stored l.invariant.writing (chosen_end (a.definition.first + l.k) l.k (take l.k ds) ds (values_of a.raised) c.loop-k-test.false),
      l.invariant.same,
    )
