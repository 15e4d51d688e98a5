-- `pack_lists::definitions::total_items` meets its contract: the sum over the definitions. Assumes nothing.
use Rattle.std.proofs.Common.{rules, ◌≡◌, ap, ◌∙◌, arith, ◌^◌, ◌<◌}
use mathlib.Core.List.{map}
use Rattle.std.proofs.lemmas.Iterator.{serves_from_Range, YieldsList-from_map, YieldsList-from_range}
use Rattle.std.proofs.lemmas.Iterator.Consumers.{sum_from_yields_List, fits_from_yields_list}
use Rattle.std.specs.List.{range_with_len, sum}
use Rattle.pack.specs.Bodies.{count, items_below}
use Rattle.pack.specs.Contents.{definition_count}
use Rattle.pack.proofs.Values.{defined}
use Rattle.pack_lists.proofs.Counts.{counted}
use Rattle.pack_lists.proofs.definitions.total_items.Goals as goal

pub sum-requires-clause-can : goal.sum-requires-clause-can
sum-requires-clause-can c =
    let p = c.args.pack.bytes.now in
    let good = defined c.args.format p c.requires.p_value in (
      tt,
      serves_from_Range (λ x q k. search rules)
          (λ x h b.
          let below : x < definition_count p = omega (arith, ap (λ r. r.end) c.map.ensures.source, b, c.byte_at.ensures.0) in
          let ok = good.each x below in
          search (rules, ok, below)),
    )

pub sum-requires-clause-fits : goal.sum-requires-clause-fits
sum-requires-clause-fits c =
    let p = c.args.pack.bytes.now in
    let h = count c.args.format p in
    let n = definition_count p in
    let few : sum (map h (range_with_len 0 n)) < 2 ^ 64 = omega (arith, counted c.args.format p n, (defined c.args.format p c.requires.p_value).within, c.requires.narrow) in
    fits_from_yields_list c.map.result (2 ^ 64)
    (YieldsList-from_map _ h (YieldsList-from_range 0 c.byte_at.result n c.map.ensures.source (omega (arith, c.byte_at.ensures.0))) c.map.ensures.closure (λ x r q k. search rules)) few

pub returns : goal.returns
returns c =
    let p = c.args.pack.bytes.now in
    let h = count c.args.format p in
    let n = definition_count p in
    let t : c.sum.result ≡ items_below c.args.format p n =
    sum_from_yields_List c.map.result c.sum.result c.sum.ensures.ran
    (YieldsList-from_map _ h (YieldsList-from_range 0 c.byte_at.result n c.map.ensures.source (omega (arith, c.byte_at.ensures.0))) c.map.ensures.closure (λ x r q k. search rules)) ∙ counted c.args.format p n in
    (t, omega (arith, (defined c.args.format p c.requires.p_value).within, c.requires.narrow))
