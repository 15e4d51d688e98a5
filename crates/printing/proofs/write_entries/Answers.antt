-- `printing::write_entries` writes entry after entry. Assumes nothing.
use Rattle.std.proofs.Common.{◌≡◌, ap, sym, ◌∙◌, ℕ, ℤ, ◌<◌, [], ◌∷◌, ◌++◌, length, take, get_or, arith, rules}
use lib.Seq.{take_all}
use Rattle.std.specs.List.{flat_map, zip}
use Rattle.std.proofs.lemmas.List.{take_more, flat_map_more, length_push}
use Rattle.std.proofs.lemmas.Slice.Zip.{zip_turn, zip_end, length-zip, get_or-zip}
use Rattle.std.proofs.Output.{has_written_append, has_written_of_eq}
use Rattle.printing.specs.Text.{entry}
use Rattle.printing.proofs.write_entries.Goals as goal

pub loop-item-preserved : goal.loop-item-preserved
loop-item-preserved g c =
    λ plain.
    let is = c.args.lists.items.now in
    let vs = c.args.lists.values.now in
    let es = zip is vs in
    let xs = c.loop-item.yielded in
    let k = length xs in
    let here = zip_turn is vs xs c.into_iter-item-iterator.result c.loop-item.item-iterator c.next.new.self _ (search rules) (search rules) c.loop-item.yielded_by _ c.in-Some.is c.next.ensures.steps in
    let e : ℕ × ℤ = (c.in-Some.item.now, c.in-Some.value.now) in
    let at : get_or es k e ≡ e = get_or-zip is vs k e here.0 here.1 ∙ cc (here.2 e.0, here.3 e.1) in
    let below : k < length es = omega (arith, length-zip is vs, here.0, here.1) in
    let more : take (length (xs ++ (c.in-Some.item, c.in-Some.value) ∷ [])) es ≡ take k es ++ e ∷ [] =
    ap (λ n. take n es) (length_push xs _) ∙ take_more es k e below ∙ ap (λ x. take k es ++ x ∷ []) at in
    has_written_of_eq _ _ _ _ _ (flat_map_more entry [] (take k es) e ∙ ap (λ l. flat_map entry l) (sym more))
    (has_written_append _ _ _ _ _ _ (c.loop-item.invariant plain) (search rules))

pub returns : goal.returns
returns g c =
    λ plain ok.
    let is = c.args.lists.items.now in
    let vs = c.args.lists.values.now in
    let xs = c.loop-item.yielded in
    let long = zip_end is vs xs c.into_iter-item-iterator.result c.loop-item.item-iterator c.next.new.self _ (search rules) (search rules) c.loop-item.yielded_by c.in-None.is c.next.ensures.steps in
    has_written_of_eq _ _ _ _ _ (ap (λ l. flat_map entry l) (take_all (length xs) (zip is vs) (omega (arith, length-zip is vs, long))))
    (c.loop-item.invariant plain)
