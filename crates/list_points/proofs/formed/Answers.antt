-- `list_points::formed` meets its contract: a list that is formed rises below the limit, so that it has no more entries. Assumes nothing.
use Rattle.std.proofs.Common.{sym, ◌∙◌}
use Rattle.ink_list.specs.Entries.{Lent, entries}
use Rattle.ink_list.proofs.Formed.{formed_sound}
use Rattle.ink_list.proofs.Laws.{rising_length}
use Rattle.ink_list.proofs.Rests.{length_entries, of_lent}
use Rattle.ink_list.proofs.Wrote.{ascends_limit}
use Rattle.list_points.proofs.formed.Goals as goal

pub invariant_of-result : goal.invariant_of-result
invariant_of-result c = record { parallel = (formed_sound 256 0 0 _ _ (sym c.is_formed.ensures ∙ c.if-is_formed.true)).0.long }

pub returns-then-is_formed : goal.returns-then-is_formed
returns-then-is_formed c =
    let is = c.args.list.items.now in
    let vs = c.args.list.values.now in
    let l : Lent 256 is vs = (formed_sound 256 0 0 is vs (sym c.is_formed.ensures ∙ c.if-is_formed.true)).0 in
    record {
      rising = λ limit h. ascends_limit 0 256 limit is h l.rising;
      few = rw (length_entries is vs l.long) at (rising_length 256 (entries is vs) (of_lent 256 is vs l));
    }
