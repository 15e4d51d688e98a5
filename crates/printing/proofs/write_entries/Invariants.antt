-- `printing::write_entries` writes entry after entry. Assumes nothing.
use Rattle.std.proofs.Common.{length, take}
use Rattle.std.specs.List.{flat_map, zip}
use Rattle.std.specs.Fmt.{HasWritten, IsPlainFormatter}
use Rattle.printing.specs.Text.{entry}
use Rattle.printing.proofs.write_entries.Given as goal

abbrev pub invariant-loop-item : goal.invariant-loop-item
invariant-loop-item g l =
    IsPlainFormatter l.initial.f → HasWritten g.W.Write.write_str_gives l.initial.f (flat_map entry (take (length l.yielded) (zip l.lists.items.now l.lists.values.now))) l.f
