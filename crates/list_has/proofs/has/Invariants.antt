-- `list_has::has` meets its contract: b's items that are left are to lie among those that are left of a. Assumes nothing.
use Rattle.std.proofs.Common.{◌≡◌, drop}
use Rattle.ink_list.specs.Entries.{Ascends, item_numbers}
use Rattle.ink_list.specs.Ops.{has, subset}
use Rattle.list_has.proofs.has.Given as goal

abbrev pub invariant-loop-x : goal.invariant-loop-x
invariant-loop-x l = record { rising : Ascends 0 item_numbers l.left; rest : has l.a l.b ≡ subset l.left (drop l.x-index l.b) }
