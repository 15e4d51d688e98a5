-- `pack_sheets::sheet_ok` meets its contract. The loop's invariant: whether the instructions from `at` on, at most as many as are left of the
-- limit, are well formed is whether all are. Assumes nothing.
use Prim.Native.Nat.{◌-◌, ◌≤◌}
use mathlib.Core.Path.{◌≡◌}
use Rattle.pack.specs.Bodies.{sheet}
use Rattle.pack.specs.Format.{instruction_limit}
use Rattle.pack.specs.Instruction.{is_some, instructions}
use Rattle.pack_sheets.proofs.sheet_ok.Given as goal

abbrev pub invariant-loop : goal.invariant-loop
invariant-loop l =
    (l.at ≤ l.end) × (is_some (instructions l.literals l.pack.bytes.now (instruction_limit - l.counter) l.at l.end) ≡ is_some (sheet l.pack.bytes.now l.b))
