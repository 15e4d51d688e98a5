-- An instruction that is its first byte alone. Assumes nothing.
use Prim.Native.Nat.{ℕ, ◌+◌, ◌<◌}
use mathlib.Core.List.{List}
use mathlib.Core.Path.{◌≡◌}
use native.Mathlib.Omega.{arith}
use borrow.Author.Tests.{le-leb}
use Rattle.std.specs.Prelude.{Some}
use Rattle.pack.specs.Bytes.{byte}
use Rattle.pack.specs.Instruction.{taken, instruction}
use Rattle.pack.proofs.Steps.{is_void_lem}

pub void_alone : (L : ℕ) (p : List ℕ) (at end : ℕ) → byte p at ≡ 37 → at < end → Some 1 ≡ taken at end (instruction L p at)
void_alone L p at end h k = rw (is_void_lem L p at h, le-leb (at + 1) end (omega arith))
