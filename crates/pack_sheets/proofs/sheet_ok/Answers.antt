-- `pack_sheets::sheet_ok` meets its contract, a turn at a time. Assumes nothing.
use Prim.Native.Nat.{◌+◌, ◌-◌}
use mathlib.Core.Path.{◌≡◌, sym, ◌∙◌}
use native.Mathlib.Omega.{arith}
use Rattle.pack.specs.Format.{instruction_limit}
use Rattle.pack.proofs.Laid.{body}
use Rattle.pack.proofs.Steps.{ill, well, ended, spent}
use Rattle.pack_sheets.proofs.sheet_ok.Goals as goal

pub returns-then-at-end : goal.returns-then-at-end
returns-then-at-end c =
    let l = c.loop in
    sym (ended c.byte_at-literals.result c.args.pack.bytes.now (instruction_limit - l.counter) l.at (c.offset-at.result + c.size.result) l.invariant.0 (omega arith))
    ∙ l.invariant.1

pub checked_width-requires : goal.checked_width-requires
checked_width-requires c =
    let b = body c.args.pack.bytes.now c.args.pack.placed c.args.b c.requires.b_bound in
    (omega arith, omega arith)

pub returns-in_default : goal.returns-in_default
returns-in_default c =
    let l = c.loop in
    let end = c.offset-at.result + c.size.result in
    sym (ill c.byte_at-literals.result c.args.pack.bytes.now (instruction_limit - l.counter) l.at end (omega arith) (omega arith) (sym c.in_default.ensures))
    ∙ l.invariant.1

pub loop-preserved : goal.loop-preserved
loop-preserved c =
    let l = c.loop in
    let n = instruction_limit - l.counter in
    let end = c.offset-at.result + c.size.result in
    let less : instruction_limit - (l.counter + 1) ≡ n - 1 = omega arith in
    let g = well c.byte_at-literals.result c.args.pack.bytes.now n l.at end (omega arith) (omega arith) c.in-Some.n (sym c.in-Some.ensures) in
    (g.0, rw less (g.1 ∙ l.invariant.1))

pub returns : goal.returns
returns c =
    let l = c.loop in
    let none : instruction_limit - l.counter ≡ 0 = omega arith in
    sym (spent c.byte_at-literals.result c.args.pack.bytes.now l.at (c.offset-at.result + c.size.result)) ∙ rw none at l.invariant.1
