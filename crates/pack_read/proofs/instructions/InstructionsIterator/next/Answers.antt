-- `pack_read::instructions::InstructionsIterator::next` gives the instruction that stands next, and none at the end. Assumes nothing.
use Rattle.std.proofs.Common.{arith, rules}
use Rattle.pack.proofs.Programs.{whole, last_of}
use Rattle.pack_read.proofs.instructions.InstructionsIterator.next.Goals as goal

pub returns-then-self-clause-steps : goal.returns-then-self-clause-steps
returns-then-self-clause-steps c =
    let i = c.self.inside in
    let none = last_of i.pack.now i.sheet i.number i.at c.self.invariant.stands (omega arith) in
    search rules

pub read_instruction-i-requires : goal.read_instruction-i-requires
read_instruction-i-requires c =
    let i = c.self.inside in
    whole i.pack.now i.sheet i.number i.at c.self.invariant.stands (omega arith) (omega arith)
