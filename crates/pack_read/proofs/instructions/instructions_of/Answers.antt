-- `pack_read::instructions::instructions_of` meets its contract: a sheet has no more instructions than its limit. Assumes nothing.
use Rattle.std.proofs.Common.{◌-◌, arith}
use Rattle.pack.specs.Contents.{literal_count}
use Rattle.pack.specs.Format.{instruction_limit}
use Rattle.pack.specs.Read.{sheet_end}
use Rattle.pack_read.proofs.Few.{few, each_allowed}
use Rattle.pack_read.proofs.instructions.instructions_of.Goals as goal

pub returns-clause-few : goal.returns-clause-few
returns-clause-few c =
    let p = c.args.p.now in
    let first = c.sheet_span-span.ensures.starts in
    omega (arith, few (literal_count p) p (sheet_end p c.args.sheet) (instruction_limit - 0) _ _ first.reach first.from)

pub returns-clause-allowed : goal.returns-clause-allowed
returns-clause-allowed c =
    let p = c.args.p.now in
    let first = c.sheet_span-span.ensures.starts in
    each_allowed (literal_count p) p (sheet_end p c.args.sheet) (instruction_limit - 0) _ _ first.reach first.from
