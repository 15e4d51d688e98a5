-- `list_definitions::all` meets its contract: Invert of no item. Assumes nothing.
use Rattle.list_definitions.proofs.DefLaws.{all_is}
use Rattle.list_definitions.proofs.all.Goals as goal

pub returns : goal.returns
returns c =
    let d = c.args.definitions in
    rw (← all_is d.ends.now d.defined.now c.args.set) c.invert.ensures
