-- `ink_list::well_formed::bits_below` meets its contract: 2^64 is above every set; below that, a shift divides by 2^d. Assumes nothing.
use Rattle.ink_list.proofs.Formed.{shifted_out}
use Rattle.ink_list.proofs.well_formed.bits_below.Goals as goal

pub returns : goal.returns
returns c = shifted_out c.args.set c.args.d
