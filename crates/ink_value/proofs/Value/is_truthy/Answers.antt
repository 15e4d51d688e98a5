-- `ink_value::is_truthy` meets its contract: a list's entries that stand whole are as many as it says. Assumes nothing.
use mathlib.Core.Path.{ap, sym}
use lib.Dec.{ltb}
use Rattle.ink_value.proofs.Reading.{length_at}
use Rattle.ink_value.proofs.Value.is_truthy.Goals as goal

pub returns-in-List : goal.returns-in-List
returns-in-List c = rw c.in-List.is (λ is vs h. sym (ap (ltb 0) (length_at is vs c.in-List.start c.in-List.len h.0 h.1)))
