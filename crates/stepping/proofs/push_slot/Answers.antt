-- `stepping::push_slot` meets its contract: question 9, and then the slot's entries copied to their place. Assumes nothing.
use native.Mathlib.Omega.{arith}
use Rattle.ink_list.specs.Entries.{item_numbers}
use Rattle.ink_value.proofs.Reading.{few_in, formed_limit}
use Rattle.operating.proofs.Putting.{place_fits}
use Rattle.stepping.proofs.Pushing.{push_at}
use Rattle.stepping.proofs.push_slot.Goals as goal

pub store-value-requires : goal.store-value-requires
store-value-requires c =
    let a = c.args in
    let g = place_fits a.limit a.n _ (omega (arith, c.if-n-ge-STACK_LIMIT.false)) (few_in a.limit _ _ a.v c.requires.formed) in
    record {
      formed = formed_limit a.limit _ _ item_numbers a.v (omega arith) c.requires.formed;
      room = omega (arith, g);
    }

pub returns : goal.returns
returns c =
    (λ F e. push_at e (omega (arith, c.if-n-ge-STACK_LIMIT.false)) (c.store-value.ensures.0 F (rw e c.requires.formed)), c.store-value.ensures.1)
