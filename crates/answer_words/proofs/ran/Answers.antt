-- `answer_words::ran` meets its contract: each arm the words of its case. Assumes nothing.
use mathlib.Core.Path.{subst}
use Rattle.std.specs.Prelude.{Result}
use Rattle.ink_value.specs.declared.Value.{Value}
use Rattle.machine.specs.Ended.{end_of}
use Rattle.machine.specs.declared.Stop.{Stop}
use Rattle.answer_words.specs.Answers.{SmallRan}
use Rattle.answer_words.proofs.ran.Goals as goal

pub put_value-requires : goal.put_value-requires
put_value-requires c =
    subst (λ (r : Result Value Stop). SmallRan (end_of r)) c.in-Ok.is c.requires
