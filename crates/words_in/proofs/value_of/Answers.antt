-- `words_in::value_of` meets its contract: a word that is no kind's code has no value. Assumes nothing.
use mathlib.Core.Path.{subst, ◌∙◌, sym}
use native.Mathlib.Omega.{arith}
use borrow.Author.Tests.{ne_eqb}
use Prim.Native.Nat.{◌≤◌}
use Rattle.slices.proofs.Every.{cond_same}
use Rattle.words_in.specs.Words.{Coded, value_of, plain_at}
use Rattle.words_in.proofs.value_of.Goals as goal

pub returns-in-None : goal.returns-in-None
unfolding value_of plain_at
returns-in-None c =
    let h : 5 ≤ c.args.code = subst (Coded c.args.code) c.in-None.is c.kind_of.ensures in
    c.unheld.ensures ∙ sym (rw (ne_eqb c.args.code 3 (omega arith), ne_eqb c.args.code 0 (omega arith), ne_eqb c.args.code 1 (omega arith), ne_eqb c.args.code 2 (omega arith), ne_eqb c.args.code 4 (omega arith)) (cond_same _ _))
