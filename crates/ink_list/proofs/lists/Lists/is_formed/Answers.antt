-- `ink_list::lists::Lists::is_formed` meets its contract: the three tests in turn. Assumes nothing.
use mathlib.Core.Path.{sym, ◌∙◌}
use borrow.Author.Tests.{eq-eqb, ne_eqb}
use Rattle.ink_list.specs.Entries.{formed, formed_lent}
use Rattle.slices.proofs.Every.{and_on, and_no_left}
use Rattle.ink_list.proofs.lists.Lists.is_formed.Goals as goal

pub returns-then-self : goal.returns-then-self
unfolding formed_lent
returns-then-self c = sym (and_no_left _ _ (ne_eqb _ _ c.if-self.true))

pub returns-then-not-bits_below : goal.returns-then-not-bits_below
unfolding formed_lent formed
returns-then-not-bits_below c =
    sym (and_on _ _ (eq-eqb _ _ c.if-self.false)
    ∙ and_no_left _ _ (sym c.bits_below.ensures ∙ c.if-not-bits_below.true))

pub returns : goal.returns
unfolding formed_lent formed
returns c =
    c.ascends.ensures
    ∙ sym (and_on _ _ (eq-eqb _ _ c.if-self.false)
    ∙ and_on _ _ (sym c.bits_below.ensures ∙ c.if-not-bits_below.false))
