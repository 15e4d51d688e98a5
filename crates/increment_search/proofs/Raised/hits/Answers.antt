-- `increment_search::Raised::hits` meets its contract: the value is not among those before the cursor. Assumes nothing.
use Rattle.std.proofs.Common.{sym, ◌∙◌, get_or, pos, w32, arith}
use Rattle.ink_number.proofs.Signed.{back, read}
use Rattle.list_definitions.specs.Search.{among}
use Rattle.list_definitions.proofs.Raised.{sum_of}
use Rattle.list_definitions.proofs.IncrementSearch.{hit_yes, hit_no, hit_end}
use Rattle.list_definitions.proofs.Order.{bits_same_back, bits_differ_back}
use Rattle.increment_search.specs.Chosen.{values_of}
use Rattle.increment_search.proofs.Raised.hits.Goals as goal

pub returns-then-wrapping_add-v : goal.returns-then-wrapping_add-v
returns-then-wrapping_add-v c =
    let a = c.args in
    let l = c.loop-value in
    let s = sum_of (get_or a.self.values.now l.value-index (pos 0)) a.self.by (omega arith) (omega arith) c.wrapping_add.ensures in
    sym (l.invariant
    ∙ hit_yes a.self.by (back w32 a.v) a.self.values.now l.value-index c.loop-value-test.true
    (rw s (bits_same_back c.wrapping_add.result a.v (record { sfits = c.wrapping_add.type_inv }) c.ranges.v c.if-wrapping_add-v.true)))
    ∙ read (among (values_of a.self)) a.v c.ranges.v

pub loop-value-preserved : goal.loop-value-preserved
loop-value-preserved c =
    let a = c.args in
    let l = c.loop-value in
    let s = sum_of (get_or a.self.values.now l.value-index (pos 0)) a.self.by (omega arith) (omega arith) c.wrapping_add.ensures in
    l.invariant
    ∙ hit_no a.self.by (back w32 a.v) a.self.values.now l.value-index c.loop-value-test.true
    (rw s (bits_differ_back c.wrapping_add.result a.v (record { sfits = c.wrapping_add.type_inv }) c.ranges.v c.if-wrapping_add-v.false))

pub returns : goal.returns
returns c =
    let a = c.args in
    let l = c.loop-value in
    sym (l.invariant ∙ hit_end a.self.by (back w32 a.v) a.self.values.now l.value-index c.loop-value-test.false)
    ∙ read (among (values_of a.self)) a.v c.ranges.v
