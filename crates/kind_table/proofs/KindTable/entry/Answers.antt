-- `kind_table::KindTable::entry` meets its contract. Assumes nothing.
use Rattle.op.specs.Op.{op_number}
use Rattle.operator_kinds.specs.Kinds.{kind_entry}
use Rattle.kind_table.proofs.TableTest.{entry_is, entry_listed}
use Rattle.kind_table.proofs.KindTable.entry.Goals as goal

pub returns : goal.returns
returns c =
    let a = c.args in
    c.decoded.ensures (kind_entry (op_number a.op) a.left a.right) (entry_listed (op_number a.op) a.left a.right)
    (rw (c.from-3.ensures, c.from-left.ensures, c.from.ensures, c.from-right.ensures, c.from-2.ensures) (entry_is a.self.now.rows (op_number a.op) a.left a.right a.self.now.right c.requires))
