-- `pack_lists::definitions::item_count` meets its contract: a well-formed definition has room for its count. Assumes nothing.
use native.Mathlib.Omega.{arith}
use Rattle.pack.proofs.Laid.{body}
use Rattle.pack.proofs.Values.{counted}
use Rattle.pack_lists.proofs.definitions.item_count.Goals as goal

pub number_at-requires-clause-wide_in_bounds : goal.number_at-requires-clause-wide_in_bounds
number_at-requires-clause-wide_in_bounds c =
    let p = c.args.pack.bytes.now in
    omega (arith, body p c.args.pack.placed c.args.d c.requires.d_bound, counted c.args.format p c.args.d c.requires.d_value)
