-- `pack_points::show_definitions` is safe: the tables of a pack fit the two arrays. Assumes nothing.
use mathlib.Core.Path.{sym}
use lib.Seq.{length-take-le}
use native.Mathlib.Omega.{arith}
use Rattle.pack.proofs.Formats.{runnable1}
use Rattle.pack.proofs.Values.{pack_tables}
use Rattle.pack_points.proofs.show_definitions.Goals as goal

pub read_definitions-d-requires : goal.read_definitions-d-requires
read_definitions-d-requires c =
    let t = pack_tables _ c.args.pack.bytes.now runnable1.narrow c.args.pack.passed in
    record {
      p_in_bounds = omega arith;
      p_in_bounds_2 = omega arith;
    }

pub slice_bounds-ends-end : goal.slice_bounds-ends-end
slice_bounds-ends-end c =
    omega (arith, pack_tables _ c.args.pack.bytes.now runnable1.narrow c.args.pack.passed, c.read_definitions-d.ensures)

pub slice_bounds-numbers-end : goal.slice_bounds-numbers-end
slice_bounds-numbers-end c =
    let t = pack_tables _ c.args.pack.bytes.now runnable1.narrow c.args.pack.passed in
    let r = c.read_definitions-d in
    sym (length-take-le r.result.definitions r.new.ends (omega (arith, r.ensures, r.auto.ends)))
