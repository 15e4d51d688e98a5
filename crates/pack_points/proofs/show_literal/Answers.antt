-- `pack_points::show_literal` is safe: a literal has at most as many entries as the pack's format has items. Assumes nothing.
use mathlib.Core.Path.{sym}
use native.Mathlib.Omega.{arith}
use lib.Seq.{length-take-le}
use Rattle.pack.proofs.Listed.{literal_formed}
use Rattle.pack_points.proofs.show_literal.Goals as goal

pub read_literal-n-requires : goal.read_literal-n-requires
read_literal-n-requires c =
    let few = (literal_formed _ c.args.pack.bytes.now c.args.pack.passed c.args.l c.requires.l_bound).few in
    record { l_bound = c.requires.l_bound; room = omega arith }

pub slice_bounds-items-end : goal.slice_bounds-items-end
slice_bounds-items-end c = omega (arith, (literal_formed _ c.args.pack.bytes.now c.args.pack.passed c.args.l c.requires.l_bound).few, c.read_literal-n.ensures.0.counted)

pub slice_bounds-show_last-end : goal.slice_bounds-show_last-end
slice_bounds-show_last-end c = sym (length-take-le c.read_literal-n.result _ (omega (arith, (literal_formed _ c.args.pack.bytes.now c.args.pack.passed c.args.l c.requires.l_bound).few, c.read_literal-n.ensures.0.counted)))

pub slice_bounds-values-end : goal.slice_bounds-values-end
slice_bounds-values-end c = omega (arith, (literal_formed _ c.args.pack.bytes.now c.args.pack.passed c.args.l c.requires.l_bound).few, c.read_literal-n.ensures.0.counted)

pub slice_bounds-show_last-end-2 : goal.slice_bounds-show_last-end-2
slice_bounds-show_last-end-2 c = sym (length-take-le c.read_literal-n.result _ (omega (arith, (literal_formed _ c.args.pack.bytes.now c.args.pack.passed c.args.l c.requires.l_bound).few, c.read_literal-n.ensures.0.counted)))
