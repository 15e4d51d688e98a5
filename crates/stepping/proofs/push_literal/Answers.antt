-- `stepping::push_literal` meets its contract: question 9, and then the literal's entries read to their place. Assumes nothing.
use mathlib.Core.Path.{ap}
use Prim.Native.Nat.{ℕ, ◌*◌}
use native.Mathlib.Omega.{arith}
use lib.ListN.{length}
use Rattle.pack.specs.Bodies.{decoded}
use Rattle.pack.specs.Read.{literal_of}
use Rattle.pack.proofs.Listed.{literal_formed}
use Rattle.pack.proofs.Values.{pack_tables}
use Rattle.ink_list.proofs.Laws.{rising_limit}
use Rattle.ink_value.specs.declared.Value.TheVariants as Is
use Rattle.stepping.proofs.Pushing.{put_literal, push_at}
use Rattle.operating.proofs.Putting.{place_fits}
use Rattle.stepping.proofs.push_literal.Goals as goal

pub read_literal-len-requires-clause-room : goal.read_literal-len-requires-clause-room
read_literal-len-requires-clause-room c =
    let p = c.args.pack in
    let f = literal_formed p.format p.bytes.now p.read.sound c.args.l c.requires.l_bound in
    let g = place_fits p.definitions.limit c.args.n (length (literal_of (decoded p.format p.bytes.now) c.args.l).entries) (omega (arith, c.if-n-ge-STACK_LIMIT.false)) (omega (arith, f.few, p.read.limit_is)) in
    omega (arith, g, c.requires.roomy.items_room, c.requires.roomy.values_room, p.read.limit_is)

pub returns : goal.returns
returns c =
    let p = c.args.pack in
    let f = literal_formed p.format p.bytes.now p.read.sound c.args.l c.requires.l_bound in
    let t = pack_tables p.format p.bytes.now c.requires.roomy.format.narrow p.read.sound in
    let es = (literal_of (decoded p.format p.bytes.now) c.args.l).entries in (
      λ F e.
          push_at e (omega (arith, c.if-n-ge-STACK_LIMIT.false))
          (put_literal _ _ _ _ _ _ _ _ _ c.read_literal-len.ensures.0 (rising_limit 0 _ F.limit es (omega (arith, t.defined_few, p.read.limit_is, e)) f.rising)
          (ap (λ (o : ℕ). Is.List o (c.args.n * p.definitions.limit) c.read_literal-len.result) c.literal_origins-origins.ensures)),
      c.read_literal-len.ensures.1,
    )
