-- `pack_literals::literal_len` meets its contract: what follows the origin set, in entries. Assumes nothing.
use Prim.Native.Nat.{ℕ, ◌+◌, ◌-◌, ◌/◌}
use mathlib.Core.Path.{◌≡◌, sym, ap, ◌∙◌}
use native.Mathlib.Omega.{arith}
use lib.ListN.{length}
use Rattle.pack.specs.Bodies.{Literal}
use Rattle.pack.specs.Contents.{literal_body, size}
use Rattle.pack.proofs.Listed.{literal_listed, literal_is, entries_long}
use Rattle.pack_literals.proofs.literal_len.Goals as goal

pub overflow_sub-result : goal.overflow_sub-result
overflow_sub-result c =
    let p = c.args.pack.bytes.now in
    let b = literal_body p c.args.l in
    let w : c.byte_at.result + c.args.l ≡ b = omega arith in
    let z : c.size-n.result ≡ size p b = c.size-n.ensures.0 ∙ ap (size p) w in
    omega (arith, (literal_listed c.args.pack.format p c.args.pack.sound.four c.args.l c.requires.l_bound).whole)

pub returns : goal.returns
returns c =
    let p = c.args.pack.bytes.now in
    let b = literal_body p c.args.l in
    let w : c.byte_at.result + c.args.l ≡ b = omega arith in
    let z : c.size-n.result ≡ size p b = c.size-n.ensures.0 ∙ ap (size p) w in
    ap (λ (n : ℕ). (n - 8) / (c.args.pack.format.wide + 4)) z
    ∙ sym (entries_long c.args.pack.format p b)
    ∙ ap (λ (x : Literal). length x.entries) (sym (literal_is c.args.pack.format p c.args.l c.requires.l_bound))
