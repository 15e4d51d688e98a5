-- `pack_literals::literal_origins` meets its contract: the first eight bytes of the literal. Assumes nothing.
use Prim.Native.Nat.{◌+◌}
use mathlib.Core.Path.{◌≡◌, sym, ap, ◌∙◌}
use native.Mathlib.Omega.{arith}
use Rattle.pack.specs.Bodies.{Literal}
use Rattle.pack.specs.Bytes.{u64}
use Rattle.pack.specs.Contents.{literal_body, offset}
use Rattle.pack.proofs.Laid.{body}
use Rattle.pack.proofs.Listed.{literal_listed, literal_is}
use Rattle.pack_literals.proofs.literal_origins.Goals as goal

pub u64_at-requires : goal.u64_at-requires
u64_at-requires c =
    let p = c.args.p.now in
    let b = literal_body p c.args.l in
    let w : c.byte_at.result + c.args.l ≡ b = omega arith in
    let o : c.offset-at.result ≡ offset p b = c.offset-at.ensures.0 ∙ ap (offset p) w in
    omega (arith, body p c.requires.sound.contents b (omega arith), (literal_listed c.args.format p c.requires.sound.four c.args.l c.requires.l_bound).whole)

pub returns : goal.returns
returns c =
    let p = c.args.p.now in
    let b = literal_body p c.args.l in
    let w : c.byte_at.result + c.args.l ≡ b = omega arith in
    let o : c.offset-at.result ≡ offset p b = c.offset-at.ensures.0 ∙ ap (offset p) w in
    c.u64_at.ensures ∙ ap (u64 p) o ∙ ap (λ (x : Literal). x.origins) (sym (literal_is c.args.format p c.args.l c.requires.l_bound))
