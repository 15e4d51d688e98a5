-- `pack_read::sheet_span` meets its contract: instruction 0 stands where the sheet starts. Assumes nothing.
use Prim.Native.Nat.{ℕ, ◌+◌}
use mathlib.Core.Path.{◌≡◌, sym, ap, ◌∙◌, subst}
use native.Mathlib.Omega.{arith}
use Rattle.pack.specs.Contents.{sheet_body, offset, size}
use Rattle.pack.specs.Read.{Standing}
use Rattle.pack.proofs.Laid.{body}
use Rattle.pack.proofs.Programs.{first}
use Rattle.pack_read.proofs.sheet_span.Goals as goal

pub returns : goal.returns
returns c =
    let p = c.args.p.now in
    let b = sheet_body p c.args.s in
    let w : c.byte_at.result + c.byte_at-2.result + c.args.s ≡ b = omega arith in
    let o : c.offset-start.result ≡ offset p b = c.offset-start.ensures.0 ∙ ap (offset p) w in
    let z : c.size.result ≡ size p b = c.size.ensures.0 ∙ ap (size p) w in
    record {
      starts = subst (λ (x : ℕ). Standing p c.args.s 0 x) (sym o) (first p c.args.s c.requires.placed.1 c.requires.s_bound);
      ends = omega arith;
      within = omega (arith, body p c.requires.placed.0 b (omega arith));
    }
