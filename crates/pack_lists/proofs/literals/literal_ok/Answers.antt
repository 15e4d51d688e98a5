-- `pack_lists::literals::literal_ok` meets its contract: the length, the origin set and the items, in that order. Assumes nothing.
use Prim.Native.Nat.{ℕ, ◌+◌, ◌*◌, ◌-◌, ◌/◌}
use mathlib.Core.Bool.{true, false}
use mathlib.Core.Path.{◌≡◌, sym, ap, ◌∙◌}
use native.Mathlib.Omega.{arith}
use borrow.Author.Tests.{eq-eqb, ne_eqb}
use Rattle.ink_list.specs.Entries.{ascends, bits_below, formed}
use Rattle.slices.specs.Every.{◌and◌, table}
use Rattle.slices.proofs.Every.{and_no_left, and_no_right}
use Rattle.pack.specs.Bodies.{origins, entry_count, item, literal_ok}
use Rattle.pack.specs.Bytes.{u64}
use Rattle.pack.specs.Contents.{definition_count, size}
use Rattle.pack_lists.proofs.literals.literal_ok.Goals as goal

pub returns-then-n-lt8 : goal.returns-then-n-lt8
unfolding literal_ok
returns-then-n-lt8 c =
    let F = c.args.format in
    let p = c.args.pack.bytes.now in
    let b = c.args.b in
    sym (and_no_left _ _ (ne_eqb (size p b) (8 + (F.wide + 4) * entry_count F p b) (λ e. omega arith)))

pub returns-then-n-format : goal.returns-then-n-format
unfolding literal_ok
returns-then-n-format c =
    let F = c.args.format in
    let p = c.args.pack.bytes.now in
    let b = c.args.b in
    let same : (c.size-n.result - 8) / (F.wide + 4) ≡ entry_count F p b = ap (λ (k : ℕ). (k - 8) / (F.wide + 4)) c.size-n.ensures.0 in
    let no : size p b ≡ 8 + (F.wide + 4) * entry_count F p b → ⊥ =
    λ e. c.if-n-format.true (c.size-n.ensures.0 ∙ e ∙ ap (λ (k : ℕ). 8 + (F.wide + 4) * k) (sym same)) in
    sym (and_no_left _ _ (ne_eqb _ _ no))

pub returns-then-not-bits_below : goal.returns-then-not-bits_below
unfolding literal_ok formed
returns-then-not-bits_below c =
    let F = c.args.format in
    let p = c.args.pack.bytes.now in
    let b = c.args.b in
    let set : c.u64_at.result ≡ origins F p b = c.u64_at.ensures ∙ ap (u64 p) c.offset-at.ensures.0 in
    let no : bits_below (definition_count p) (origins F p b) ≡ false =
    rw (← set, ← c.byte_at.ensures.0) (sym c.bits_below.ensures ∙ c.if-not-bits_below.true) in
    sym (and_no_right _ _ (and_no_left _ _ no))

pub returns : goal.returns
unfolding literal_ok formed ◌and◌
returns c =
    let F = c.args.format in
    let p = c.args.pack.bytes.now in
    let b = c.args.b in
    let same : (c.size-n.result - 8) / (F.wide + 4) ≡ entry_count F p b = ap (λ (k : ℕ). (k - 8) / (F.wide + 4)) c.size-n.ensures.0 in
    let set : c.u64_at.result ≡ origins F p b = c.u64_at.ensures ∙ ap (u64 p) c.offset-at.ensures.0 in
    let low : bits_below (definition_count p) (origins F p b) ≡ true =
    rw (← set, ← c.byte_at.ensures.0) (sym c.bits_below.ensures ∙ c.if-not-bits_below.false) in
    let whole : size p b ≡ 8 + (F.wide + 4) * entry_count F p b =
    sym c.size-n.ensures.0 ∙ c.if-n-format.false ∙ ap (λ (k : ℕ). 8 + (F.wide + 4) * k) same in
    rw (eq-eqb _ _ whole, low)
    (c.items_ok.ensures
    ∙ ap (λ (k : ℕ). ascends 0 c.args.total (table k (item F p b))) same
    ∙ ap (λ (t : ℕ). ascends 0 t (table (entry_count F p b) (item F p b))) c.requires.total_value)
