-- `pack_literals::read_literal` meets its contract: the entries stand after the origin set. Assumes nothing.
use Prim.Native.Nat.{ℕ, ◌+◌, ◌*◌}
use mathlib.Core.List.{List}
use mathlib.Core.Path.{◌≡◌, sym, ap, ◌∙◌}
use native.Mathlib.Omega.{arith}
use lib.IntN.{ℤ}
use lib.ListN.{length}
use Rattle.ink_list.specs.Entries.{items, values}
use Rattle.slices.specs.Every.{table}
use Rattle.slices.specs.Filled.{fill}
use Rattle.pack.specs.Bodies.{Literal, entry_count, item, value}
use Rattle.pack.specs.Contents.{literal_body, offset}
use Rattle.pack.proofs.Laid.{body}
use Rattle.pack.proofs.Listed.{literal_listed, literal_is, entries_long}
use Rattle.pack.specs.Read.{item_from, value_from}
use Rattle.ink_list.proofs.Output.{items_table, values_table}
use Rattle.pack_literals.proofs.read_literal.Goals as goal

pub copy_entries-requires : goal.copy_entries-requires
copy_entries-requires c =
    let p = c.args.pack.bytes.now in
    let b = literal_body p c.args.l in
    let w : c.byte_at.result + c.args.l ≡ b = omega arith in
    let o : c.offset-at.result ≡ offset p b = c.offset-at.ensures.0 ∙ ap (offset p) w in
    let n : c.literal_len-n.result ≡ entry_count c.args.pack.format p b =
    c.literal_len-n.ensures ∙ ap (λ (x : Literal). length x.entries) (literal_is c.args.pack.format p c.args.l c.requires.l_bound) ∙ entries_long c.args.pack.format p b in
    let m : (c.args.pack.format.wide + 4) * c.literal_len-n.result ≡ (c.args.pack.format.wide + 4) * entry_count c.args.pack.format p b = ap (λ (k : ℕ). (c.args.pack.format.wide + 4) * k) n in
    let whole = (literal_listed c.args.pack.format p c.args.pack.sound.four c.args.l c.requires.l_bound).whole in
    record {
      wide_nonzero = (c.args.pack.narrow.some, c.args.pack.narrow.most);
      n_in_bounds = omega (arith, body p c.args.pack.sound.contents b (omega arith), whole, m);
      room = omega (arith, c.literal_len-n.ensures);
    }

pub returns : goal.returns
returns c =
    let p = c.args.pack.bytes.now in
    let b = literal_body p c.args.l in
    let w : c.byte_at.result + c.args.l ≡ b = omega arith in
    let a = c.args in
    let is = literal_is c.args.pack.format p a.l c.requires.l_bound in
    let o : c.offset-at.result ≡ offset p b = c.offset-at.ensures.0 ∙ ap (offset p) w in
    let n : c.literal_len-n.result ≡ entry_count c.args.pack.format p b =
    c.literal_len-n.ensures ∙ ap (λ (x : Literal). length x.entries) is ∙ entries_long c.args.pack.format p b in
    let put-items : ℕ → ℕ → List ℕ = λ (x k : ℕ). fill a.from (table k (item_from c.args.pack.format.wide p (x + 8))) a.out.now.items.now in
    let put-values : ℕ → ℕ → List ℤ = λ (x k : ℕ). fill a.from (table k (value_from c.args.pack.format.wide p (x + 8))) a.out.now.values.now in (
      record {
        counted = c.literal_len-n.ensures;
        items_in = c.copy_entries.ensures.0.0
            ∙ ap (λ (x : ℕ). put-items x c.literal_len-n.result) o
            ∙ ap (λ (k : ℕ). put-items (offset p b) k) n
            ∙ ap (λ (xs : List ℕ). fill a.from xs a.out.now.items.now) (sym (items_table (item c.args.pack.format p b) (value c.args.pack.format p b) (entry_count c.args.pack.format p b)))
            ∙ ap (λ (x : Literal). fill a.from (items x.entries) a.out.now.items.now) (sym is);
        values_in = c.copy_entries.ensures.0.1
            ∙ ap (λ (x : ℕ). put-values x c.literal_len-n.result) o
            ∙ ap (λ (k : ℕ). put-values (offset p b) k) n
            ∙ ap (λ (xs : List ℤ). fill a.from xs a.out.now.values.now) (sym (values_table (item c.args.pack.format p b) (value c.args.pack.format p b) (entry_count c.args.pack.format p b)))
            ∙ ap (λ (x : Literal). fill a.from (values x.entries) a.out.now.values.now) (sym is);
      },
      c.copy_entries.ensures.1,
    )
