-- `pack_lists::literals::items_ok` meets its contract. Assumes nothing.
use Rattle.std.proofs.Common.{rules, ℕ, List, ◌≡◌, sym, ap, refl, ◌∙◌, ◌+◌, ◌<◌, ◌≤◌, length, arith, get_or, drop}
use mathlib.Core.Bool.{Bool, false}
use mathlib.Core.Logic.{⊎_elim}
use borrow.Author.Tests.{lt-leb, le-leb}
use Rattle.slices.specs.Every.{table}
use Rattle.slices.proofs.Tables.{length_table, get_d_table}
use Rattle.ink_list.proofs.Formed.{too_low, too_high, goes_on, ascends_end}
use Rattle.ink_list.proofs.Laws.{lt_or_le}
use Rattle.pack.specs.Bodies.{item}
use Rattle.pack.specs.Bytes.{number}
use Rattle.pack.proofs.Laid.{body}
use Rattle.pack_lists.proofs.Chunks.{all_left, turn, number_there, more, none_more}
use Rattle.pack_lists.proofs.literals.items_ok.Invariants.{Rest}
use Rattle.pack_lists.proofs.literals.items_ok.Goals as goal

module _ (all : Bool) (total least : ℕ) (is : List ℕ) (k : ℕ) (h : k < length is) (r : Rest all total least (drop k is)) where
  -- an item that is not above the one before it
  falls : get_or is k 0 < least → all ≡ false
  falls p = ⊎_elim (λ b. r.past b) (λ b. sym (r.within b) ∙ too_low total least is k h p) (lt_or_le total least)

  rises : least ≤ get_or is k 0 → Rest all total (get_or is k 0 + 1) (drop (k + 1) is)
  rises p = record {
    within = λ b. sym (goes_on total least is k h p (omega (arith, b))) ∙ r.within (omega (arith, b, p));
    past = λ b. ⊎_elim (λ q. r.past q) (λ q. sym (r.within q) ∙ too_high total least is k h p (omega (arith, b))) (lt_or_le total least);
  }

pub loop-entry-init : goal.loop-entry-init
loop-entry-init c =
    let a = c.args in
    let laid = body a.pack.bytes.now c.args.pack.placed a.b c.requires.b_bound in (
      0,
      a.n,
      omega arith,
      all_left a.pack.bytes.now (c.offset-first.result + 8) (a.format.wide + 4) a.n _ (omega (arith, laid.ends, c.offset-first.ensures.0, c.requires.b_value)) (search rules),
      search rules,
      record { within = λ b. refl; past = λ b. absurd (omega (arith, b)) },
    )

pub returns-then-item-least : goal.returns-then-item-least
returns-then-item-least c =
    let a = c.args in
    let l = c.loop-entry in
    let i = l.invariant in
    let k = i.0 in
    let f = item a.format a.pack.bytes.now a.b in
    let is : List ℕ = table a.n f in
    let s = c.in-Some.ensures.steps in
    let piece = s.1.1 ∙ i.4 in
    let r = more a.pack.bytes.now _ (a.format.wide + 4) _ _ _ k i.1 i.3 (omega arith) s.1.0 piece in
    let below : k < a.n = omega (arith, i.2, r.1) in
    let this : c.number_at-item.result ≡ get_or is k 0 =
    c.number_at-item.ensures.0 ∙ number_there a.pack.bytes.now _ (a.format.wide + 4) _ _ _ k i.1 i.3 (omega arith) s.1.0 piece a.format.wide 0 (omega arith) ∙ ap (λ (j : ℕ). number a.format.wide a.pack.bytes.now j) (omega (arith, c.offset-first.ensures.0)) ∙ sym (get_d_table a.n f k 0 below) in
    sym (falls _ a.total l.least is k (omega (arith, length_table a.n f, below)) i.5 (omega arith))

pub loop-entry-preserved : goal.loop-entry-preserved
loop-entry-preserved c =
    let a = c.args in
    let l = c.loop-entry in
    let i = l.invariant in
    let k = i.0 in
    let f = item a.format a.pack.bytes.now a.b in
    let is : List ℕ = table a.n f in
    let s = c.in-Some.ensures.steps in
    let piece = s.1.1 ∙ i.4 in
    let r = more a.pack.bytes.now _ (a.format.wide + 4) _ _ _ k i.1 i.3 (omega arith) s.1.0 piece in
    let below : k < a.n = omega (arith, i.2, r.1) in
    let this : c.number_at-item.result ≡ get_or is k 0 =
    c.number_at-item.ensures.0 ∙ number_there a.pack.bytes.now _ (a.format.wide + 4) _ _ _ k i.1 i.3 (omega arith) s.1.0 piece a.format.wide 0 (omega arith) ∙ ap (λ (j : ℕ). number a.format.wide a.pack.bytes.now j) (omega (arith, c.offset-first.ensures.0)) ∙ sym (get_d_table a.n f k 0 below) in
    let rest = rises _ a.total l.least is k (omega (arith, length_table a.n f, below)) i.5 (omega arith) in
    (k + 1, r.0, omega (arith, i.2, r.1), turn a.pack.bytes.now _ (a.format.wide + 4) _ _ _ k i.1 i.3 (omega arith) s.1.0 piece r.0 r.1, s.0 ∙ i.4, rw this rest)

pub returns : goal.returns
returns c =
    let a = c.args in
    let l = c.loop-entry in
    let i = l.invariant in
    let f = item a.format a.pack.bytes.now a.b in
    let none : i.1 ≡ 0 = none_more a.pack.bytes.now _ (a.format.wide + 4) _ i.0 _ i.3 (omega (arith, c.in-None.ensures.steps.1.0, i.4)) in
    let end = ascends_end a.total l.least (table a.n f) i.0 (omega (arith, length_table a.n f, i.2, none)) in
    ⊎_elim
    (λ b. lt-leb l.least a.total b ∙ sym (i.5.past b))
    (λ b. le-leb l.least a.total b ∙ sym (sym (i.5.within b) ∙ end))
    (lt_or_le a.total l.least)
