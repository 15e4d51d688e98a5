-- A result read back from the result slices, and that it is formed as an operand is; what it is that a value is formed as a literal.
-- Assumes nothing.
use mathlib.Core.Path.{◌≡◌, refl, ap, ◌∙◌}
use mathlib.Core.Bool.{true}
use mathlib.Core.List.{List, [], ◌∷◌, map}
use Prim.Native.Nat.{ℕ, zero, suc, ◌≤◌}
use native.Mathlib.Nat.{le_refl}
use native.Mathlib.Omega.{arith}
use lib.IntN.{ℤ}
use lib.ListN.{length, take}
use lib.Pow.{pow_pos}
use Rattle.ink_list.specs.Entries.{Entry, entries, items, values, Rising, Wrote}
use Rattle.slices.proofs.Every.{and_left, and_right}
use Rattle.slices.specs.Filled.{part}
use Rattle.slices.proofs.Filled.{length_over}
use Rattle.ink_value.specs.Val.{Val, bool, int, float, list, void}
use Rattle.ink_number.specs.Answer.{Answer, gives, refuses}
use Rattle.ink_value.specs.Convert.{entries_of, origins_in}
use Rattle.ink_value.specs.Value.{val_of, first_of, start_of, len_of, placed_val, placed, written, Gave, Formed, outcome_of, AllWf, FirstFormed, formed_in, each_formed, InPack, AllInPack, GivesInPack}
use Rattle.ink_value.specs.declared.Value.{Value}
use Rattle.ink_value.proofs.Reading.{rising_in, entries_in_lem, set_in_lem}
use Rattle.ink_value.proofs.Forming.{formed_yes}
use Rattle.ink_list.proofs.Output.{length_items, length_values}
use Rattle.ink_list.proofs.Wrote.{read_entries, read_lent}
use Rattle.ink_list.proofs.Laws.{rising_length}
use Rattle.ink_list.proofs.Formed.{formed_both, formed_rises}
use Rattle.ink_list.proofs.Rests.{items_entries}

module _ (A : Answer Val) (r : Answer Value) (oi oi' : List ℕ) (ov ov' : List ℤ) (g : Gave A r oi oi' ov ov') where
  wrote : Wrote (written A) (length (written A)) oi oi' ov ov'
  wrote = record { counted = refl; items_out = g.items_out; values_out = g.values_out }

  back : entries (take (length (written A)) oi') (take (length (written A)) ov') ≡ written A
  back = read_entries (written A) (length (written A)) oi oi' ov ov' wrote

reads : (A : Answer Val) (is : List ℕ) (vs : List ℤ) → entries (take (length (written A)) is) (take (length (written A)) vs) ≡ written A
    → outcome_of is vs (placed A) ≡ A
reads (gives (bool b)) is vs h = refl
reads (gives (int z)) is vs h = refl
reads (gives (float x)) is vs h = refl
reads (gives (list o es)) is vs h = ap (λ (l : List Entry). gives (list o l)) h
reads (gives void) is vs h = refl
reads (refuses r) is vs h = refl

-- a call's result stands for its answer
pub read_back : (A : Answer Val) (r : Answer Value) (oi oi' : List ℕ) (ov ov' : List ℤ) → Gave A r oi oi' ov ov' → outcome_of oi' ov' r ≡ A
read_back A r oi oi' ov ov' g = ap (outcome_of oi' ov') g.answered ∙ reads A oi' ov' (back A r oi oi' ov ov' g)

-- a list's result is formed as an operand is
pub formed_back : (limit o : ℕ) (es : List Entry) (r : Answer Value) (oi oi' : List ℕ) (ov ov' : List ℤ) → Gave (gives (list o es)) r oi oi' ov ov'
    → Rising limit es → limit ≤ length oi → limit ≤ length ov → Formed limit oi' ov' (placed_val (list o es))
formed_back limit o es r oi oi' ov ov' g f h k =
    let few = rising_length limit es f in
    record {
      items_in = omega (arith, few, h, ap length g.items_out, length_over (items es) oi (omega (arith, length_items es)));
      values_in = omega (arith, few, k, ap length g.values_out, length_over (values es) ov (omega (arith, length_values es)));
      lent = read_lent es (length es) oi oi' ov ov' (wrote (gives (list o es)) r oi oi' ov ov' g) limit f;
    }

-- the first n of three values that are formed in the slices are well formed
pub first_wf : (limit : ℕ) (is : List ℕ) (vs : List ℤ) (n : ℕ) (a b c : Value) → FirstFormed limit is vs n a b c
    → AllWf limit (first_of is vs n a b c)
first_wf limit is vs zero a b c f = tt
first_wf limit is vs (suc zero) a b c f = (rising_in limit is vs a (f.one (omega arith)), tt)
first_wf limit is vs (suc (suc zero)) a b c f = (rising_in limit is vs a (f.one (omega arith)), (rising_in limit is vs b (f.two (omega arith)), tt))
first_wf limit is vs (suc (suc (suc zero))) a b c f =
    (rising_in limit is vs a (f.one (omega arith)), (rising_in limit is vs b (f.two (omega arith)), (rising_in limit is vs c (f.three (omega arith)), tt)))
first_wf limit is vs (suc (suc (suc (suc n)))) a b c f =
    (rising_in limit is vs a (f.one (omega arith)), (rising_in limit is vs b (f.two (omega arith)), (rising_in limit is vs c (f.three (omega arith)), tt)))

-- ---- formed as a literal

module _ (total d : ℕ) where
  -- a value to which question 7 says yes
  pub in_pack : (is : List ℕ) (vs : List ℤ) (v : Value) → formed_in total d is vs v ≡ true → InPack total d (val_of is vs v)
  in_pack is vs v e =
      let f = formed_yes total d is vs v total (le_refl total) e in
      let same : items (entries_of (val_of is vs v)) ≡ part (start_of v) (len_of v) is =
      ap items (entries_in_lem is vs v) ∙ items_entries (part (start_of v) (len_of v) is) (part (start_of v) (len_of v) vs) f.lent.long in
      rw (set_in_lem is vs v, same) (and_right _ _ e)

  pub each_in_pack : (is : List ℕ) (vs : List ℤ) (l : List Value) → each_formed total d is vs l ≡ true → AllInPack total d (map (val_of is vs) l)
  each_in_pack is vs [] e = tt
  each_in_pack is vs (v ∷ l) e = (in_pack is vs v (and_left _ _ e), each_in_pack is vs l (and_right _ _ e))

  -- a value without entries and origins
  pub plain_in_pack : (v : Val) → origins_in v ≡ 0 → entries_of v ≡ [] → InPack total d v
  plain_in_pack v e f = rw (e, f) (formed_both total d 0 [] (pow_pos d) tt)

  -- its items rise in the pack
  pub pack_rises : (v : Val) → InPack total d v → Rising total (entries_of v)
  pack_rises v h = formed_rises total d (origins_in v) (items (entries_of v)) h

  pub all_rise : (vs : List Val) → AllInPack total d vs → AllWf total vs
  all_rise [] h = tt
  all_rise (v ∷ vs) h = (pack_rises v h.0, all_rise vs h.1)

  -- so a List that is answered has at most as many entries as the pack has items
  pub gives_few : (a : Answer Val) → GivesInPack total d a → length (written a) ≤ total
  gives_few (gives v) h = rising_length total (entries_of v) (pack_rises v h)
  gives_few (refuses r) h = omega arith
