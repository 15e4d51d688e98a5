-- A run ends in a value that is formed as a literal of the pack, as question 7 asks of slots: its items in the pack, its origin bits below D.
-- Assumes nothing.
use mathlib.Core.Path.{◌≡◌, refl, subst}
use mathlib.Core.List.{List, map}
use Prim.Native.Nat.{ℕ, ◌≤◌}
use native.Mathlib.Omega.{arith}
use lib.IntN.{ℤ}
use lib.ListN.{length}
use Rattle.ink_number.specs.Answer.{Answer, gives, refuses}
use Rattle.slices.proofs.Every.{and_left, and_right}
use Rattle.ink_list.proofs.Laws.{rising_length}
use Rattle.ink_value.specs.Val.{Val}
use Rattle.ink_value.specs.Convert.{entries_of}
use Rattle.ink_value.specs.Value.{val_of}
use Rattle.ink_value.specs.declared.Value.{Value}
use Rattle.ink_value.proofs.ReadBack.{each_in_pack, pack_rises}
use Rattle.pack.specs.Bodies.{Pack}
use Rattle.pack.specs.declared.format.Format.{Format}
use Rattle.pack.specs.Read.{defined_of, ends_of, definitions_of, literal_of, sheet_of}
use Rattle.pack.specs.Judge.{judge}
use Rattle.pack.proofs.Judged.{judged}
use Rattle.pack.proofs.Listed.{literals_formed}
use Rattle.pack.proofs.Values.{few_items}
use Rattle.machine.specs.Machine.{End, ended, stopped}
use Rattle.machine.specs.Whole.{opened}
use Rattle.machine.proofs.Wellformed.{EndFormed, run_formed}
use Rattle.machine.proofs.Whole.{opened_judged}
use Rattle.running.specs.Run.{run_memory, end_entries, end_after}

module _ (F : Format) (p : List ℕ) (s : ℕ) (l : List Value) (si : List ℕ) (sv : List ℤ) (wi : List ℕ) (wv : List ℤ) (ri : List ℕ) (rv : List ℤ) where
  -- how a run ends
  abbrev run_end : End Val
  run_end = end_after F s (map (val_of si sv) l) (opened F p s (run_memory F l si sv wi wv ri rv))

  formed_end : (d : Pack) → opened F p s (run_memory F l si sv wi wv ri rv) ≡ gives d
      → EndFormed (length (defined_of d)) (length (ends_of d)) (end_after F s (map (val_of si sv) l) (gives d))
  unfolding run_memory
  formed_end d e =
      let o = opened_judged F p s (run_memory F l si sv wi wv ri rv) d e in
      let j = judged F p d o.0 in
      run_formed (definitions_of d F) (literal_of d) (map (val_of si sv) l)
      (rw j.1 (literals_formed F p j.0))
      (each_in_pack (length (defined_of d)) (length (ends_of d)) si sv l (and_right _ _ (and_left _ _ o.1))) (sheet_of d s)

  -- of a pack that passed
  pub end_formed : (d : Pack) → judge F p ≡ gives d → EndFormed (length (defined_of d)) (length (ends_of d)) run_end
  end_formed d e = go (opened F p s (run_memory F l si sv wi wv ri rv)) refl
    where
      go : (a : Answer Pack) → opened F p s (run_memory F l si sv wi wv ri rv) ≡ a
          → EndFormed (length (defined_of d)) (length (ends_of d)) (end_after F s (map (val_of si sv) l) a)
      go (gives x) q =
          let o = opened_judged F p s (run_memory F l si sv wi wv ri rv) x q in
          let same : x ≡ d = cc in
          subst (λ (y : Pack). EndFormed (length (defined_of y)) (length (ends_of y)) (end_after F s (map (val_of si sv) l) (gives x))) same (formed_end x q)
      go (refuses r) q = tt

  end_few : (total d : ℕ) (e : End Val) → EndFormed total d e → length (end_entries e) ≤ total
  end_few total d (ended v) h = rising_length total (entries_of v) (pack_rises total d v h)
  end_few total d (stopped r k) h = omega arith

  -- so that it writes at most as many entries as the item limit, in every format
  pub run_few : length (end_entries run_end) ≤ F.limit
  run_few = go (opened F p s (run_memory F l si sv wi wv ri rv)) refl
    where
      go : (a : Answer Pack) → opened F p s (run_memory F l si sv wi wv ri rv) ≡ a → length (end_entries (end_after F s (map (val_of si sv) l) a)) ≤ F.limit
      go (gives d) e =
          let j = judged F p d (opened_judged F p s (run_memory F l si sv wi wv ri rv) d e).0 in
          let few : length (defined_of d) ≤ F.limit = rw j.1 (few_items F p j.0) in
          omega (arith, end_few (length (defined_of d)) (length (ends_of d)) (end_after F s (map (val_of si sv) l) (gives d)) (formed_end d e))
      go (refuses r) e = omega arith
