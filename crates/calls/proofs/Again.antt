-- What a direct call answered can be handed in again: question 7 says yes to it, its entries in the result slices. Assumes nothing.
use mathlib.Core.Path.{◌≡◌, refl, sym, ap, subst}
use mathlib.Core.Bool.{Bool, true, false}
use mathlib.Core.List.{List, [], map}
use Prim.Native.Nat.{ℕ, ◌+◌, ◌≤◌}
use native.Mathlib.Omega.{arith}
use borrow.Author.Tests.{le-leb, leb-true}
use lib.IntN.{ℤ}
use lib.ListN.{length, take}
use Rattle.ink_number.specs.Answer.{Answer, gives, refuses, ask}
use Rattle.slices.specs.Every.{◌and◌}
use Rattle.slices.specs.Filled.{over}
use Rattle.slices.proofs.Every.{and_left, and_right, and_both}
use Rattle.slices.proofs.Filled.{length_over}
use Rattle.ink_list.specs.Entries.{items, values, formed}
use Rattle.ink_list.proofs.Output.{length_items, length_values}
use Rattle.ink_list.proofs.Wrote.{read_items}
use Rattle.list_definitions.specs.Defs.{ListDefinitions}
use Rattle.ink_value.specs.Val.{Val, bool, int, float, list, void}
use Rattle.ink_value.specs.Convert.{entries_of}
use Rattle.ink_value.specs.Value.{val_of, placed_val, written, Gave, formed_in, InPack, GivesInPack}
use Rattle.ink_value.specs.declared.Value.{Value}
use Rattle.ink_value.specs.declared.Value.TheVariants as Is
use Rattle.native_function_call.specs.Apply.{call}
use Rattle.pack.specs.Bodies.{Pack}
use Rattle.pack.specs.declared.format.Format.{Format}
use Rattle.pack.specs.Judge.{judge}
use Rattle.pack.specs.Read.{defined_of, ends_of, definitions_of}
use Rattle.call_memory.specs.Lent.{operands_ok, results_ok}
use Rattle.calls.specs.Call.{called, on_pack}
use Rattle.calls.proofs.Formed.{call_formed, call_few}

-- a value whose entries were written from the start of two slices is formed there
module _ (total d : ℕ) (oi oi' : List ℕ) (ov ov' : List ℤ) where
  none : formed total d 0 [] ≡ true → formed_in total d oi' ov' Is.Void ≡ true
  none h = and_both _ _ (and_both _ _ (le-leb 0 (length oi') (omega arith)) (le-leb 0 (length ov') (omega arith))) h

  stands : (x : Val) → oi' ≡ over (items (entries_of x)) oi → ov' ≡ over (values (entries_of x)) ov → length (entries_of x) ≤ length oi
      → length (entries_of x) ≤ length ov → InPack total d x → formed_in total d oi' ov' (placed_val x) ≡ true
  stands (bool b) p q hi hv h = none h
  stands (int z) p q hi hv h = none h
  stands (float f) p q hi hv h = none h
  stands (list o es) p q hi hv h =
      let n = length es in
      let fits : n ≤ length oi' = omega (arith, ap length p, length_over (items es) oi (omega (arith, length_items es))) in
      let fits' : n ≤ length ov' = omega (arith, ap length q, length_over (values es) ov (omega (arith, length_values es))) in
      let read : take n oi' ≡ items es = read_items es n oi oi' ov ov' (record { counted = refl; items_out = p; values_out = q }) in
      and_both _ _ (and_both _ _ (le-leb (0 + n) (length oi') (omega arith)) (le-leb (0 + n) (length ov') (omega arith))) (rw read h)
  stands void p q hi hv h = none h

module _ (F : Format) (p is : List ℕ) (vs : List ℤ) (oi : List ℕ) (ov : List ℤ) (o n : ℕ) (l : List Value) where
  -- a call that gives a value was lent result slices that are long enough
  roomy : (u : ListDefinitions) (x : Val) → called is vs oi ov o n l u ≡ gives x → (u.limit ≤ length oi) × (u.limit ≤ length ov)
  unfolding called
  roomy u x e = go (operands_ok u is vs (take n l) and results_ok u oi ov) refl e
    where
      go : (t : Bool) → operands_ok u is vs (take n l) and results_ok u oi ov ≡ t → ask 7 t (call u o n (map (val_of is vs) (take n l))) ≡ gives x
          → (u.limit ≤ length oi) × (u.limit ≤ length ov)
      go true q h = (leb-true _ _ (and_left _ _ (and_right _ _ q)), leb-true _ _ (and_right _ _ (and_right _ _ q)))
      go false q h = let z : ◌≡◌ {A = ℕ} 0 1 = cc in absurd (omega arith)

  pub call_again : (d : Pack) → judge F p ≡ gives d → (v : Value) (oi' : List ℕ) (ov' : List ℤ)
      → Gave (on_pack F p (called is vs oi ov o n l)) (gives v) oi oi' ov ov' → formed_in (length (defined_of d)) (length (ends_of d)) oi' ov' v ≡ true
  call_again d e v oi' ov' g =
      go (called is vs oi ov o n l (definitions_of d F)) refl
      (rw e at g) (rw e at (call_formed F p is vs oi ov o n l d e)) (rw e at (call_few F p is vs oi ov o n l))
    where
      go : (a : Answer Val) → called is vs oi ov o n l (definitions_of d F) ≡ a → Gave a (gives v) oi oi' ov ov'
          → GivesInPack (length (defined_of d)) (length (ends_of d)) a → length (written a) ≤ F.limit
          → formed_in (length (defined_of d)) (length (ends_of d)) oi' ov' v ≡ true
      go (gives x) q w h few =
          let r = roomy (definitions_of d F) x q in
          let same : v ≡ placed_val x = cc in
          subst (λ (y : Value). formed_in (length (defined_of d)) (length (ends_of d)) oi' ov' y ≡ true) (sym same)
          (stands (length (defined_of d)) (length (ends_of d)) oi oi' ov ov' x w.items_out w.values_out (omega (arith, few, r.0)) (omega (arith, few, r.1)) h)
      go (refuses k) q w h few = let z : ◌≡◌ {A = ℕ} 0 1 = cc in absurd (omega arith)
