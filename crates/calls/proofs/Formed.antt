-- What direct calls and conversions answer is formed as a literal of the pack, as question 7 asks of operands: its items in the pack, its
-- origin bits below D. Assumes nothing.
use mathlib.Core.Path.{◌≡◌, refl, sym, subst}
use mathlib.Core.Bool.{Bool, true, false, cond}
use mathlib.Core.List.{List, [], ◌∷◌, map}
use Prim.Native.Nat.{ℕ, ◌≤◌}
use native.Mathlib.Omega.{arith}
use lib.Dec.{eqb, ltb}
use lib.IntN.{ℤ, pos}
use lib.ListN.{length, take}
use Rattle.ink_number.specs.Answer.{Answer, gives, refuses, ask, and_then}
use Rattle.ink_number.specs.Int.{eq_z}
use Rattle.slices.specs.Every.{◌and◌}
use Rattle.slices.proofs.Every.{and_left, and_right}
use Rattle.list_definitions.specs.Defs.{ListDefinitions}
use Rattle.ink_value.specs.Val.{Val, bool, int, float, kind_of, code_of}
use Rattle.ink_value.specs.declared.Kind.{Kind}
use Rattle.ink_value.specs.declared.Kind.TheVariants as K
use Rattle.ink_value.specs.Convert.{truthy, as_int, as_float, entries_of, origins_in}
use Rattle.value_conversions.specs.Convert.{castable, converted, cast, coerce, coerce_bool, coerce_int, coerce_float}
use Rattle.ink_value.specs.Value.{val_of, written, InPack, GivesInPack}
use Rattle.ink_value.specs.declared.Value.{Value}
use Rattle.ink_value.proofs.ReadBack.{each_in_pack, plain_in_pack, gives_few}
use Rattle.native_function_call.specs.Apply.{call, apply_op}
use Rattle.native_function_call.proofs.Results.{result_formed}
use Rattle.operator_kinds.specs.Kinds.{known, arity}
use Rattle.pack.specs.Bodies.{Pack}
use Rattle.pack.specs.declared.format.Format.{Format}
use Rattle.pack.specs.Judge.{judge}
use Rattle.pack.specs.Read.{defined_of, ends_of, definitions_of}
use Rattle.pack.proofs.Judged.{judged}
use Rattle.pack.proofs.Values.{few_items}
use Rattle.call_memory.specs.Lent.{operands_ok, results_ok}
use Rattle.calls.specs.Call.{called, cast_to, coerced, on_pack}

-- formed as a literal of a pack with these definitions
abbrev pub GivesIn : ListDefinitions → Answer Val → Type 0
GivesIn u a = GivesInPack (length u.defined) (length u.ends) a

module _ (u : ListDefinitions) (is : List ℕ) (vs : List ℤ) where
  -- an operator on the first n of three operands
  pub called_formed : (oi : List ℕ) (ov : List ℤ) (o n : ℕ) (l : List Value) → GivesIn u (called is vs oi ov o n l u)
  unfolding called call
  called_formed oi ov o n l = go (operands_ok u is vs (take n l) and results_ok u oi ov) refl
    where
      on : operands_ok u is vs (take n l) ≡ true → (s t : Bool) → GivesIn u (ask 8 s (ask 10 t (apply_op u o (map (val_of is vs) (take n l)))))
      on e true true = result_formed u o is vs (take n l) e
      on e true false = tt
      on e false t = tt

      go : (t : Bool) → operands_ok u is vs (take n l) and results_ok u oi ov ≡ t
          → GivesIn u (ask 7 t (ask 8 (known o) (ask 10 (eqb n (arity o)) (apply_op u o (map (val_of is vs) (take n l))))))
      go true e = on (and_left _ _ e) (known o) (eqb n (arity o))
      go false e = tt

  plain : (v : Val) → origins_in v ≡ 0 → entries_of v ≡ [] → InPack (length u.defined) (length u.ends) v
  plain v e f = plain_in_pack (length u.defined) (length u.ends) v e f

  cast_formed : (to : Kind) (x : Val) → InPack (length u.defined) (length u.ends) x → GivesIn u (cast to x)
  unfolding cast converted
  cast_formed to x w = go to (castable to (kind_of x))
    where
      go : (k : Kind) (s : Bool) → GivesIn u (cond s (gives (converted k x)) (refuses 18))
      go K.Bool true = plain (bool (truthy x)) refl refl
      go K.Int true = plain (int (as_int x)) refl refl
      go K.Float true = plain (float (as_float x)) refl refl
      go K.List true = w
      go K.Void true = w
      go k false = tt

  -- a conversion of one value
  pub cast_to_formed : (v : Value) (oi : List ℕ) (ov : List ℤ) (to : Kind) → GivesIn u (cast_to is vs oi ov to v u)
  unfolding cast_to
  cast_to_formed v oi ov to = go (operands_ok u is vs (v ∷ []) and results_ok u oi ov) refl
    where
      go : (t : Bool) → operands_ok u is vs (v ∷ []) and results_ok u oi ov ≡ t → GivesIn u (ask 7 t (cast to (val_of is vs v)))
      go true e = cast_formed to (val_of is vs v) (each_in_pack (length u.defined) (length u.ends) is vs (v ∷ []) (and_right _ _ (and_left _ _ e))).0
      go false e = tt

  -- a coercion answers no List
  plain_if : (s : Bool) (x : Val) → origins_in x ≡ 0 → entries_of x ≡ [] → GivesIn u (cond s (gives x) (refuses 18))
  plain_if true x e f = plain x e f
  plain_if false x e f = tt

  pub coerce_formed : (to : Kind) (x : Val) → GivesIn u (coerce to x)
  unfolding coerce coerce_bool coerce_int coerce_float
  coerce_formed K.Bool x = plain_if (ltb (code_of (kind_of x)) 2) (bool (eq_z (as_int x) (pos 1))) refl refl
  coerce_formed K.Int x = plain_if (ltb (code_of (kind_of x)) 3) (int (as_int x)) refl refl
  coerce_formed K.Float x = plain_if (ltb (code_of (kind_of x)) 3) (float (as_float x)) refl refl
  coerce_formed K.List x = tt
  coerce_formed K.Void x = tt

  pub coerced_formed : (f : Val → Answer Val) (v : Value) → ((x : Val) → GivesIn u (f x)) → GivesIn u (coerced is vs f v u)
  unfolding coerced
  coerced_formed f v h = go (operands_ok u is vs (v ∷ []))
    where
      go : (t : Bool) → GivesIn u (ask 7 t (f (val_of is vs v)))
      go true = h (val_of is vs v)
      go false = tt

-- ---- on any bytes

module _ (F : Format) (p : List ℕ) (f : ListDefinitions → Answer Val) (h : (u : ListDefinitions) → GivesIn u (f u)) where
  pub pack_formed : (d : Pack) → judge F p ≡ gives d → GivesInPack (length (defined_of d)) (length (ends_of d)) (on_pack F p f)
  pack_formed d e = rw e (h (definitions_of d F))

  -- so that at most as many entries are written as the item limit says, in every format
  pub pack_few : length (written (on_pack F p f)) ≤ F.limit
  pack_few = go (judge F p) refl
    where
      go : (a : Answer Pack) → judge F p ≡ a → length (written (and_then a (λ (d : Pack). f (definitions_of d F)))) ≤ F.limit
      go (gives d) e =
          let j = judged F p d e in
          let within : length (defined_of d) ≤ F.limit = subst (λ (x : Pack). length (defined_of x) ≤ F.limit) (sym j.1) (few_items F p j.0) in
          omega (arith, gives_few (length (defined_of d)) (length (ends_of d)) (f (definitions_of d F)) (h (definitions_of d F)))
      go (refuses r) e = omega arith

-- a direct call
module _ (F : Format) (p is : List ℕ) (vs : List ℤ) (oi : List ℕ) (ov : List ℤ) (o n : ℕ) (l : List Value) where
  pub call_formed : (d : Pack) → judge F p ≡ gives d → GivesInPack (length (defined_of d)) (length (ends_of d)) (on_pack F p (called is vs oi ov o n l))
  call_formed d e = pack_formed F p (called is vs oi ov o n l) (λ u. called_formed u is vs oi ov o n l) d e

  pub call_few : length (written (on_pack F p (called is vs oi ov o n l))) ≤ F.limit
  call_few = pack_few F p (called is vs oi ov o n l) (λ u. called_formed u is vs oi ov o n l)
