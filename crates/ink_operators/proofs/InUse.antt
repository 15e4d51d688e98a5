-- Every number that an exported function returns is 0 or that of a question in use, whatever it is lent; so none is 14 or 16, which are
-- retired. By the contracts alone, in every format. Assumes nothing.
use mathlib.Core.Path.{◌≡◌, refl, sym, ◌∙◌}
use mathlib.Core.Logic.{◌⊎◌, inl, inr}
use mathlib.Core.Bool.{Bool, true, false, cond}
use mathlib.Core.List.{List, [], ◌∷◌, map}
use Prim.Native.Nat.{ℕ}
use native.Mathlib.Omega.{arith}
use lib.Dec.{eqb, ltb}
use lib.IntN.{ℤ, pos}
use lib.ListN.{take}
use Rattle.ink_number.specs.Answer.{Answer, gives, refuses, in_use, ask}
use Rattle.ink_number.specs.Int.{eq_z}
use Rattle.slices.specs.Every.{◌and◌}
use Rattle.slices.proofs.Every.{not_both}
use Rattle.ink_value.specs.Val.{Val, bool, int, float, kind_of, code_of}
use Rattle.ink_value.specs.declared.Kind.{Kind}
use Rattle.ink_value.specs.declared.Kind.TheVariants as K
use Rattle.ink_value.specs.Convert.{as_int, as_float}
use Rattle.ink_value.specs.Value.{val_of}
use Rattle.ink_value.specs.declared.Value.{Value}
use Rattle.value_conversions.specs.Convert.{castable, converted, cast, coerce_bool, coerce_int, coerce_float}
use Rattle.operator_kinds.specs.Kinds.{known, arity}
use Rattle.list_definitions.specs.Defs.{ListDefinitions}
use Rattle.native_function_call.specs.Apply.{apply_op, call}
use Rattle.pack.specs.Bodies.{Pack}
use Rattle.pack.specs.Judge.{judge}
use Rattle.pack.specs.Read.{definitions_of}
use Rattle.pack.specs.declared.format.Format.{Format}
use Rattle.machine.specs.Foretold.{verdict, turned}
use Rattle.machine.specs.Machine.{End, ended, stopped}
use Rattle.machine.specs.Whole.{opened, sheet_run, sheet_vet}
use Rattle.machine.proofs.Numbers.{Numbered, NumberedEnd, asks, chosen, then_numbered, judge_numbered, operator_numbered, vet_numbered, run_numbered}
use Rattle.call_memory.specs.Lent.{operands_ok, results_ok}
use Rattle.calls.specs.Call.{called, cast_to, coerced, on_pack}
use Rattle.value_words.specs.Calls.{number_of, Says, Calls}
use Rattle.definition_tables.specs.Tables.{Reads, tables_long}
use Rattle.running.specs.Run.{ran_to}
use Rattle.vetting.specs.Vet.{vet_memory, Vets}
use Rattle.answer_words.specs.Answers.{end_number, RunSays, VetSays}

-- 0, or a number in use
abbrev pub InUse : ℕ → Type 0
InUse n = (n ≡ 0) ⊎ (in_use n ≡ true)

-- a number that is retired is none that is returned
not_retired : (r : ℕ) → in_use r ≡ false → (r ≡ 0 → ⊥) → (n : ℕ) → InUse n → n ≡ r → ⊥
not_retired r retired above n (inl h) e = above (sym e ∙ h)
not_retired r retired above n (inr h) e = not_both (sym retired ∙ (rw e at h))

pub not_14 : (n : ℕ) → InUse n → n ≡ 14 → ⊥
not_14 = not_retired 14 refl (λ e. omega arith)

pub not_16 : (n : ℕ) → InUse n → n ≡ 16 → ⊥
not_16 = not_retired 16 refl (λ e. omega arith)

said_in_use : (a : Answer Val) (n : ℕ) (ws : List ℕ) → Numbered a → Says a n ws → InUse n
said_in_use (gives x) n ws h w = inl w.number
said_in_use (refuses r) n ws h w = inr (rw w.number h)

-- ---- a call and the conversions

called_numbered : (is : List ℕ) (vs : List ℤ) (oi : List ℕ) (ov : List ℤ) (o c : ℕ) (l : List Value) (u : ListDefinitions) → Numbered (called is vs oi ov o c l u)
unfolding called call
called_numbered is vs oi ov o c l u =
    let xs = map (val_of is vs) (take c l) in
    let ten = ask 10 (eqb c (arity o)) (apply_op u o xs) in
    asks 7 (operands_ok u is vs (take c l) and results_ok u oi ov) (ask 8 (known o) ten) refl
    (asks 8 (known o) ten refl (asks 10 (eqb c (arity o)) (apply_op u o xs) refl (operator_numbered u o xs)))

converted_numbered : (b : Bool) (x : Val) → Numbered (cond b (gives x) (refuses 18))
converted_numbered b x = chosen b (gives x) (refuses 18) tt refl

cast_numbered : (is : List ℕ) (vs : List ℤ) (oi : List ℕ) (ov : List ℤ) (to : Kind) (v : Value) (u : ListDefinitions) → Numbered (cast_to is vs oi ov to v u)
unfolding cast_to cast
cast_numbered is vs oi ov to v u =
    let x = val_of is vs v in
    asks 7 (operands_ok u is vs (v ∷ []) and results_ok u oi ov) (cast to x) refl (converted_numbered (castable to (kind_of x)) (converted to x))

pub bool_numbered : (x : Val) → Numbered (coerce_bool x)
unfolding coerce_bool
bool_numbered x = converted_numbered (ltb (code_of (kind_of x)) (code_of K.Float)) (bool (eq_z (as_int x) (pos 1)))

pub int_numbered : (x : Val) → Numbered (coerce_int x)
unfolding coerce_int
int_numbered x = converted_numbered (ltb (code_of (kind_of x)) (code_of K.List)) (int (as_int x))

pub float_numbered : (x : Val) → Numbered (coerce_float x)
unfolding coerce_float
float_numbered x = converted_numbered (ltb (code_of (kind_of x)) (code_of K.List)) (float (as_float x))

coerced_numbered : (is : List ℕ) (vs : List ℤ) (f : Val → Answer Val) (v : Value) (u : ListDefinitions) → ((x : Val) → Numbered (f x)) → Numbered (coerced is vs f v u)
unfolding coerced
coerced_numbered is vs f v u h = asks 7 (operands_ok u is vs (v ∷ [])) (f (val_of is vs v)) refl (h (val_of is vs v))

pack_numbered : (F : Format) (p : List ℕ) (f : ListDefinitions → Answer Val) → ((u : ListDefinitions) → Numbered (f u)) → Numbered (on_pack F p f)
pack_numbered F p f h = then_numbered (judge F p) (λ d. f (definitions_of d F)) (judge_numbered F p) (λ d. h (definitions_of d F))

-- ---- the exported functions, by their contracts

number_in_use : (a : Answer Pack) → Numbered a → InUse (number_of a)
number_in_use (gives d) h = inl refl
number_in_use (refuses r) h = inr h

-- `ink_check`
pub check_in_use : (F : Format) (p : List ℕ) (n : ℕ) → n ≡ number_of (judge F p) → InUse n
check_in_use F p n e = rw e (number_in_use (judge F p) (judge_numbered F p))

-- `ink_definitions`
pub definitions_in_use : (F : Format) (d : Pack) (n : ℕ) (ends ends' : List ℕ) (defined defined' : List ℤ) (counts counts' : List ℕ)
    → Reads (ask 7 (tables_long F ends defined) (gives d)) n ends ends' defined defined' counts counts' → InUse n
definitions_in_use F d n ends ends' defined defined' counts counts' w =
    let long = tables_long F ends defined in
    rw w.number (number_in_use (ask 7 long (gives d)) (asks 7 long (gives d) refl tt))

module _ (F : Format) (p : List ℕ) (n : ℕ) (ws is : List ℕ) (vs : List ℤ) where
  -- the three `ink_coerce_to_`
  pub coerce_in_use : (f : Val → Answer Val) (v : Value) → ((x : Val) → Numbered (f x)) → Says (on_pack F p (coerced is vs f v)) n ws → InUse n
  coerce_in_use f v h = said_in_use _ n ws (pack_numbered F p (coerced is vs f v) (λ u. coerced_numbered is vs f v u h))

  module _ (oi oi' : List ℕ) (ov ov' : List ℤ) where
    -- `ink_call`
    pub call_in_use : (o c : ℕ) (l : List Value) → Calls (on_pack F p (called is vs oi ov o c l)) n ws oi oi' ov ov' → InUse n
    call_in_use o c l w = said_in_use _ n ws (pack_numbered F p (called is vs oi ov o c l) (called_numbered is vs oi ov o c l)) w.says

    -- `ink_call_checked`, `ink_apply`
    pub checked_in_use : (o c : ℕ) (l : List Value) (u : ListDefinitions) → Calls (called is vs oi ov o c l u) n ws oi oi' ov ov' → InUse n
    checked_in_use o c l u w = said_in_use _ n ws (called_numbered is vs oi ov o c l u) w.says

    -- `ink_cast`
    pub cast_in_use : (to : Kind) (v : Value) → Calls (on_pack F p (cast_to is vs oi ov to v)) n ws oi oi' ov ov' → InUse n
    cast_in_use to v w = said_in_use _ n ws (pack_numbered F p (cast_to is vs oi ov to v) (cast_numbered is vs oi ov to v)) w.says

end_in_use : (e : End Val) → NumberedEnd e → InUse (end_number (ran_to e))
end_in_use (ended v) h = inl refl
end_in_use (stopped r k) h = inr h

-- the number that vetting's answer has
pub turned_numbered : (e : End Kind) (q k : ℕ) → turned q k ≡ verdict e → NumberedEnd e → in_use q ≡ true
turned_numbered (ended x) q k h n = let z : ◌≡◌ {A = ℕ} 0 1 = cc in absurd (omega arith)
turned_numbered (stopped r i) q k h n = let e : q ≡ r = cc in rw e n

module _ (F : Format) (p : List ℕ) (s : ℕ) where
  -- `ink_run`, `ink_run_checked`
  pub run_in_use : (memory : Pack → Bool) (slots : List Val) (n : ℕ) (ws wi wi' : List ℕ) (wv wv' : List ℤ) (ri ri' : List ℕ) (rv rv' : List ℤ)
      → RunSays F (opened F p s memory) s slots n ws wi wi' wv wv' ri ri' rv rv' → InUse n
  run_in_use memory slots n ws wi wi' wv wv' ri ri' rv rv' w = rw w.number (end_in_use (sheet_run F p s memory slots).end (run_numbered F p s memory slots))

  -- `ink_vet`
  pub vet_in_use : (codes f f' : List ℕ) (n index : ℕ) → VetSays F p s codes n index f f' → InUse n
  vet_in_use codes f f' n index w = rw w.number (go w.vetted w.answers)
    where
      go : (v : End ℕ) → Vets F p s codes v f f' → InUse (end_number v)
      go (ended m) a = inl refl
      go (stopped q k) a = inr (turned_numbered (sheet_vet F p s (vet_memory codes f) _).end q k a.right (vet_numbered F p s (vet_memory codes f) _))
