-- An outcome stands for the answer that it was made of: a List is read back from the result slices, and of a conversion that gives none the
-- slices do not matter. Assumes nothing.
use mathlib.Core.Path.{◌≡◌, refl, sym, ap, ◌∙◌}
use mathlib.Core.Bool.{Bool, true, false, cond}
use mathlib.Core.List.{List, [], ◌∷◌}
use Prim.Native.Nat.{ℕ}
use lib.Dec.{ltb}
use lib.IntN.{ℤ, pos}
use Rattle.ink_number.specs.Answer.{Answer, gives, refuses, ask, and_then}
use Rattle.ink_number.specs.Int.{eq_z}
use Rattle.list_definitions.specs.Defs.{ListDefinitions}
use Rattle.ink_value.specs.Val.{Val, bool, int, float, list, void, kind_of, code_of}
use Rattle.ink_value.specs.Convert.{as_int, as_float}
use Rattle.value_conversions.specs.Convert.{coerce, coerce_bool, coerce_int, coerce_float}
use Rattle.ink_value.specs.Value.{val_of, placed, outcome_of, Gave}
use Rattle.ink_value.specs.declared.Kind.{Kind}
use Rattle.ink_value.specs.declared.Kind.TheVariants as K
use Rattle.ink_value.specs.declared.Value.{Value}
use Rattle.ink_value.proofs.ReadBack.{read_back}
use Rattle.ink_value.proofs.Given.{gave_is}
use Rattle.pack.specs.Bodies.{Pack, decoded}
use Rattle.pack.specs.Judge.{judge}
use Rattle.pack.specs.Read.{definitions_of}
use Rattle.pack.specs.declared.format.Format.{Format}
use Rattle.call_memory.specs.Lent.{operands_ok}
use Rattle.calls.proofs.Forms.{pack_passed}
use Rattle.calls.specs.Call.{coerced, on_pack, Returned, ReturnedPlain}

pub returned : {a : Answer Val} {r : Answer Value} {oi oi' : List ℕ} {ov ov' : List ℤ} → Gave a r oi oi' ov ov' → Returned a r oi oi' ov ov'
returned g = record { gave = g; stands = read_back _ _ _ _ _ _ g }

-- of a pack that has passed
pub pack_returned : (F : Format) (p : List ℕ) (f : ListDefinitions → Answer Val) {r : Answer Value} {oi oi' : List ℕ} {ov ov' : List ℤ}
    → gives (decoded F p) ≡ judge F p → Gave (f (definitions_of (decoded F p) F)) r oi oi' ov ov' → Returned (on_pack F p f) r oi oi' ov ov'
pack_returned F p f e g = returned (gave_is (pack_passed F p f (sym e)) g)

-- the answer is no List
abbrev pub Plain : Answer Val → Type 0
Plain (gives (bool b)) = Unit {0}
Plain (gives (int z)) = Unit {0}
Plain (gives (float x)) = Unit {0}
Plain (gives (list o es)) = ⊥
Plain (gives void) = Unit {0}
Plain (refuses r) = Unit {0}

plain_stands : (a : Answer Val) → Plain a → (is : List ℕ) (vs : List ℤ) → outcome_of is vs (placed a) ≡ a
plain_stands (gives (bool b)) h is vs = refl
plain_stands (gives (int z)) h is vs = refl
plain_stands (gives (float x)) h is vs = refl
plain_stands (gives (list o es)) h is vs = absurd h
plain_stands (gives void) h is vs = refl
plain_stands (refuses r) h is vs = refl

-- ---- the three conversions give none

allowed : (t : Bool) (x : Val) → Plain (gives x) → Plain (cond t (gives x) (refuses 18))
allowed true x h = h
allowed false x h = tt

pub coerce_plain : (to : Kind) (v : Val) → Plain (coerce to v)
unfolding coerce coerce_bool coerce_int coerce_float
coerce_plain K.Bool v = allowed (ltb (code_of (kind_of v)) 2) (bool (eq_z (as_int v) (pos 1))) tt
coerce_plain K.Int v = allowed (ltb (code_of (kind_of v)) 3) (int (as_int v)) tt
coerce_plain K.Float v = allowed (ltb (code_of (kind_of v)) 3) (float (as_float v)) tt
coerce_plain K.List v = tt
coerce_plain K.Void v = tt

module _ (f : Val → Answer Val) (none : (v : Val) → Plain (f v)) where
  coerced_plain : (is : List ℕ) (vs : List ℤ) (v : Value) (u : ListDefinitions) → Plain (coerced is vs f v u)
  unfolding coerced
  coerced_plain is vs v u = go (operands_ok u is vs (v ∷ [])) (f (val_of is vs v)) (none (val_of is vs v))
    where
      go : (t : Bool) (a : Answer Val) → Plain a → Plain (ask 7 t a)
      go true a h = h
      go false a h = tt

  on_pack_plain : (F : Format) (p is : List ℕ) (vs : List ℤ) (v : Value) → Plain (on_pack F p (coerced is vs f v))
  on_pack_plain F p is vs v = go (judge F p)
    where
      go : (a : Answer Pack) → Plain (and_then a (λ d. coerced is vs f v (definitions_of d F)))
      go (gives d) = coerced_plain is vs v (definitions_of d F)
      go (refuses r) = tt

  coerces : (F : Format) (p is : List ℕ) (vs : List ℤ) (v : Value) (r : Answer Value) → r ≡ placed (on_pack F p (coerced is vs f v))
      → ReturnedPlain (on_pack F p (coerced is vs f v)) r
  coerces F p is vs v r e =
      record { answered = e; stands = λ js ws. ap (outcome_of js ws) e ∙ plain_stands (on_pack F p (coerced is vs f v)) (on_pack_plain F p is vs v) js ws }

  -- a conversion after its questions, of which none said no
  pub coerced_returned : (F : Format) (p is : List ℕ) (vs : List ℤ) (v : Value) (r : Answer Value)
      → on_pack F p (coerced is vs f v) ≡ f (val_of is vs v) → r ≡ placed (f (val_of is vs v)) → ReturnedPlain (on_pack F p (coerced is vs f v)) r
  coerced_returned F p is vs v r e q = coerces F p is vs v r (q ∙ ap placed (sym e))
