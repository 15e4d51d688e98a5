-- What a direct call or a conversion answers has room in its words. Assumes nothing.
use mathlib.Core.List.{List}
use Prim.Native.Nat.{ℕ}
use lib.IntN.{ℤ}
use Rattle.ink_value.specs.declared.Kind.{Kind}
use Rattle.ink_value.specs.declared.Value.{Value}
use Rattle.ink_number.specs.Answer.{Answer}
use Rattle.value_conversions.specs.Convert.{coerce}
use Rattle.pack.specs.Format.{format1}
use Rattle.pack.proofs.Formats.{runnable1}
use Rattle.calls.specs.Call.{called, cast_to, coerced, on_pack, Returned, ReturnedPlain}
use Rattle.calls.proofs.Formed.{called_formed, cast_to_formed, coerced_formed, coerce_formed}
use Rattle.value_words.specs.Calls.{SmallOutcome}
use Rattle.value_words.proofs.Few.{pack_small}

module _ (p is : List ℕ) (vs : List ℤ) (r : Answer Value) where
  module _ (oi oi' : List ℕ) (ov ov' : List ℤ) where
    pub small_call : (o n : ℕ) (l : List Value) → Returned (on_pack format1 p (called is vs oi ov o n l)) r oi oi' ov ov' → SmallOutcome r
    small_call o n l w = pack_small runnable1 p (called is vs oi ov o n l) r w.gave.answered (λ u. called_formed u is vs oi ov o n l)

    pub small_cast : (to : Kind) (v : Value) → Returned (on_pack format1 p (cast_to is vs oi ov to v)) r oi oi' ov ov' → SmallOutcome r
    small_cast to v w = pack_small runnable1 p (cast_to is vs oi ov to v) r w.gave.answered (λ u. cast_to_formed u is vs v oi ov to)

  pub small_coerced : (to : Kind) (v : Value) → ReturnedPlain (on_pack format1 p (coerced is vs (coerce to) v)) r → SmallOutcome r
  small_coerced to v w =
      pack_small runnable1 p (coerced is vs (coerce to) v) r w.answered (λ u. coerced_formed u is vs (coerce to) v (coerce_formed u is vs to))
