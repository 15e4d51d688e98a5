-- A List that is answered has at most as many entries as a pack may have items, so that its length stands whole in its word. Assumes
-- nothing.
use mathlib.Core.Path.{◌≡◌, sym, subst}
use mathlib.Core.List.{List}
use Prim.Native.Nat.{ℕ, ◌≤◌, ◌<◌}
use native.Mathlib.Omega.{arith}
use lib.ListN.{length}
use Rattle.ink_number.specs.Answer.{Answer, gives, refuses}
use Rattle.ink_list.specs.Entries.{item_numbers}
use Rattle.list_definitions.specs.Defs.{ListDefinitions}
use Rattle.ink_value.specs.Val.{Val, bool, int, float, list, void}
use Rattle.ink_value.specs.Value.{written, placed}
use Rattle.pack.specs.Format.{Runnable}
use Rattle.pack.specs.declared.format.Format.{Format}
use Rattle.calls.specs.Call.{on_pack}
use Rattle.calls.proofs.Formed.{GivesIn, pack_few}
use Rattle.value_words.specs.Calls.{SmallOutcome}
use Rattle.ink_value.specs.declared.Value.{Value}

few_outcome : (L : ℕ) → L < item_numbers → (a : Answer Val) → length (written a) ≤ L → SmallOutcome (placed a)
few_outcome L b (gives (bool t)) h = tt
few_outcome L b (gives (int z)) h = tt
few_outcome L b (gives (float x)) h = tt
few_outcome L b (gives (list o es)) h = (omega arith, omega (arith, h))
few_outcome L b (gives void) h = tt
few_outcome L b (refuses r) h = tt

pub small_outcome : (L : ℕ) → L < item_numbers → (a : Answer Val) (o : Answer Value) → o ≡ placed a → length (written a) ≤ L → SmallOutcome o
small_outcome L b a o e h = subst SmallOutcome (sym e) (few_outcome L b a h)

-- a call or a conversion on a pack
pub pack_small : {F : Format} → Runnable F → (p : List ℕ) (f : ListDefinitions → Answer Val) (o : Answer Value) → o ≡ placed (on_pack F p f)
    → ((u : ListDefinitions) → GivesIn u (f u)) → SmallOutcome o
pack_small {F} w p f o e h = small_outcome F.limit (omega (arith, w.few)) (on_pack F p f) o e (pack_few F p f h)
