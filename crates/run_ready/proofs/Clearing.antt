-- Work slices that are clear stay as they are. Assumes nothing.
use mathlib.Core.Path.{◌≡◌, sym, ◌∙◌, subst}
use mathlib.Core.List.{List}
use Prim.Native.Nat.{ℕ}
use lib.IntN.{ℤ, pos}
use Rattle.ink_number.specs.Answer.{Answer, gives}
use Rattle.slices.proofs.Filled.{over_same}
use Rattle.ink_value.specs.Val.{Val}
use Rattle.pack.specs.Bodies.{Pack, decoded}
use Rattle.pack.specs.Format.{Runnable}
use Rattle.pack.specs.declared.format.Format.{Format}
use Rattle.operating.specs.Stacked.{work_limit}
use Rattle.running.specs.Run.{RanTo, Memory, run_of, Runs}
use Rattle.run_memory.proofs.Opening.{Long}
use Rattle.run_ready.specs.Work.{Clear}
use Rattle.machine.specs.Machine.{End}
use Rattle.ink_value.specs.declared.Value.{Value}

pub clear_memory : (F : Format) → Runnable F → (wi : List ℕ) (wv : List ℤ) (ri : List ℕ) (rv : List ℤ) → Clear F wi wv → Long F wi wv ri rv → Memory F wi wv ri rv
clear_memory F f wi wv ri rv z l =
    record {
      format = f;
      items_room = l.work_items;
      values_room = l.work_values;
      items_zero = z.items_clear;
      values_zero = z.values_clear;
      result_items = l.result_items;
      result_values = l.result_values;
    }

pub runs_clear : {F : Format} (a : Answer Pack) (p : List ℕ) (s : ℕ) (slots : List Val) (r : End Value) (wi wi' : List ℕ) (wv wv' : List ℤ) (ri ri' : List ℕ) (rv rv' : List ℤ)
    → Clear F wi wv → Long F wi wv ri rv → a ≡ gives (decoded F p) → RanTo (run_of F p s slots) r ri ri' rv rv' → wi' ≡ wi → wv' ≡ wv
    → Runs F a s slots r wi wi' wv wv' ri ri' rv rv'
runs_clear {F} a p s slots r wi wi' wv wv' ri ri' rv rv' z l e w hi hv =
    subst (λ (x : Answer Pack). Runs F x s slots r wi wi' wv wv' ri ri' rv rv') (sym e)
    (record {
      ran = w;
      items_left = hi ∙ sym (over_same 0 (work_limit F) wi l.work_items z.items_clear);
      values_left = hv ∙ sym (over_same (pos 0) (work_limit F) wv l.work_values z.values_clear);
    })
