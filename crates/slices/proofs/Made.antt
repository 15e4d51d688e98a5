-- What `array::from_fn` made is a table, where each call gives the table's element and leaves the closure as it was. Assumes nothing.
use mathlib.Core.Logic.{⊎_elim}
use mathlib.Core.Path.{◌≡◌, sym, subst, ◌∙◌}
use mathlib.Core.List.{List}
use Prim.Native.Nat.{ℕ, zero, suc, ◌+◌, ◌≤◌, ◌<◌}
use native.Mathlib.Nat.{eq-or-lt_of_le}
use native.Mathlib.Omega.{arith}
use lib.ListN.{get_or}
use denote.Param.Members.{Mut}
use Rattle.std.specs.Fn.{Called}
use Rattle.std.specs.Array.{IsFromFnResult, IsFromFnResultFrom}
use Rattle.std.proofs.lemmas.List.{ext_get_or}
use Rattle.slices.specs.Every.{table}
use Rattle.slices.proofs.Tables.{length_table, get_d_table}

module _ {F B : Type 0} (g : Mut F (ℕ × Unit {0}) B) (t : ℕ → B) (f : F) (gives : (i : ℕ) (y : B) (q : F) → Called g f (i, tt) y q → (y ≡ t i) × (q ≡ f)) (d : B) where
  made_at : (ys : List B) (i n k : ℕ) → IsFromFnResultFrom g f ys i n → i ≤ k → k < i + n → get_or ys k d ≡ t k
  made_at ys i zero k e h b = absurd (omega arith)
  made_at ys i (suc n) k (q, y, at, call, rest) h b =
      ⊎_elim
      (λ e. subst (λ (j : ℕ). get_or ys j d ≡ t j) e (at.1 d ∙ (gives i y q call).0))
      (λ l. made_at ys (i + 1) n k (subst (λ (p : F). IsFromFnResultFrom g p ys (i + 1) n) (gives i y q call).1 rest) (omega arith) (omega arith))
      (eq-or-lt_of_le h)

  pub made_table : (ys : List B) (n : ℕ) → IsFromFnResult g f ys n → ys ≡ table n t
  made_table ys n e =
      ext_get_or d ys (table n t) (e.long ∙ sym (length_table n t))
      (λ k b. made_at ys 0 n k e.each (omega arith) (omega (arith, b, e.long)) ∙ sym (get_d_table n t k d (omega (arith, b, e.long))))
