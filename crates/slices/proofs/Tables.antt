-- Lists that are tables: how long, one element more, by index, and by their elements. Assumes nothing.
use Prim.Native.Nat.{ℕ, zero, suc, ◌+◌, ◌<◌, ◌≤◌}
use mathlib.Core.List.{List, [], ◌∷◌, ◌++◌}
use mathlib.Core.Logic.{⊎_elim}
use mathlib.Core.Path.{◌≡◌, refl, sym, ◌∙◌, subst}
use native.Mathlib.Nat.{eq-or-lt_of_le, le_of_suc-le-suc}
use native.Mathlib.Numerals.{add-one}
use native.Mathlib.Omega.{arith}
use lib.ListN.{length, get_or, take, length-append, get_or-append}
use lib.Seq.{get_or_at, take-suc, take-length}
use Rattle.slices.specs.Every.{table}

module _ {A : Type 0} where
  pub length_table : (n : ℕ) (f : ℕ → A) → length (table n f) ≡ n
  unfolding table
  length_table zero f = refl
  length_table (suc n) f = length-append (table n f) (f n ∷ []) ∙ rw (length_table n f) (add-one n)

  pub table_more : (n : ℕ) (f : ℕ → A) → table (n + 1) f ≡ table n f ++ (f n ∷ [])
  unfolding table
  table_more n f = rw (add-one n)

  pub table_none : (f : ℕ → A) → ◌≡◌ {A = List A} (table 0 f) []
  unfolding table
  table_none f = refl

  pub get_d_table : (n : ℕ) (f : ℕ → A) (k : ℕ) (d : A) → k < n → get_or (table n f) k d ≡ f k
  unfolding table
  get_d_table zero f k d h = absurd (omega arith)
  get_d_table (suc n) f k d h =
      ⊎_elim
      (λ e. subst (λ (j : ℕ). get_or (table n f ++ (f n ∷ [])) j d ≡ f j) (sym e) (get_or_at (table n f) (f n) [] d n (length_table n f)))
      (λ b. get_or-append (table n f) (f n ∷ []) d k (subst (λ (j : ℕ). k < j) (sym (length_table n f)) b) ∙ get_d_table n f k d b)
      (eq-or-lt_of_le (le_of_suc-le-suc h))

  -- two tables are the same by their elements
  pub table_same : (n : ℕ) (f g : ℕ → A) → ((k : ℕ) → k < n → f k ≡ g k) → table n f ≡ table n g
  unfolding table
  table_same zero f g h = refl
  table_same (suc n) f g h = rw (table_same n f g (λ k b. h k (omega arith)), h n (omega arith))

  table_take : (l : List A) (d : A) (n : ℕ) → n ≤ length l → table n (λ k. get_or l k d) ≡ take n l
  unfolding table
  table_take l d zero h = refl
  table_take l d (suc n) h = rw (table_take l d n (omega arith)) (sym (take-suc l n d h))

  -- a table of a list's elements is the list
  pub table_list : (l : List A) (d : A) → table (length l) (λ k. get_or l k d) ≡ l
  table_list l d = table_take l d (length l) (omega arith) ∙ take-length l
