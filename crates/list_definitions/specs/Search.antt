-- What the steps of increment's search within one definition answer.
use Rattle.std.specs.Prelude.{◌≡◌, Bool, true, false, cond, List, [], ◌∷◌, ◌++◌, ℕ, suc, ℤ, pos, ◌+ℤ◌}
use Rattle.std.proofs.Math.Option.{none, some}
use Rattle.std.specs.Int.Signed.{lt_z}
use Rattle.ink_number.specs.Int.{eq_z, wrap}
use Rattle.ink_list.specs.Entries.{Entry, put}

-- is v among the values
abbrev pub among : List ℤ → ℤ → Bool
among [] v = false
among (w ∷ ws) v = cond (eq_z w v) true (among ws v)

-- each value with an Int added, wrapping
abbrev pub raised : ℤ → List ℤ → List ℤ
raised by [] = []
raised by (v ∷ vs) = wrap (v +ℤ by) ∷ raised by vs

-- strictly rising, from above v on
abbrev pub rises_above : ℤ → List ℤ → Bool
rises_above v [] = true
rises_above v (w ∷ ws) = cond (lt_z v w) (rises_above w ws) false

abbrev pub rises : List ℤ → Bool
rises [] = true
rises (v ∷ vs) = rises_above v vs

-- do the values rise strictly, once `by` is added; and where they were all seen, each is an Int
pub record Rose (by : ℤ) (vs : List ℤ) (answer : Bool) : Type 0 where
  pub told : answer ≡ rises (raised by vs)
  pub ints : answer ≡ true → raised (pos 0) vs ≡ vs

-- of a definition's values vs, whose items are numbered from k on, those that are among ws and not among the values before
abbrev pub chosen : ℕ → List ℤ → List ℤ → List ℤ → List Entry
chosen k before [] ws = []
chosen k before (v ∷ vs) ws =
    put k (cond (among ws v) (cond (among before v) none (some v)) none) (chosen (suc k) (before ++ (v ∷ [])) vs ws)
