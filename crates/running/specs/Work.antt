-- The words of the inner contracts: an instruction's operands, the places of the work slices that a run has used, and how the work ends.
-- Assumes nothing.
-- For inner steps alone: no entry point's contract cites it.
use Rattle.std.specs.Prelude.{◌≡◌, false, List, ℕ, ◌+◌, ◌-◌, ◌≤◌, ◌<◌, ℤ, pos, length, get_or}
use Rattle.slices.specs.Filled.{Outside}
use Rattle.ink_value.specs.Val.{Val}
use Rattle.ink_value.specs.Value.{Formed}
use Rattle.pack.specs.declared.format.Format.{Format}
use Rattle.machine.specs.Machine.{End, stack_limit, ended, stopped}
use Rattle.operating.specs.Stacked.{start_at}
use Rattle.running.specs.Run.{end_in}
use Rattle.ink_value.specs.declared.Value.{Value}
use Rattle.ink_value.specs.declared.Value.TheVariants as Is
use Rattle.ink_value.specs.declared.operands.Operands.{Operands}

-- ---- operands

-- the `count` topmost of a stack of n that is held in an array, in order, where there are as many
pub record Topmost (stack : List Value) (n count : ℕ) (o : Operands) : Type 0 where
  pub counted : o.count ≡ count
  pub one : 0 < count → count ≤ n → o.first ≡ get_or stack (n - count) (Is.Bool false)
  pub two : 1 < count → count ≤ n → o.second ≡ get_or stack (n - count + 1) (Is.Bool false)
  pub three : 2 < count → count ≤ n → o.third ≡ get_or stack (n - count + 2) (Is.Bool false)

-- ---- the places that are used

-- used has for each place of the stack how many entries it had at most: no others have changed
pub record Touched {X : Type 0} (F : Format) (d : X) (used : List ℕ) (old new : List X) : Type 0 where
  pub long : length new ≡ length old
  pub kept : (j : ℕ) → ((q : ℕ) → q < stack_limit → Outside (start_at F q) (get_or used q 0) j) → get_or new j d ≡ get_or old j d

-- the greatest length at a place, after one of n entries
pub record Longest (used used' : List ℕ) (place n : ℕ) : Type 0 where
  pub long : length used' ≡ length used
  pub kept : (q : ℕ) → get_or used q 0 ≤ get_or used' q 0
  pub covers : n ≤ get_or used' place 0
  pub few : (m : ℕ) → ((q : ℕ) → get_or used q 0 ≤ m) → n ≤ m → (q : ℕ) → get_or used' q 0 ≤ m

-- ---- how the work ends

-- a List that is left is well formed
abbrev pub EndFormed : Format → List ℕ → List ℤ → End Value → Type 0
EndFormed F wi wv (ended v) = Formed F.limit wi wv v
EndFormed F wi wv (stopped r k) = Unit {0}

-- the work comes to the end e, a List's entries in the work slices
pub record Worked (F : Format) (e : End Val) (r : End Value) (used : List ℕ) (wi wi' : List ℕ) (wv wv' : List ℤ) : Type 0 where
  pub end_is : end_in wi' wv' r ≡ e
  pub end_formed : EndFormed F wi' wv' r
  pub items_touched : Touched F 0 used wi wi'
  pub values_touched : Touched F (pos 0) used wv wv'
  pub few : (q : ℕ) → get_or used q 0 ≤ F.limit
