-- The answers of a run and of vetting in words. Assumes nothing.
use Rattle.std.specs.Prelude.{◌≡◌, List, ℕ, ℤ}
use Rattle.ink_number.specs.Answer.{Answer}
use Rattle.ink_value.specs.Val.{Val}
use Rattle.pack.specs.Bodies.{Pack}
use Rattle.pack.specs.declared.format.Format.{Format}
use Rattle.running.specs.Run.{ran_to, end_after, Runs}
use Rattle.vetting.specs.Vet.{Vets}
use Rattle.words_out.specs.Words.{words_of, Small}
use Rattle.value_words.specs.Calls.{index_words}
use Rattle.machine.specs.Machine.{End, ended, stopped}
use Rattle.ink_value.specs.declared.Value.{Value}

-- the number that is returned: 0, or the question's
abbrev pub end_number : {X : Type 0} → End X → ℕ
end_number (ended x) = 0
end_number (stopped r k) = r

-- ---- a run

abbrev pub ran_words : End Value → List ℕ
ran_words (ended v) = words_of v
ran_words (stopped r k) = index_words k

abbrev pub SmallRan : End Value → Type 0
SmallRan (ended v) = Small v
SmallRan (stopped r k) = Unit {0}

-- the end is answered, and the slices are left as `Runs` says
pub record RunSays (F : Format) (a : Answer Pack) (s : ℕ) (slots : List Val) (n : ℕ) (ws wi wi' : List ℕ) (wv wv' : List ℤ) (ri ri' : List ℕ) (rv rv' : List ℤ) : Type 0 where
  pub number : n ≡ end_number (ran_to (end_after F s slots a))
  pub words : ws ≡ ran_words (ran_to (end_after F s slots a))
  pub leaves : Runs F a s slots (ran_to (end_after F s slots a)) wi wi' wv wv' ri ri' rv rv'

-- ---- vetting

-- passed: the count of instructions
abbrev pub vetted_index : End ℕ → ℕ
vetted_index (ended n) = n
vetted_index (stopped r k) = k

pub record VetSays (F : Format) (p : List ℕ) (s : ℕ) (codes : List ℕ) (n index : ℕ) (old new : List ℕ) : Type 0 where
  pub vetted : End ℕ
  pub answers : Vets F p s codes vetted old new
  pub number : n ≡ end_number vetted
  pub index_is : index ≡ vetted_index vetted
