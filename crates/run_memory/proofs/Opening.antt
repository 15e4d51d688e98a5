-- Questions 1 to 7 of a run: the first no, or the run of the decoded pack. Assumes nothing.
use mathlib.Core.Path.{◌≡◌, refl, sym, ap, ◌∙◌, subst}
use mathlib.Core.Bool.{true, false}
use mathlib.Core.List.{List}
use Prim.Native.Nat.{ℕ, ◌+◌, ◌≤◌, ◌<◌}
use native.Mathlib.Nat.{zero-add}
use native.Mathlib.Omega.{arith}
use lib.Dec.{ltb}
use lib.IntN.{ℤ, pos}
use lib.ListN.{length, get_or, replicate, length-replicate, get_or-replicate}
use borrow.Author.Tests.{leb-true, le-ltb, lt-ltb}
use Rattle.ink_number.specs.Answer.{Answer, gives, refuses, ask}
use Rattle.slices.specs.Filled.{fill}
use Rattle.slices.proofs.Every.{and_left, and_right, and_both, and_no_left, and_no_right}
use Rattle.slices.proofs.Filled.{length_fill, fill_over, get_d_inside}
use Rattle.ink_value.specs.Val.{Val}
use Rattle.ink_value.specs.Value.{all_formed, Formed}
use Rattle.ink_value.specs.declared.Value.{Value}
use Rattle.ink_value.proofs.Forming.{formed_yes}
use Rattle.ink_value.specs.declared.Value.TheVariants as Is
use Rattle.pack.specs.Bodies.{Pack, decoded}
use Rattle.pack.specs.Format.{Runnable, Narrow}
use Rattle.pack.specs.declared.format.Format.{Format}
use Rattle.pack.specs.Read.{ends_of, defined_of, PackRead}
use Rattle.pack.proofs.Values.{pack_tables}
use Rattle.running.specs.Run.{long_enough, RanTo, Memory, run_of, Runs, run_memory}
use Rattle.operating.specs.Stacked.{work_limit}
use Rattle.run_memory.proofs.Forming.{each_at}
use Rattle.machine.specs.Machine.{End, stopped}

-- ---- the answer of questions 1 to 7

pub runs_stopped : {F : Format} (a : Answer Pack) (q s : ℕ) (slots : List Val) (wi : List ℕ) (wv : List ℤ) (ri : List ℕ) (rv : List ℤ) → a ≡ refuses q
    → Runs F a s slots (stopped q 0) wi wi wv wv ri ri rv rv
runs_stopped {F} a q s slots wi wv ri rv e =
    subst (λ (x : Answer Pack). Runs F x s slots (stopped q 0) wi wi wv wv ri ri rv rv) (sym e)
    (record { ran = record { end_is = refl; answered = refl; items_out = refl; values_out = refl }; items_left = refl; values_left = refl })

pub runs_is : {F : Format} (a b : Answer Pack) (s : ℕ) (slots : List Val) (r : End Value) (wi wi' : List ℕ) (wv wv' : List ℤ) (ri ri' : List ℕ) (rv rv' : List ℤ) → a ≡ b
    → Runs F b s slots r wi wi' wv wv' ri ri' rv rv' → Runs F a s slots r wi wi' wv wv' ri ri' rv rv'
runs_is {F} a b s slots r wi wi' wv wv' ri ri' rv rv' e w = subst (λ (x : Answer Pack). Runs F x s slots r wi wi' wv wv' ri ri' rv rv') (sym e) w

pub runs_given : {F : Format} (a : Answer Pack) (p : List ℕ) (s : ℕ) (slots : List Val) (r : End Value) (wi wi' : List ℕ) (wv wv' : List ℤ) (ri ri' : List ℕ) (rv rv' : List ℤ)
    → a ≡ gives (decoded F p) → RanTo (run_of F p s slots) r ri ri' rv rv' → wi' ≡ fill 0 (replicate (work_limit F) 0) wi
    → wv' ≡ fill 0 (replicate (work_limit F) (pos 0)) wv → Runs F a s slots r wi wi' wv wv' ri ri' rv rv'
runs_given {F} a p s slots r wi wi' wv wv' ri ri' rv rv' e w hi hv =
    subst (λ (x : Answer Pack). Runs F x s slots r wi wi' wv wv' ri ri' rv rv') (sym e)
    (record { ran = w; items_left = hi ∙ fill_over (replicate (work_limit F) 0) wi; values_left = hv ∙ fill_over (replicate (work_limit F) (pos 0)) wv })

-- ---- question 7

module _ {F : Format} {p ends : List ℕ} {defined : List ℤ} {limit : ℕ} (r : PackRead F p ends defined limit) {total d : ℕ}
    (hd : d ≡ length ends) (ht : total ≡ length defined) (slots : List Value) (si : List ℕ) (sv : List ℤ) where
  slots_same : all_formed total d si sv slots ≡ all_formed (length (defined_of (decoded F p))) (length (ends_of (decoded F p))) si sv slots
  slots_same = rw (ht, hd, r.defined_are, r.ends_are)

  pub slots_formed : Narrow F → all_formed total d si sv slots ≡ true → (k : ℕ) → k < length slots → Formed F.limit si sv (get_or slots k (Is.Bool false))
  slots_formed n e k h =
      let t = pack_tables F p n r.sound in
      let few : total ≤ F.limit = omega (arith, ht, ap length r.defined_are, t.defined_long, t.defined_few) in
      formed_yes total d si sv (get_or slots k (Is.Bool false)) F.limit few (each_at total d si sv slots (Is.Bool false) (and_right _ _ e) k h)

  module _ (wi : List ℕ) (wv : List ℤ) (ri : List ℕ) (rv : List ℤ) where
    pub slots_no : all_formed total d si sv slots ≡ false
        → ask 7 (run_memory F slots si sv wi wv ri rv (decoded F p)) (gives (decoded F p)) ≡ refuses 7
    unfolding run_memory
    slots_no e = let q : run_memory F slots si sv wi wv ri rv (decoded F p) ≡ false = and_no_left _ _ (sym slots_same ∙ e) in rw q

    pub room_no : long_enough F wi wv ri rv ≡ false
        → ask 7 (run_memory F slots si sv wi wv ri rv (decoded F p)) (gives (decoded F p)) ≡ refuses 7
    unfolding run_memory
    room_no e = let q : run_memory F slots si sv wi wv ri rv (decoded F p) ≡ false = and_no_right _ _ e in rw q

    pub memory_yes : all_formed total d si sv slots ≡ true → long_enough F wi wv ri rv ≡ true
        → ask 7 (run_memory F slots si sv wi wv ri rv (decoded F p)) (gives (decoded F p)) ≡ gives (decoded F p)
    unfolding run_memory
    memory_yes e f = let q : run_memory F slots si sv wi wv ri rv (decoded F p) ≡ true = and_both _ _ (sym slots_same ∙ e) f in rw q

-- the slices that a run writes are long enough
pub record Long (F : Format) (wi : List ℕ) (wv : List ℤ) (ri : List ℕ) (rv : List ℤ) : Type 0 where
  pub work_items : work_limit F ≤ length wi
  pub work_values : work_limit F ≤ length wv
  pub result_items : F.limit ≤ length ri
  pub result_values : F.limit ≤ length rv

pub long_yes : (F : Format) (wi : List ℕ) (wv : List ℤ) (ri : List ℕ) (rv : List ℤ) → long_enough F wi wv ri rv ≡ true → Long F wi wv ri rv
long_yes F wi wv ri rv e =
    record {
      work_items = leb-true _ _ (and_right _ _ (and_left _ _ e));
      work_values = leb-true _ _ (and_right _ _ e);
      result_items = leb-true _ _ (and_left _ _ (and_left _ _ (and_left _ _ e)));
      result_values = leb-true _ _ (and_right _ _ (and_left _ _ (and_left _ _ e)));
    }

module _ (F : Format) {A : Type 0} (z : A) (l : List A) (h : work_limit F ≤ length l) where
  fits : 0 + length (replicate (work_limit F) z) ≤ length l
  fits = omega (arith, length-replicate (work_limit F) z)

  pub zeroed_long : length (fill 0 (replicate (work_limit F) z) l) ≡ length l
  zeroed_long = length_fill 0 (replicate (work_limit F) z) l fits

  zeroed_at : (j : ℕ) → j < work_limit F → get_or (fill 0 (replicate (work_limit F) z) l) j z ≡ z
  zeroed_at j k =
      subst (λ (i : ℕ). get_or (fill 0 (replicate (work_limit F) z) l) i z ≡ z) (zero-add j)
      (get_d_inside 0 (replicate (work_limit F) z) l fits j z (omega (arith, length-replicate (work_limit F) z)) ∙ get_or-replicate (work_limit F) j z z k)

pub zeroed_memory : (F : Format) → Runnable F → (wi wi' : List ℕ) (wv wv' : List ℤ) (ri : List ℕ) (rv : List ℤ)
    → Long F wi wv ri rv → wi' ≡ fill 0 (replicate (work_limit F) 0) wi
    → wv' ≡ fill 0 (replicate (work_limit F) (pos 0)) wv → Memory F wi' wv' ri rv
zeroed_memory F f wi wi' wv wv' ri rv l hi hv =
    rw (hi, hv)
    (record {
      format = f;
      items_room = omega (arith, l.work_items, zeroed_long F 0 wi l.work_items);
      values_room = omega (arith, l.work_values, zeroed_long F (pos 0) wv l.work_values);
      items_zero = zeroed_at F 0 wi l.work_items;
      values_zero = zeroed_at F (pos 0) wv l.work_values;
      result_items = l.result_items;
      result_values = l.result_values;
    })

-- ---- question 6

pub sheet_no : (F : Format) (p : List ℕ) (s : ℕ) (a : Answer Pack) → length (decoded F p).sheets ≤ s → ask 6 (ltb s (length (decoded F p).sheets)) a ≡ refuses 6
sheet_no F p s a h = rw (le-ltb s (length (decoded F p).sheets) h)

pub sheet_yes : (F : Format) (p : List ℕ) (s : ℕ) (a : Answer Pack) → s < length (decoded F p).sheets → ask 6 (ltb s (length (decoded F p).sheets)) a ≡ a
sheet_yes F p s a h = rw (lt-ltb s (length (decoded F p).sheets) h)
