-- Lists of the same items. The definition says that every item of either is among the other's; of items that rise it is the same to say that
-- the two are equal, item by item, as the code goes through them, or that they are as many and the left's are all among the right's, as
-- ink_list.rs asks. Assumes nothing.
use mathlib.Core.Path.{◌≡◌, refl, sym, ap, ◌∙◌, subst}
use mathlib.Core.Bool.{Bool, true, false, cond}
use mathlib.Core.Logic.{⊎_elim}
use mathlib.Core.List.{List, [], ◌∷◌}
use Prim.Native.Nat.{ℕ, suc, ◌≤◌}
use native.Mathlib.Nat.{le_refl}
use native.Mathlib.Omega.{arith}
use borrow.Author.Tests.{eqb-true, eqb-false, eq-eqb}
use lib.Dec.{eqb}
use lib.ListN.{length}
use Rattle.slices.specs.Every.{◌and◌}
use Rattle.slices.proofs.Every.{not_both, and_left, and_right, and_both, and_no_right}
use Rattle.ink_list.specs.Entries.{Ascends, member}
use Rattle.ink_list.specs.Ops.{subset, equal}
use Rattle.ink_list.specs.ByFile.{eq_in_file}
use Rattle.ink_list.proofs.Laws.{lt_or_le}
use Rattle.ink_list.proofs.SiftLaws.{member_below}

-- ---- b's items all lie in a

first_in_lem : (x : ℕ) (a : List ℕ) → member (x ∷ a) x ≡ true
first_in_lem x a = rw (eq-eqb x x refl)

in_tail : (k i : ℕ) (is : List ℕ) → member is k ≡ true → member (i ∷ is) k ≡ true
in_tail k i is h = go (eqb i k)
  where
    go : (t : Bool) → cond t true (member is k) ≡ true
    go true = refl
    go false = h

-- where each of b's items is among a's
pub all_in : (a b : List ℕ) → ((k : ℕ) → member b k ≡ true → member a k ≡ true) → subset a b ≡ true
all_in a [] f = refl
all_in a (x ∷ b) f =
    let m : member a x ≡ true = f x (first_in_lem x b) in
    rw m (all_in a b (λ k h. f k (in_tail k x b h)))

-- and then each is
pub is_in : (a b : List ℕ) → subset a b ≡ true → (k : ℕ) → member b k ≡ true → member a k ≡ true
is_in a [] s k h = absurd (not_both h)
is_in a (x ∷ b) s k h = go (member a x) refl s (eqb x k) refl h (λ u m. is_in a b u k m)
  where
    go : (m : Bool) → member a x ≡ m → cond m (subset a b) false ≡ true → (t : Bool) → eqb x k ≡ t → cond t true (member b k) ≡ true
        → (subset a b ≡ true → member b k ≡ true → member a k ≡ true) → member a k ≡ true
    go true m s true e h later = subst (λ (n : ℕ). member a n ≡ true) (eqb-true x k e) m
    go true m s false e h later = later s h
    go false m s t e h later = absurd (not_both s)

-- ---- the same items

pub equal_self : (a : List ℕ) → equal a a ≡ true
unfolding equal
equal_self a = let s = all_in a a (λ k h. h) in and_both _ _ s s

-- the right lacks one of the left's
lacks : (a b : List ℕ) → subset b a ≡ false → equal a b ≡ false
unfolding equal
lacks a b h = and_no_right (subset a b) _ h

-- every number is an item of both or of neither
pub equal_members : (a b : List ℕ) → equal a b ≡ true → (k : ℕ) → member a k ≡ member b k
unfolding equal
equal_members a b h k = go (member a k) refl (member b k) refl
  where
    go : (s : Bool) → member a k ≡ s → (t : Bool) → member b k ≡ t → s ≡ t
    go true p true q = refl
    go false p false q = refl
    go true p false q = absurd (not_both (sym q ∙ is_in b a (and_right _ _ h) k p))
    go false p true q = absurd (not_both (sym p ∙ is_in a b (and_left _ _ h) k q))

pub members_equal : (a b : List ℕ) → ((k : ℕ) → member a k ≡ member b k) → equal a b ≡ true
unfolding equal
members_equal a b f = and_both _ _ (all_in a b (λ k h. f k ∙ h)) (all_in b a (λ k h. sym (f k) ∙ h))

-- ---- rising items

-- what is above y and among y and b's is among b's
past : (y limit : ℕ) (b a : List ℕ) → Ascends (suc y) limit a → subset (y ∷ b) a ≡ true → subset b a ≡ true
past y limit b a r s = all_in b a (λ k h. go k (eqb y k) refl h (is_in (y ∷ b) a s k h))
  where
    go : (k : ℕ) (t : Bool) → eqb y k ≡ t → member a k ≡ true → cond t true (member b k) ≡ true → member b k ≡ true
    go k false e h m = m
    go k true e h m =
        let w = eqb-true y k e in
        absurd (not_both (sym (member_below (suc y) limit k a r (omega arith)) ∙ h))

-- items that all lie in b are no more than b's, and are b's where they are as many
abbrev Inside : List ℕ → List ℕ → Type 0
Inside a b = (length a ≤ length b) × (length a ≡ length b → a ≡ b)

inside : (low limit : ℕ) (a b : List ℕ) → Ascends low limit a → Ascends low limit b → subset b a ≡ true → Inside a b
inside low limit [] [] ra rb s = (le_refl 0, λ e. refl)
inside low limit [] (y ∷ b) ra rb s = (omega arith, λ e. absurd (omega arith))
inside low limit (x ∷ a) [] ra rb s = absurd (not_both s)
inside low limit (x ∷ a) (y ∷ b) ra rb s = go (eqb y x) refl (is_in (y ∷ b) (x ∷ a) s x (first_in_lem x a)) (λ l p u. inside (suc y) limit l b p rb.2 u)
  where
    rest : subset (y ∷ b) a ≡ true
    rest = all_in (y ∷ b) a (λ k h. is_in (y ∷ b) (x ∷ a) s k (in_tail k x a h))

    above : member b x ≡ true → suc y ≤ x
    above m = ⊎_elim (λ l. absurd (not_both (sym (member_below (suc y) limit x b rb.2 l) ∙ m))) (λ l. l) (lt_or_le x (suc y))

    go : (t : Bool) → eqb y x ≡ t → cond t true (member b x) ≡ true → ((l : List ℕ) → Ascends (suc y) limit l → subset b l ≡ true → Inside l b)
        → Inside (x ∷ a) (y ∷ b)
    go true e m later =
        let z : y ≡ x = eqb-true y x e in
        let r : Ascends (suc y) limit a = subst (λ (n : ℕ). Ascends (suc n) limit a) (sym z) ra.2 in
        let i = later a r (past y limit b a r rest) in
        let l : length a ≤ length b = i.0 in
        (omega arith, λ q. ap {B = List ℕ} (λ l. x ∷ l) (i.1 (omega arith)) ∙ ap {B = List ℕ} (λ n. n ∷ b) (sym z))
    go false e m later =
        let r : Ascends (suc y) limit (x ∷ a) = (above m, ra.1, ra.2) in
        let i = later (x ∷ a) r (past y limit b (x ∷ a) r s) in
        let l : suc (length a) ≤ length b = i.0 in
        (omega arith, λ q. absurd (omega arith))

module _ (limit : ℕ) (a b : List ℕ) (ra : Ascends 0 limit a) (rb : Ascends 0 limit b) where
  -- lists of the same items are equal, item by item
  pub equal_is : equal a b ≡ true → a ≡ b
  unfolding equal
  equal_is h =
      let i = inside 0 limit a b ra rb (and_right _ _ h) in
      let j = inside 0 limit b a rb ra (and_left _ _ h) in
      let l : length a ≤ length b = i.0 in
      let n : length b ≤ length a = j.0 in
      i.1 (omega arith)

  pub equal_yes : a ≡ b → equal a b ≡ true
  equal_yes e = subst (λ (l : List ℕ). equal a l ≡ true) e (equal_self a)

  pub equal_no : (a ≡ b → ⊥) → equal a b ≡ false
  equal_no ne = go (equal a b) refl
    where
      go : (t : Bool) → equal a b ≡ t → t ≡ false
      go true h = absurd (ne (equal_is h))
      go false h = refl

  -- what tells whether they are equal, item by item, answers
  pub equal_decided : (t : Bool) → (t ≡ true → a ≡ b) × (a ≡ b → t ≡ true) → t ≡ equal a b
  equal_decided true d = sym (equal_yes (d.0 refl))
  equal_decided false d = sym (equal_no (λ e. absurd (not_both (d.1 e))))

  -- "as the equality in ink_list.rs answers": as many items, and each of the left among the right's
  pub equal_as_file : equal a b ≡ eq_in_file a b
  unfolding eq_in_file ◌and◌
  equal_as_file = go (eqb (length a) (length b)) refl (subset b a) refl
    where
      go : (s : Bool) → eqb (length a) (length b) ≡ s → (t : Bool) → subset b a ≡ t → equal a b ≡ s and t
      go true e true h = equal_yes ((inside 0 limit a b ra rb h).1 (eqb-true _ _ e))
      go true e false h = lacks a b h
      go false e t h = equal_no (λ q. eqb-false _ _ e (ap length q))
