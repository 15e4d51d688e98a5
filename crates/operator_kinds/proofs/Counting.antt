-- Questions 8 and 10 of an operator, and what its operand count says of its answer on kinds. Assumes nothing.
use mathlib.Core.Path.{◌≡◌, refl, sym, ap, ◌∙◌}
use mathlib.Core.Logic.{◌⊎◌, inl, inr, ⊎_elim}
use mathlib.Core.Bool.{Bool, true, false, cond, ◌||◌, ◌&&◌, not}
use mathlib.Core.List.{List, [], ◌∷◌}
use Prim.Native.Nat.{ℕ, ◌≤◌, ◌<◌, ◌+◌}
use native.Mathlib.Omega.{arith}
use lib.Dec.{eqb, leb}
use lib.ListN.{take}
use borrow.Author.Tests.{leb-true, eq-eqb, ne_eqb, eqb-true, eqb-false, lt-leb}
use Rattle.slices.proofs.Every.{not_both}
use Rattle.ink_number.specs.Answer.{Answer, gives, refuses}
use Rattle.ink_value.specs.Val.{is_list}
use Rattle.ink_value.specs.declared.Kind.{Kind}
use Rattle.ink_value.specs.declared.Kind.TheVariants as K
use Rattle.operator_kinds.specs.Kinds.{is_void, known, unary, arity, operand_count, kind_apply, kind_call, kind_range, kind_entry, kind_unary, kind_binary, KindsGiven}

-- what an operand count says of an operator
pub record Takes (o n : ℕ) : Type 0 where
  pub is_known : known o ≡ true
  pub arity_is : arity o ≡ n

pub takes : (o n : ℕ) → 1 ≤ n → operand_count o ≡ n → Takes o n
unfolding operand_count
takes o n h e = go (known o) refl e
  where
    go : (t : Bool) → known o ≡ t → cond t (arity o) 0 ≡ n → Takes o n
    go true k q = record { is_known = k; arity_is = q }
    go false k q = absurd (omega arith)

arity_unary : (o : ℕ) → arity o ≡ 1 → unary o ≡ true
unfolding arity
arity_unary o e = go (unary o) (eqb o 31) e
  where
    go : (s t : Bool) → cond {A = ℕ} s 1 (cond t 3 2) ≡ 1 → s ≡ true
    go true t q = refl
    go false true q = absurd (omega arith)
    go false false q = absurd (omega arith)

arity_binary : (o : ℕ) → arity o ≡ 2 → unary o ≡ false
unfolding arity
arity_binary o e = go (unary o) (eqb o 31) e
  where
    go : (s t : Bool) → cond {A = ℕ} s 1 (cond t 3 2) ≡ 2 → s ≡ false
    go true t q = absurd (omega arith)
    go false t q = refl

pub entry_one : (o : ℕ) (k j : Kind) → operand_count o ≡ 1 → kind_apply o (k ∷ []) ≡ kind_entry o k j
unfolding kind_apply kind_entry
entry_one o k j e =
    let t = takes o 1 (omega arith) e in
    rw (t.arity_is, t.is_known, arity_unary o t.arity_is)

-- of one operand the right kind says nothing, so the left may stand for it
one_kind : (o : ℕ) (k i j : Kind) → operand_count o ≡ 1 → kind_entry o k i ≡ kind_entry o k j
one_kind o k i j e = sym (entry_one o k i e) ∙ entry_one o k j e

module _ (n : ℕ) (a b : Kind) where
  pub second_alike : n ≡ 1 → a ≡ cond (eqb n 1) a b
  second_alike e = rw (eq-eqb n 1 e) refl

  pub second_entry : (o : ℕ) → operand_count o ≡ n → kind_entry o a (cond (eqb n 1) a b) ≡ kind_entry o a b
  second_entry o e = go (eqb n 1) refl
    where
      go : (t : Bool) → eqb n 1 ≡ t → kind_entry o a (cond t a b) ≡ kind_entry o a b
      go true w = one_kind o a a b (e ∙ eqb-true n 1 w)
      go false w = refl

pub entry_two : (o : ℕ) (j k : Kind) → operand_count o ≡ 2 → kind_apply o (j ∷ k ∷ []) ≡ kind_entry o j k
unfolding kind_apply kind_entry
entry_two o j k e =
    let t = takes o 2 (omega arith) e in
    rw (t.arity_is, t.is_known, arity_binary o t.arity_is)

pub entry_range : (i j k : Kind) → kind_apply 31 (i ∷ j ∷ k ∷ []) ≡ kind_range i j k
unfolding kind_apply arity unary
entry_range i j k = refl

-- range gives lists only
pub range_kind : (a b c k : Kind) → kind_range a b c ≡ gives k → k ≡ K.List
unfolding kind_range
range_kind a b c k e = go (is_void a || is_void b || is_void c) (is_list a) e
  where
    go : (s t : Bool) → cond s (refuses 11) (cond t (gives K.List) (refuses 13)) ≡ gives k → k ≡ K.List
    go true t q = let z : ◌≡◌ {A = ℕ} 0 1 = cc in absurd (omega arith)
    go false true q = cc
    go false false q = let z : ◌≡◌ {A = ℕ} 0 1 = cc in absurd (omega arith)

-- ---- Void

module _ (o : ℕ) (some : 1 ≤ operand_count o) where
  pub void_left : (k : Kind) → refuses 11 ≡ kind_entry o K.Void k
  unfolding kind_entry kind_unary kind_binary
  void_left k = let t = takes o (operand_count o) some refl in rw t.is_known (go (unary o))
    where
      go : (t : Bool) → ◌≡◌ {A = Answer Kind} (refuses 11) (cond t (refuses 11) (refuses 11))
      go true = refl
      go false = refl

  pub void_right : (j : Kind) → (operand_count o ≡ 1 → j ≡ K.Void) → refuses 11 ≡ kind_entry o j K.Void
  unfolding kind_entry kind_unary kind_binary arity
  void_right j h = let t = takes o (operand_count o) some refl in rw t.is_known (go (unary o) refl)
    where
      right : (j : Kind) → ◌≡◌ {A = Answer Kind} (refuses 11) (kind_binary o j K.Void)
      right K.Bool = refl
      right K.Int = refl
      right K.Float = refl
      right K.List = refl
      right K.Void = refl

      go : (t : Bool) → unary o ≡ t → ◌≡◌ {A = Answer Kind} (refuses 11) (cond t (kind_unary o j) (kind_binary o j K.Void))
      go true w = rw (h (sym (takes o (operand_count o) some refl).arity_is ∙ ap (λ (s : Bool). cond {A = ℕ} s 1 (cond (eqb o 31) 3 2)) w)) refl
      go false w = right j

-- three operands: range; else an operator below it
pub is_range : (o : ℕ) → operand_count o ≡ 3 → o ≡ 31
unfolding arity
is_range o e = let t = takes o 3 (omega arith) e in go (unary o) (eqb o 31) refl t.arity_is
  where
    go : (s t : Bool) → eqb o 31 ≡ t → cond {A = ℕ} s 1 (cond t 3 2) ≡ 3 → o ≡ 31
    go true t w q = absurd (omega arith)
    go false true w q = eqb-true o 31 w
    go false false w q = absurd (omega arith)

pub range_three : operand_count 31 ≡ 3
unfolding operand_count known arity unary
range_three = refl

-- an operator that takes operands, and not three, stands below range
pub below_range : (o m : ℕ) → operand_count o ≡ m → 1 ≤ m → (m ≡ 3 → ⊥) → o < 31
unfolding known
below_range o m e h ne = go (eqb o 17) (leb o 31) refl (eqb o 31) refl (takes o m h e).is_known
  where
    go : (s t : Bool) → leb o 31 ≡ t → (r : Bool) → eqb o 31 ≡ r → not s && t ≡ true → o < 31
    go s t q true w k = let z = eqb-true o 31 w in absurd (ne (sym e ∙ (ap operand_count z ∙ range_three)))
    go s true q false w k = let z = eqb-false o 31 w in omega (arith, leb-true o 31 q, z)
    go true false q false w k = absurd (not_both k)
    go false false q false w k = absurd (not_both k)

pub count_three : (o m : ℕ) → operand_count o ≡ m → 1 ≤ m → (m ≡ 1 → ⊥) → (m ≡ 2 → ⊥) → m ≡ 3
unfolding arity
count_three o m e h n1 n2 = let t = takes o m h e in go (unary o) (eqb o 31) t.arity_is
  where
    go : (s t : Bool) → cond {A = ℕ} s 1 (cond t 3 2) ≡ m → m ≡ 3
    go true t q = absurd (n1 (sym q))
    go false true q = sym q
    go false false q = absurd (n2 (sym q))

-- ---- question 8

-- no operator has a number from 32 on
unknown : (n : ℕ) → known (32 + n) ≡ false
unfolding known
unknown n = rw (ne_eqb (32 + n) 17 (λ e. omega arith), lt-leb (32 + n) 31 (omega arith)) refl

pub no_such : (n : ℕ) → 0 ≡ operand_count (32 + n)
unfolding operand_count
no_such n = rw (unknown n) refl

no_operator : (o n : ℕ) (ks : List Kind) → known o ≡ false → kind_call o n ks ≡ refuses 8
unfolding kind_call
no_operator o n ks e = rw e

refused : {o n : ℕ} {ks : List Kind} (q : ℕ) → kind_call o n ks ≡ refuses q → KindsGiven o n ks (refuses q)
refused q e = record { answered = sym e; counted = λ k d. let z : ◌≡◌ {A = ℕ} 0 1 = cc in absurd (omega arith) }

arity_some : (o : ℕ) → (arity o ≡ 1) ⊎ ((arity o ≡ 2) ⊎ (arity o ≡ 3))
unfolding arity
arity_some o = go (unary o) (eqb o 31)
  where
    go : (s t : Bool) → (cond {A = ℕ} s 1 (cond t 3 2) ≡ 1) ⊎ ((cond {A = ℕ} s 1 (cond t 3 2) ≡ 2) ⊎ (cond {A = ℕ} s 1 (cond t 3 2) ≡ 3))
    go true t = inl refl
    go false true = inr (inr refl)
    go false false = inr (inl refl)

pub none_taken : (o n : ℕ) (ks : List Kind) → operand_count o ≡ 0 → KindsGiven o n ks (refuses 8)
unfolding operand_count
none_taken o n ks e = refused 8 (no_operator o n ks (go (known o) e))
  where
    go : (t : Bool) → cond t (arity o) 0 ≡ 0 → t ≡ false
    go true q = absurd (⊎_elim (λ h. omega arith) (λ h. ⊎_elim (λ h. omega arith) (λ h. omega arith) h) (arity_some o))
    go false q = refl

-- ---- question 10

pub miscounted : (o m n : ℕ) (ks : List Kind) → operand_count o ≡ m → (m ≡ 0 → ⊥) → (m ≡ n → ⊥) → KindsGiven o n ks (refuses 10)
unfolding kind_call
miscounted o m n ks e some ne =
    let t = takes o m (omega arith) e in
    refused 10 (rw (t.is_known, t.arity_is, ne_eqb n m (λ q. ne (sym q))))

counted_call : (o n : ℕ) (ks : List Kind) → 1 ≤ n → operand_count o ≡ n → kind_call o n ks ≡ kind_apply o ks
unfolding kind_call
counted_call o n ks h e =
    let t = takes o n h e in
    rw (t.is_known, t.arity_is, eq-eqb n n refl)

-- ---- one and two operands, by the table; three, by range

pub below_three : (o n : ℕ) → 1 ≤ n → operand_count o ≡ n → (n ≡ 3 → ⊥) → (n ≡ 1) ⊎ (n ≡ 2)
below_three o n h e ne =
    let t = takes o n h e in
    ⊎_elim (λ q. inl (sym t.arity_is ∙ q))
    (λ w. ⊎_elim (λ q. inr (sym t.arity_is ∙ q)) (λ q. absurd (ne (sym t.arity_is ∙ q))) w) (arity_some o)

-- an operator below range that takes not one operand takes two
pub two_taken : (o : ℕ) → o < 31 → 1 ≤ operand_count o → (operand_count o ≡ 1 → ⊥) → operand_count o ≡ 2
two_taken o l h ne =
    ⊎_elim (λ q. absurd (ne q)) (λ q. q) (below_three o (operand_count o) h refl (λ q. let w = is_range o q in omega (arith, l, w)))

module _ (o : ℕ) (a b c : Kind) where
  by_entry : (n : ℕ) → operand_count o ≡ n → (n ≡ 1) ⊎ (n ≡ 2) → kind_call o n (take n (a ∷ b ∷ c ∷ [])) ≡ kind_entry o a b
  by_entry n e (inl h) =
      let q : operand_count o ≡ 1 = e ∙ h in
      ap (λ (m : ℕ). kind_call o m (take m (a ∷ b ∷ c ∷ []))) h ∙ counted_call o 1 (a ∷ []) (omega arith) q ∙ entry_one o a b q
  by_entry n e (inr h) =
      let q : operand_count o ≡ 2 = e ∙ h in
      ap (λ (m : ℕ). kind_call o m (take m (a ∷ b ∷ c ∷ []))) h ∙ counted_call o 2 (a ∷ b ∷ []) (omega arith) q ∙ entry_two o a b q

  few : (n : ℕ) (k : Kind) → (n ≡ 1) ⊎ (n ≡ 2) → (n ≡ 3 → ⊥) → (1 ≤ n) × (n ≤ 3) × (n ≡ 3 → k ≡ K.List)
  few n k h ne = (⊎_elim (λ q. omega arith) (λ q. omega arith) h, ⊎_elim (λ q. omega arith) (λ q. omega arith) h, λ q. absurd (ne q))

  pub entry_given : (n : ℕ) (r : Answer Kind) → operand_count o ≡ n → 1 ≤ n → (n ≡ 3 → ⊥) → r ≡ kind_entry o a b
      → KindsGiven o n (take n (a ∷ b ∷ c ∷ [])) r
  entry_given n r e h ne q =
      let w = below_three o n h e ne in
      record { answered = q ∙ sym (by_entry n e w); counted = λ k d. few n k w ne }

  -- an answer that is a kind comes from an operator of one operand or two
  pub entry_count_lem : (n : ℕ) (k : Kind) → operand_count o ≡ n → o < 31 → gives k ≡ kind_entry o a b → (1 ≤ n) × (n ≡ 3 → ⊥)
  unfolding operand_count kind_entry
  entry_count_lem n k e l q = (go (known o) e q, λ t. let w = is_range o (e ∙ t) in omega arith)
    where
      go : (t : Bool) → cond t (arity o) 0 ≡ n → gives k ≡ cond t (cond (unary o) (kind_unary o a) (kind_binary o a b)) (refuses 8) → 1 ≤ n
      go true p w = ⊎_elim (λ h. omega arith) (λ h. ⊎_elim (λ h. omega arith) (λ h. omega arith) h) (arity_some o)
      go false p w = let z : ◌≡◌ {A = ℕ} 0 1 = cc in absurd (omega arith)

  pub range_given : (n : ℕ) (r : Answer Kind) → operand_count o ≡ n → n ≡ 3 → r ≡ kind_range a b c → KindsGiven o n (take n (a ∷ b ∷ c ∷ [])) r
  range_given n r e h q =
      let c3 : operand_count o ≡ 3 = e ∙ h in
      let o31 : o ≡ 31 = is_range o c3 in
      record {
        answered = q ∙ sym (ap (λ (m : ℕ). kind_call o m (take m (a ∷ b ∷ c ∷ []))) h
            ∙ counted_call o 3 (a ∷ b ∷ c ∷ []) (omega arith) c3
            ∙ ap (λ (p : ℕ). kind_apply p (a ∷ b ∷ c ∷ [])) o31
            ∙ entry_range a b c);
        counted = λ k d. (omega (arith, h), omega (arith, h), λ t. range_kind a b c k (sym q ∙ d));
      }
