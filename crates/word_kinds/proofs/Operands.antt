-- Operands in their words: the parts are the value's, and so is the kind. Assumes nothing.
use mathlib.Core.Path.{◌≡◌, refl, sym, ap, ◌∙◌, subst}
use mathlib.Core.Bool.{Bool, true, false, cond, ◌||◌, ◌&&◌}
use mathlib.Core.Logic.{◌⊎◌, inl, inr, ⊎_elim}
use mathlib.Core.List.{List, [], ◌∷◌, map}
use Prim.Native.Nat.{ℕ, zero, suc, ◌+◌, ◌*◌, ◌/◌, ◌%◌, ◌^◌, ◌<◌, ◌≤◌}
use native.Mathlib.Omega.{arith}
use lib.Dec.{eqb, ltb, leb}
use lib.IntN.{ℤ}
use lib.ListN.{get_or, take}
use borrow.Author.Tests.{lt-ltb, le-ltb, le-leb, eqb-true, ltb-true, ltb-false, eq-eqb, ne_eqb}
use Rattle.std.specs.Prelude.{Option, Some, None, Result, Ok, Err}
use Rattle.std.specs.Result.{result_ok}
use Rattle.std.proofs.lemmas.Option.{same_Some}
use Rattle.ink_number.specs.Question.{answer, number}
use Rattle.ink_number.specs.declared.question.Question.{Question}
use Rattle.ink_number.specs.Int.{signed}
use Rattle.binary32.specs.Real.{of_bits32}
use Rattle.ink_number.specs.Answer.{Answer, gives, refuses}
use Rattle.ink_value.proofs.Parts.{Holds}
use Rattle.ink_value.specs.Convert.{bit_z}
use Rattle.ink_value.specs.Val.{kind_of, kind_at, code_of, is_list}
use Rattle.ink_value.specs.declared.Kind.{Kind}
use Rattle.ink_value.specs.declared.Kind.TheVariants as K
use Rattle.ink_value.specs.Value.{val_of, kind_in}
use Rattle.ink_value.specs.declared.number_parts.NumberParts.{NumberParts}
use Rattle.ink_value.specs.declared.Value.{Value}
use Rattle.ink_value.specs.declared.Value.TheVariants as Is
use Rattle.slices.proofs.Lists.{ap2, ap3, map_take}
use Rattle.ink_value.proofs.Reading.{kind_in_lem}
use Rattle.words_in.specs.Words.{unheld, bool_at, int_at, float_at, void_at, plain_at, value_of, value_at}
use Rattle.operator_kinds.specs.Kinds.{is_void, common, available, result_kind, known, unary, arity, kind_unary, kind_binary, kind_call, kind_entry, operand_count, KindsGiven}
use Rattle.operator_kinds.proofs.Counting.{takes, none_taken, miscounted, below_range, below_three, entry_given}
use Rattle.word_kinds.specs.Operands.{kind_word, is_number, numbers, kind_given, number_kind, untaken, number_answer, kind_answered, Held, OfNumbers, NumberKind, NumberAnswer, vals_at}

-- ---- the parts of a number that is held

-- the parts are this value's: its kind, and the number that it holds
pub record Parts (v : Value) (p : NumberParts) : Type 0 where
  pub kind_is : p.kind ≡ kind_in v
  pub holds : Holds v p.whole p.real

-- a value's words, that are not those of none
module _ (w : ℕ) where
  -- what its second word holds, with a kind
  abbrev pub parts : Kind → NumberParts
  parts k = record { kind = k; whole = signed (w % 2 ^ 32); real = of_bits32 (w % 2 ^ 32) }

  bool_parts : (bool_at w ≡ unheld → ⊥) → Parts (bool_at w) (parts K.Bool)
  unfolding bool_at signed
  bool_parts h = go (ltb w 2) refl h
    where
      bit : (n : ℕ) → n < 2 → signed (n % 2 ^ 32) ≡ bit_z (eqb n 1)
      bit zero l = refl
      bit (suc zero) l = refl
      bit (suc (suc n)) l = absurd (omega arith)

      go : (t : Bool) → ltb w 2 ≡ t → (cond t (Is.Bool (eqb w 1)) unheld ≡ unheld → ⊥) → Parts (cond t (Is.Bool (eqb w 1)) unheld) (parts K.Bool)
      go true e g = record { kind_is = refl; holds = bit w (ltb-true w 2 e) }
      go false e g = absurd (g refl)

  small : w < 2 ^ 32 → w % 2 ^ 32 ≡ w
  small l = omega arith

  int_parts : (int_at w ≡ unheld → ⊥) → Parts (int_at w) (parts K.Int)
  unfolding int_at
  int_parts h = go (ltb w (2 ^ 32)) refl h
    where
      go : (t : Bool) → ltb w (2 ^ 32) ≡ t → (cond t (Is.Int (signed w)) unheld ≡ unheld → ⊥) → Parts (cond t (Is.Int (signed w)) unheld) (parts K.Int)
      go true e g = record { kind_is = refl; holds = ap signed (small (ltb-true w (2 ^ 32) e)) }
      go false e g = absurd (g refl)

  float_parts : (float_at w ≡ unheld → ⊥) → Parts (float_at w) (parts K.Float)
  unfolding float_at
  float_parts h = go (ltb w (2 ^ 32)) refl h
    where
      go : (t : Bool) → ltb w (2 ^ 32) ≡ t → (cond t (Is.Float (of_bits32 w)) unheld ≡ unheld → ⊥) → Parts (cond t (Is.Float (of_bits32 w)) unheld) (parts K.Float)
      go true e g = record { kind_is = refl; holds = ap of_bits32 (small (ltb-true w (2 ^ 32) e)) }
      go false e g = absurd (g refl)

  void_parts : (void_at w ≡ unheld → ⊥) → Parts (void_at w) (parts K.Void)
  unfolding void_at
  void_parts h = go (eqb w 0) h
    where
      go : (t : Bool) → (cond t Is.Void unheld ≡ unheld → ⊥) → Parts (cond t Is.Void unheld) (parts K.Void)
      go true g = record { kind_is = refl; holds = tt }
      go false g = absurd (g refl)

  at_code : (k j : ℕ) {v : Value} → k ≡ j → Parts v (parts (kind_at j)) → Parts v (parts (kind_at k))
  at_code k j e p = rw e p

  plain_parts : (k : ℕ) → (plain_at k w ≡ unheld → ⊥) → Parts (plain_at k w) (parts (kind_at k))
  unfolding plain_at
  plain_parts k h = go (eqb k 0) (eqb k 1) (eqb k 2) (eqb k 4) refl refl refl refl h
    where
      go : (a b c d : Bool) → eqb k 0 ≡ a → eqb k 1 ≡ b → eqb k 2 ≡ c → eqb k 4 ≡ d
          → (cond a (bool_at w) (cond b (int_at w) (cond c (float_at w) (cond d (void_at w) unheld))) ≡ unheld → ⊥)
          → Parts (cond a (bool_at w) (cond b (int_at w) (cond c (float_at w) (cond d (void_at w) unheld)))) (parts (kind_at k))
      go true b c d ea eb ec ed g = at_code k 0 (eqb-true k 0 ea) (bool_parts g)
      go false true c d ea eb ec ed g = at_code k 1 (eqb-true k 1 eb) (int_parts g)
      go false false true d ea eb ec ed g = at_code k 2 (eqb-true k 2 ec) (float_parts g)
      go false false false true ea eb ec ed g = at_code k 4 (eqb-true k 4 ed) (void_parts g)
      go false false false false ea eb ec ed g = absurd (g refl)

  pub word_parts : (k place : ℕ) → (value_of k w place ≡ unheld → ⊥) → Parts (value_of k w place) (parts (kind_at k))
  unfolding value_of
  word_parts k place h = go (eqb k 3) (eqb place 0) refl h
    where
      go : (a b : Bool) → eqb k 3 ≡ a → (cond a (Is.List w (place % 2 ^ 32) (place / 2 ^ 32)) (cond b (plain_at k w) unheld) ≡ unheld → ⊥)
          → Parts (cond a (Is.List w (place % 2 ^ 32) (place / 2 ^ 32)) (cond b (plain_at k w) unheld)) (parts (kind_at k))
      go true b ea g = at_code k 3 (eqb-true k 3 ea) (record { kind_is = refl; holds = tt })
      go false true ea g = plain_parts k g
      go false false ea g = absurd (g refl)

-- ---- kinds

-- what the code asks
pub number_is : (k : Kind) → is_number k ≡ true → code_of k < 3
number_is k e = ltb-true (code_of k) 3 e

pub both_numbers : (n : ℕ) (a b : Kind) → numbers n a b ≡ true → (1 ≤ n) × (n ≤ 2) × (code_of a < 3) × (n ≡ 2 → code_of b < 3)
both_numbers n a b e = go (eqb n 1) (eqb n 2) (is_number a) (is_number b) refl refl refl refl e
  where
    go : (p q r s : Bool) → eqb n 1 ≡ p → eqb n 2 ≡ q → is_number a ≡ r → is_number b ≡ s → cond p r (cond q (r && s) false) ≡ true
        → (1 ≤ n) × (n ≤ 2) × (code_of a < 3) × (n ≡ 2 → code_of b < 3)
    go true q true s ep eq er es h = let o = eqb-true n 1 ep in (omega arith, omega arith, number_is a er, λ t. absurd (omega arith))
    go false true true true ep eq er es h = let o = eqb-true n 2 eq in (omega arith, omega arith, number_is a er, λ t. number_is b es)
    go true q false s ep eq er es h = let z : ◌≡◌ {A = ℕ} 0 1 = cc in absurd (omega arith)
    go false true true false ep eq er es h = let z : ◌≡◌ {A = ℕ} 0 1 = cc in absurd (omega arith)
    go false true false s ep eq er es h = let z : ◌≡◌ {A = ℕ} 0 1 = cc in absurd (omega arith)
    go false false r s ep eq er es h = let z : ◌≡◌ {A = ℕ} 0 1 = cc in absurd (omega arith)

numbers_both : (n : ℕ) (a b : Kind) → 1 ≤ n → n ≤ 2 → code_of a < 3 → (n ≡ 2 → code_of b < 3) → numbers n a b ≡ true
numbers_both zero a b h l f g = absurd (omega arith)
numbers_both (suc zero) a b h l f g = lt-ltb (code_of a) 3 f
numbers_both (suc (suc zero)) a b h l f g = rw (lt-ltb (code_of a) 3 f, lt-ltb (code_of b) 3 (g refl))
numbers_both (suc (suc (suc n))) a b h l f g = absurd (omega arith)

-- words that are a value's have the code of its kind
held_kind : (ws : List ℕ) (k : ℕ) → (value_at ws k ≡ unheld → ⊥) → kind_word ws k ≡ kind_in (value_at ws k)
held_kind ws k h = (word_parts (get_or ws (3 * k + 1) 0) (get_or ws (3 * k) 0) (get_or ws (3 * k + 2) 0) h).kind_is

-- so the kinds of the first n operands are those in their words
module _ (is : List ℕ) (vs : List ℤ) (ws : List ℕ) where
  kind_at_lem : (k : ℕ) → (value_at ws k ≡ unheld → ⊥) → kind_of (val_of is vs (value_at ws k)) ≡ kind_word ws k
  kind_at_lem k h = sym (held_kind ws k h ∙ kind_in_lem is vs (value_at ws k))

  pub kinds_at : (n : ℕ) → Held ws n → map kind_of (take n (vals_at is vs ws)) ≡ take n (kind_word ws 0 ∷ kind_word ws 1 ∷ kind_word ws 2 ∷ [])
  kinds_at n h = map_take kind_of n (vals_at is vs ws) ∙ go n h
    where
      go : (n : ℕ) → Held ws n → take n (map kind_of (vals_at is vs ws)) ≡ take n (kind_word ws 0 ∷ kind_word ws 1 ∷ kind_word ws 2 ∷ [])
      go zero h = refl
      go (suc zero) h = ap (λ (a : Kind). a ∷ []) (kind_at_lem 0 (h.one (omega arith)))
      go (suc (suc zero)) h = ap2 (λ (a b : Kind). a ∷ b ∷ []) (kind_at_lem 0 (h.one (omega arith))) (kind_at_lem 1 (h.two (omega arith)))
      go (suc (suc (suc n))) h =
          ap3 (λ (a b c : Kind). take (suc (suc (suc n))) (a ∷ b ∷ c ∷ [])) (kind_at_lem 0 (h.one (omega arith))) (kind_at_lem 1 (h.two (omega arith))) (kind_at_lem 2 (h.three (omega arith)))

-- ---- an operator on numbers gives a number

few_cond : (t : Bool) (a b : Kind) → code_of a < 3 → (t ≡ false → code_of b < 3) → code_of (cond t a b) < 3
few_cond true a b h g = h
few_cond false a b h g = g refl

module _ (o : ℕ) (k : Kind) (few : code_of k < 3) (e : leb o 16 || (leb 18 o && leb o 21) ≡ true) where
  -- what gives a List is not available for numbers
  no_list : leb o 5 || (leb 15 o && leb o 16) || (leb 18 o && leb o 19) ≡ false → eqb o 12 ≡ false → leb o 14 || (leb 22 o && leb o 23) ≡ false
      → eqb o 20 || (leb 28 o && leb o 29) ≡ false → eqb o 21 ≡ false → ⊥
  no_list a b c d f = grind arith

  result_few : code_of (cond (leb o 5 || (leb 15 o && leb o 16) || (leb 18 o && leb o 19)) k
      (cond (eqb o 12) K.Bool
      (cond (leb o 14 || (leb 22 o && leb o 23)) K.Bool
      (cond (eqb o 20 || (leb 28 o && leb o 29)) K.Int
      (cond (eqb o 21) K.Float K.List))))) < 3
  result_few =
      few_cond _ _ _ few (λ a.
      few_cond _ _ _ (omega arith) (λ b.
      few_cond _ _ _ (omega arith) (λ c.
      few_cond _ _ _ (omega arith) (λ d.
      few_cond _ _ _ (omega arith) (λ f. absurd (no_list a b c d f))))))

result_number : (o : ℕ) (k : Kind) → code_of k < 3 → available o k ≡ true → code_of (result_kind o k) < 3
result_number o K.Bool h e = result_few o K.Bool h e
result_number o K.Int h e = result_few o K.Int h e
result_number o K.Float h e = result_few o K.Float h e
result_number o K.List h e = absurd (omega (arith, h))
result_number o K.Void h e = absurd (omega (arith, h))

-- the common kind of numbers is a number's
common_number : (a b : Kind) → code_of a < 3 → code_of b < 3 → code_of (common a b) < 3
common_number K.Bool K.Bool h g = omega arith
common_number K.Bool K.Int h g = omega arith
common_number K.Bool K.Float h g = omega arith
common_number K.Int K.Bool h g = omega arith
common_number K.Int K.Int h g = omega arith
common_number K.Int K.Float h g = omega arith
common_number K.Float K.Bool h g = omega arith
common_number K.Float K.Int h g = omega arith
common_number K.Float K.Float h g = omega arith
common_number K.List b h g = absurd (omega (arith, h))
common_number K.Void b h g = absurd (omega (arith, h))
common_number a K.List h g = absurd (omega (arith, g))
common_number a K.Void h g = absurd (omega (arith, g))

no_void : (k : Kind) → code_of k < 3 → is_void k ≡ false
no_void K.Bool h = refl
no_void K.Int h = refl
no_void K.Float h = refl
no_void K.List h = refl
no_void K.Void h = absurd (omega (arith, h))

no_entries : (k : Kind) → code_of k < 3 → is_list k ≡ false
no_entries K.Bool h = refl
no_entries K.Int h = refl
no_entries K.Float h = refl
no_entries K.List h = absurd (omega (arith, h))
no_entries K.Void h = refl

same_gives : {j k : Kind} → gives j ≡ gives k → j ≡ k
same_gives e = cc

-- so an answer that is a kind is a number's
entry_number : (o : ℕ) (a b k : Kind) → code_of a < 3 → (unary o ≡ false → code_of b < 3) → gives k ≡ kind_entry o a b → code_of k < 3
unfolding kind_entry kind_unary kind_binary
entry_number o a b k h g e = go (known o) (unary o) refl e
  where
    asked : (c : Kind) (t : Bool) → available o c ≡ t → code_of c < 3 → gives k ≡ cond t (gives (result_kind o c)) (refuses 13) → code_of k < 3
    asked c true w l q = subst (λ (j : Kind). code_of j < 3) (sym (same_gives q)) (result_number o c l w)
    asked c false w l q = let z : ◌≡◌ {A = ℕ} 0 1 = cc in absurd (omega arith)

    go : (s t : Bool) → unary o ≡ t → gives k ≡ cond s (cond t (kind_unary o a) (kind_binary o a b)) (refuses 8) → code_of k < 3
    go true true w q = asked (common a a) (available o (common a a)) refl (common_number a a h h) (rw (no_void a h) at q)
    go true false w q = let l = g w in asked (common a b) (available o (common a b)) refl (common_number a b h l) (rw (no_void a h, no_void b l, no_entries a h, no_entries b l) at q)
    go false t w q = let z : ◌≡◌ {A = ℕ} 0 1 = cc in absurd (omega arith)

-- an operator that takes two
two_counted : (o n : ℕ) → operand_count o ≡ n → 1 ≤ n → n ≤ 2 → unary o ≡ false → n ≡ 2
unfolding arity
two_counted o n e h l u = go (eqb o 31) (takes o n h e).arity_is
  where
    go : (t : Bool) → cond {A = ℕ} (unary o) 1 (cond t 3 2) ≡ n → n ≡ 2
    go true q = let p = rw u at q in absurd (omega arith)
    go false q = let p = rw u at q in omega arith

-- ---- such a result

-- an operator's answer on the kinds of one number or two is its answer on the numbers
pub of_numbers : (ws : List ℕ) (o n : ℕ) (k : Kind) → Held ws n → operand_count o ≡ n → numbers n (kind_word ws 0) (kind_word ws 1) ≡ true
    → gives k ≡ kind_entry o (kind_word ws 0) (kind_word ws 1) → OfNumbers ws o n k
of_numbers ws o n k h e t q =
    let b = both_numbers n (kind_word ws 0) (kind_word ws 1) t in
    let g = entry_given o (kind_word ws 0) (kind_word ws 1) (kind_word ws 2) n (gives k) e b.0 (λ t. omega (arith, b.1)) q in
    record {
      some = b.0;
      few = b.1;
      left = rw (held_kind ws 0 (h.one b.0)) at b.2;
      right = λ two. rw (held_kind ws 1 (h.two (omega arith))) at (b.3 two);
      small = entry_number o (kind_word ws 0) (kind_word ws 1) k b.2 (λ u. b.3 (two_counted o n e b.0 b.1 u)) q;
      answered = λ is vs. ap (kind_call o n) (kinds_at is vs ws n h) ∙ sym g.answered;
    }

-- ---- where there is no such result

-- an operator that refuses
refuses_none : (ws : List ℕ) (o n : ℕ) (q : ℕ) → ((is : List ℕ) (vs : List ℤ) → KindsGiven o n (map kind_of (take n (vals_at is vs ws))) (refuses q))
    → (kind : Kind) → ((is : List ℕ) (vs : List ℤ) → kind_call o n (map kind_of (take n (vals_at is vs ws))) ≡ gives kind) → ⊥
refuses_none ws o n q g kind a =
    let e = (g [] []).answered ∙ a [] [] in
    let z : ◌≡◌ {A = ℕ} 0 1 = cc in
    omega arith

pub other_count : (ws : List ℕ) (o n c : ℕ) → operand_count o ≡ c → (c ≡ n → ⊥) → (kind : Kind) → OfNumbers ws o n kind → ⊥
other_count ws o n zero e ne kind m = refuses_none ws o n 8 (λ is vs. none_taken o n _ e) kind m.answered
other_count ws o n (suc c) e ne kind m = refuses_none ws o n 10 (λ is vs. miscounted o (suc c) n _ e (λ q. omega arith) ne) kind m.answered

-- an operator above Invert takes three operands or none
pub no_number_above : (ws : List ℕ) (o n : ℕ) (kind : Kind) → ((is : List ℕ) (vs : List ℤ) → kind_call o n (map kind_of (take n (vals_at is vs ws))) ≡ gives kind) → 30 < o → n ≤ 2 → ⊥
no_number_above ws o n kind a h few = go (operand_count o) refl
  where
    go : (c : ℕ) → operand_count o ≡ c → ⊥
    go zero e = refuses_none ws o n 8 (λ is vs. none_taken o n _ e) kind a
    go (suc c) e =
        refuses_none ws o n 10
        (λ is vs. miscounted o (suc c) n _ e (λ q. omega arith)
        (λ q. let z = below_range o (suc c) e (omega arith) (λ t. omega (arith, q, t, few)) in omega (arith, z, h)))
        kind a

pub no_numbers : (ws : List ℕ) (o n : ℕ) → Held ws n → numbers n (kind_word ws 0) (kind_word ws 1) ≡ false → (kind : Kind) → OfNumbers ws o n kind → ⊥
no_numbers ws o n h f kind m =
    let t = numbers_both n (kind_word ws 0) (kind_word ws 1) m.some m.few (rw (held_kind ws 0 (h.one m.some)) m.left) (λ two. rw (held_kind ws 1 (h.two (omega arith))) (m.right two)) in
    let z : ◌≡◌ {A = ℕ} 0 1 = cc in
    omega arith

pub no_number_kind : (ws : List ℕ) (o n q : ℕ) → Held ws n → operand_count o ≡ n → refuses q ≡ kind_entry o (kind_word ws 0) (kind_word ws 1)
    → (kind : Kind) → OfNumbers ws o n kind → ⊥
no_number_kind ws o n q h e p kind m =
    let g = entry_given o (kind_word ws 0) (kind_word ws 1) (kind_word ws 2) n (refuses q) e m.some (λ t. omega (arith, m.few)) p in
    let a : refuses q ≡ gives kind = g.answered ∙ sym (ap (kind_call o n) (kinds_at [] [] ws n h)) ∙ m.answered [] [] in
    let z : ◌≡◌ {A = ℕ} 0 1 = cc in
    omega arith

-- ---- what is answered

none_some : {k : Kind} → ◌≡◌ {A = Option Kind} None (Some k) → ⊥
none_some e = let z : ◌≡◌ {A = ℕ} 0 1 = cc in omega arith

-- the operators on numbers may be asked
pub entry_asked : (o n m : ℕ) (a b : Kind) (t : Bool) → m ≡ operand_count o → m ≡ n → t ≡ numbers n a b → t ≡ true
    → (o < 31) × (code_of a < 3) × (operand_count o ≡ 2 → code_of b < 3)
entry_asked o n m a b t e c w q =
    let g = both_numbers n a b (sym w ∙ q) in
    (below_range o n (sym e ∙ c) g.0 (λ three. omega (arith, g.1)), g.2, λ two. g.3 (sym c ∙ (e ∙ two)))

module _ (ws : List ℕ) (o n : ℕ) where
  pub kind_uncounted : (m : ℕ) → m ≡ operand_count o → (m ≡ n → ⊥) → NumberKind ws o n None
  kind_uncounted m e ne =
      record {
        value = rw (ne_eqb (operand_count o) n (λ q. ne (e ∙ q)));
        yes = λ k q. absurd (none_some q);
        no = λ q. other_count ws o n m (sym e) ne;
      }

  module _ (h : Held ws n) (m : ℕ) (e : m ≡ operand_count o) (c : m ≡ n) (a b : Kind) (ea : a ≡ kind_word ws 0) (eb : b ≡ kind_word ws 1) (t : Bool) (et : t ≡ numbers n a b) where
    asked : (s : Bool) → t ≡ s → numbers n (kind_word ws 0) (kind_word ws 1) ≡ s
    asked s q = sym (ap2 (numbers n) ea eb) ∙ (sym et ∙ q)

    counted : (s : Bool) → t ≡ s → number_kind ws o n ≡ cond s (kind_given (kind_entry o (kind_word ws 0) (kind_word ws 1))) None
    counted s q = rw (eq-eqb (operand_count o) n (sym e ∙ c), asked s q)

    pub kind_no_numbers : t ≡ false → NumberKind ws o n None
    kind_no_numbers q =
        record {
          value = sym (counted false q);
          yes = λ k w. absurd (none_some w);
          no = λ w. no_numbers ws o n h (asked false q);
        }

    pub kind_counted : t ≡ true → (r : Result Kind Question) → answer r ≡ kind_entry o a b → NumberKind ws o n (result_ok r)
    kind_counted q (Ok k) w =
        let g : gives k ≡ kind_entry o (kind_word ws 0) (kind_word ws 1) = rw (ea, eb) at w in
        record {
          value = ap kind_given g ∙ sym (counted true q);
          yes = λ j y. subst (OfNumbers ws o n) (same_Some k j y) (of_numbers ws o n k h (sym e ∙ c) (asked true q) g);
          no = λ y. absurd (none_some (sym y));
        }
    kind_counted q (Err r) w =
        let g : refuses (number r) ≡ kind_entry o (kind_word ws 0) (kind_word ws 1) = rw (ea, eb) at w in
        record {
          value = ap kind_given g ∙ sym (counted true q);
          yes = λ j y. absurd (none_some y);
          no = λ y. no_number_kind ws o n (number r) h (sym e ∙ c) g;
        }

-- ---- what is answered, with the question

-- no kind is given beside operands that are not taken
untaken_none : (o : ℕ) (a : Kind) → kind_answered (untaken o a) ≡ None
untaken_none o a = go (eqb o 17) (is_number a)
  where
    go : (s t : Bool) → kind_answered (cond s (cond t (Some (refuses 8)) None) None) ≡ None
    go true true = refl
    go true false = refl
    go false t = refl

given_ok : (r : Result Kind Question) → kind_given (answer r) ≡ result_ok r
given_ok (Ok k) = refl
given_ok (Err q) = refl

-- an operator up to Invert other than POW takes one operand or two
counted_few : (o : ℕ) → o < 31 → eqb o 17 ≡ false → (operand_count o ≡ 1) ⊎ (operand_count o ≡ 2)
unfolding operand_count known arity
counted_few o l p = rw (p, le-leb o 31 (omega arith)) (go (unary o))
  where
    go : (t : Bool) → (cond {A = ℕ} t 1 (cond (eqb o 31) 3 2) ≡ 1) ⊎ (cond {A = ℕ} t 1 (cond (eqb o 31) 3 2) ≡ 2)
    go true = inl refl
    go false = inr (rw (ne_eqb o 31 (λ e. omega arith)) refl)

-- where an operator takes one number or two, those that are looked at are all
looked_both : (n : ℕ) (a b : Kind) (t : Bool) → numbers n a b ≡ t → (n ≡ 1) ⊎ (n ≡ 2) → cond (is_number a) (cond (ltb n 2) true (is_number b)) false ≡ t
looked_both zero a b t q h = absurd (⊎_elim (λ e. omega (arith, e)) (λ e. omega (arith, e)) h)
looked_both (suc zero) a b t q h = go (is_number a) t q
  where
    go : (r t : Bool) → r ≡ t → cond r true false ≡ t
    go true t w = w
    go false t w = w
looked_both (suc (suc zero)) a b t q h = go (is_number a) (is_number b) t q
  where
    go : (r s t : Bool) → r && s ≡ t → cond r s false ≡ t
    go true s t w = w
    go false s t w = w
looked_both (suc (suc (suc n))) a b t q h = absurd (⊎_elim (λ e. omega (arith, e)) (λ e. omega (arith, e)) h)

-- POW takes none, and is refused beside a number
pow_answer : (ws : List ℕ) → number_answer ws 17 0 ≡ untaken 17 (kind_word ws 0)
unfolding operand_count known kind_entry
pow_answer ws = go (is_number (kind_word ws 0))
  where
    go : (r : Bool) → ◌≡◌ {A = Option (Answer Kind)} (cond (cond r true false) (Some (refuses 8)) None) (cond r (Some (refuses 8)) None)
    go true = refl
    go false = refl

one_or_two : (o n c : ℕ) → operand_count o ≡ n → operand_count o ≡ c → n ≡ c
one_or_two o n c e f = sym e ∙ f

module _ (ws : List ℕ) (o n : ℕ) where
  pub answer_uncounted : (m : ℕ) → m ≡ operand_count o → (m ≡ n → ⊥) → NumberAnswer ws o n None
  answer_uncounted m e ne =
      record {
        value = go (ltb 30 o) (cond (is_number (kind_word ws 0)) (cond (ltb n 2) true (is_number (kind_word ws 1))) false);
        kind = kind_uncounted ws o n m e ne;
      }
    where
      go : (t s : Bool) → None ≡ cond t None (cond (eqb (operand_count o) n) (cond s (Some (kind_entry o (kind_word ws 0) (kind_word ws 1))) None) None)
      go true s = refl
      go false s = rw (ne_eqb (operand_count o) n (λ q. ne (e ∙ q)))

  counted_answer : (s : Bool) → numbers n (kind_word ws 0) (kind_word ws 1) ≡ s → o < 31 → operand_count o ≡ n → (n ≡ 1) ⊎ (n ≡ 2)
      → number_answer ws o n ≡ cond s (Some (kind_entry o (kind_word ws 0) (kind_word ws 1))) None
  counted_answer s q l c h = rw (le-ltb 30 o (omega arith), eq-eqb (operand_count o) n c, looked_both n (kind_word ws 0) (kind_word ws 1) s q h)

  -- operands that are not numbers
  no_answer : operand_count o ≡ n → numbers n (kind_word ws 0) (kind_word ws 1) ≡ false → number_answer ws o n ≡ untaken o (kind_word ws 0)
  unfolding operand_count known
  no_answer c q = go (ltb 30 o) refl (eqb o 17) refl
    where
      go : (s : Bool) → ltb 30 o ≡ s → (t : Bool) → eqb o 17 ≡ t → number_answer ws o n ≡ untaken o (kind_word ws 0)
      go true g t p = let l = ltb-true 30 o g in rw (g, ne_eqb o 17 (λ e. omega arith))
      go false g true p =
          let e = eqb-true o 17 p in
          ap2 (number_answer ws) e (sym c ∙ ap operand_count e) ∙ pow_answer ws ∙ sym (ap (λ (j : ℕ). untaken j (kind_word ws 0)) e)
      go false g false p =
          let l = ltb-false 30 o g in
          let f = ⊎_elim (λ h. inl (one_or_two o n 1 c h)) (λ h. inr (one_or_two o n 2 c h)) (counted_few o (omega arith) p) in
          counted_answer false q (omega arith) c f ∙ ap (λ (t : Bool). cond t (cond (is_number (kind_word ws 0)) (Some (refuses 8)) None) None) (sym p)

  module _ (h : Held ws n) (m : ℕ) (e : m ≡ operand_count o) (c : m ≡ n) (a b : Kind) (ea : a ≡ kind_word ws 0) (eb : b ≡ kind_word ws 1) (t : Bool) (et : t ≡ numbers n a b) where
    words_numbers : (s : Bool) → t ≡ s → numbers n (kind_word ws 0) (kind_word ws 1) ≡ s
    words_numbers s q = sym (ap2 (numbers n) ea eb) ∙ (sym et ∙ q)

    pub answer_untaken : t ≡ false → (r : Option (Answer Kind)) → r ≡ untaken o a → NumberAnswer ws o n r
    answer_untaken q r w =
        let u : r ≡ untaken o (kind_word ws 0) = w ∙ ap (untaken o) ea in
        record {
          value = u ∙ sym (no_answer (sym e ∙ c) (words_numbers false q));
          kind = subst (NumberKind ws o n) (sym (ap kind_answered u ∙ untaken_none o (kind_word ws 0))) (kind_no_numbers ws o n h m e c a b ea eb t et q);
        }

    pub answer_counted : t ≡ true → (r : Result Kind Question) → answer r ≡ kind_entry o a b → NumberAnswer ws o n (Some (answer r))
    answer_counted q r w =
        let g = both_numbers n (kind_word ws 0) (kind_word ws 1) (words_numbers true q) in
        let l = below_range o n (sym e ∙ c) g.0 (λ three. omega (arith, g.1)) in
        record {
          value = ap (λ (x : Answer Kind). Some x) (w ∙ ap2 (kind_entry o) ea eb) ∙ sym (counted_answer true (words_numbers true q) l (sym e ∙ c) (below_three o n g.0 (sym e ∙ c) (λ three. omega (arith, g.1))));
          kind = subst (NumberKind ws o n) (sym (given_ok r)) (kind_counted ws o n h m e c a b ea eb t et q r w);
        }
