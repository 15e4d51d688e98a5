-- Codes of kinds and of refusals that pass a test, computed of all operators and kinds, are the rule's. `entry`, `number_entry`, `lists`
-- and `mixed` work without codes: their contracts hold them to the rule. Assumes nothing.
use mathlib.Core.Path.{◌≡◌, refl, sym, ◌∙◌, ap, subst}
use mathlib.Core.Bool.{Bool, true, false, cond, not, ◌&&◌}
use Prim.Native.Nat.{ℕ, zero, suc, ◌+◌, ◌-◌, ◌*◌, ◌/◌, ◌%◌, ◌^◌, ◌<◌, ◌≤◌, max}
use native.Mathlib.Omega.{arith}
use lib.Dec.{eqb, ltb}
use borrow.Author.Tests.{eq-eqb, ne_eqb, eqb-true, lt-ltb}
use Rattle.slices.specs.Every.{every, ◌and◌}
use Rattle.slices.proofs.Every.{every_at, not_both}
use Rattle.ink_value.specs.Val.{kind_at, code_of}
use Rattle.ink_value.specs.declared.Kind.{Kind}
use Rattle.ink_value.specs.declared.Kind.TheVariants as K
use Rattle.ink_number.specs.Answer.{Answer, gives, refuses}
use Rattle.operator_kinds.specs.Kinds.{kind_entry, known, unary, arity, kind_unary, kind_binary, operand_count, decoded}

-- a word has two bits for each operator, from Add's in the lowest on
abbrev pub bits_of : ℕ → ℕ → ℕ
bits_of w o = w / 2 ^ (2 * o) % 4

abbrev pub same : Answer Kind → Answer Kind → Bool
same (gives k) (gives j) = eqb (code_of k) (code_of j)
same (gives k) (refuses r) = false
same (refuses q) (gives j) = false
same (refuses q) (refuses r) = eqb q r

pub code_kind : (k : Kind) → kind_at (code_of k) ≡ k
code_kind K.Bool = refl
code_kind K.Int = refl
code_kind K.Float = refl
code_kind K.List = refl
code_kind K.Void = refl

pub same_eq : (a b : Answer Kind) → same a b ≡ true → a ≡ b
same_eq (gives k) (gives j) t = ap gives (sym (code_kind k) ∙ (ap kind_at (eqb-true (code_of k) (code_of j) t) ∙ code_kind j))
same_eq (gives k) (refuses r) t = absurd (not_both t)
same_eq (refuses q) (gives j) t = absurd (not_both t)
same_eq (refuses q) (refuses r) t = ap refuses (eqb-true q r t)

-- the test of a code for an operator and two kinds, where they are asked of
abbrev pub agrees : (ℕ → ℕ → ℕ → Bool) → (ℕ → ℕ → ℕ → ℕ) → ℕ → ℕ → ℕ → Bool
agrees asked code o a b = cond (asked o a b) (same (decoded (code o a b)) (kind_entry o (kind_at a) (kind_at b))) true

-- the test of n operators from lo on, with five left by five right kinds
abbrev pub Agree : (ℕ → ℕ → ℕ → Bool) → (ℕ → ℕ → ℕ → ℕ) → ℕ → ℕ → Type 0
Agree asked code lo n = every n (λ i. every 5 (λ a. every 5 (λ b. agrees asked code (lo + i) a b))) ≡ true

-- codes that pass are the rule's
pub agreed : (asked : ℕ → ℕ → ℕ → Bool) (code : ℕ → ℕ → ℕ → ℕ) (lo n : ℕ) → Agree asked code lo n
    → (o a b : ℕ) → lo ≤ o → o < lo + n → a < 5 → b < 5 → asked o a b ≡ true → decoded (code o a b) ≡ kind_entry o (kind_at a) (kind_at b)
agreed asked code lo n t o a b h l ha hb u =
    let at-o = every_at (λ i. every 5 (λ a. every 5 (λ b. agrees asked code (lo + i) a b))) n (o - lo) t (omega arith) in
    let at_a = every_at (λ a. every 5 (λ b. agrees asked code (lo + (o - lo)) a b)) 5 a at-o ha in
    let at_b = every_at (λ b. agrees asked code (lo + (o - lo)) a b) 5 b at_a hb in
    let e : lo + (o - lo) ≡ o = omega arith in
    same_eq _ _ (pick (subst (λ (x : ℕ). agrees asked code x a b ≡ true) e at_b))
  where
    pick : agrees asked code o a b ≡ true → same (decoded (code o a b)) (kind_entry o (kind_at a) (kind_at b)) ≡ true
    pick q = rw u at q

-- ---- numbers: the left one, and the right one where two are taken

abbrev pub numbers : ℕ → ℕ → ℕ → Bool
numbers o a b = ltb a 3 && cond (eqb (operand_count o) 2) (ltb b 3) true

are_numbers : (o a b : ℕ) → a < 3 → (operand_count o ≡ 2 → b < 3) → numbers o a b ≡ true
are_numbers o a b h k = rw (lt-ltb a 3 h) (go (eqb (operand_count o) 2) refl)
  where
    go : (t : Bool) → eqb (operand_count o) 2 ≡ t → cond t (ltb b 3) true ≡ true
    go true w = lt-ltb b 3 (k (eqb-true (operand_count o) 2 w))
    go false w = refl

pub of_numbers : (code : ℕ → ℕ → ℕ) (lo n : ℕ) → Agree numbers (λ o a b. code a b) lo n
    → (o a b : ℕ) → lo ≤ o → o < lo + n → a < 3 → b < 5 → (operand_count o ≡ 2 → b < 3) → decoded (code a b) ≡ kind_entry o (kind_at a) (kind_at b)
of_numbers code lo n t o a b h l ha hb k = agreed numbers (λ o a b. code a b) lo n t o a b h l (omega arith) hb (are_numbers o a b ha k)

-- ---- Lists

abbrev pub two_lists : ℕ → ℕ → ℕ → Bool
two_lists o a b = not (eqb (operand_count o) 0) && eqb a 3 && eqb b 3

-- the code of an operator's answer on Lists, by a word in which Float's code stands for a refusal
abbrev pub list_code : ℕ → ℕ → ℕ
list_code w o = cond (eqb (bits_of w o) (code_of K.Float)) 13 (bits_of w o)

pub of_lists : (w o r : ℕ) → r ≡ list_code w o → Agree two_lists (λ o a b. list_code w o) 0 31 → o < 31 → 1 ≤ operand_count o → decoded r ≡ kind_entry o K.List K.List
of_lists w o r e t l k =
    ap decoded e
    ∙ agreed two_lists (λ o a b. list_code w o) 0 31 t o 3 3 (omega arith) l (omega arith) (omega arith) (rw (ne_eqb (operand_count o) 0 (λ e. omega arith)) refl)

module _ (w o k : ℕ) (bits : k ≡ bits_of w o) where
  pub list_kind : (k ≡ 2 → ⊥) → k ≡ list_code w o
  list_kind ne = rw (ne_eqb (bits_of w o) 2 (λ q. ne (bits ∙ q))) bits

  pub list_none : k ≡ 2 → 13 ≡ list_code w o
  list_none two = rw (eq-eqb (bits_of w o) 2 (sym bits ∙ two)) refl

-- ---- just one List

abbrev pub one_list : ℕ → ℕ → ℕ → Bool
one_list o a b = eqb (operand_count o) 2 && not (eqb a b) && eqb (max a b) 3

pub of_mixed : (code : ℕ → ℕ) (lo n : ℕ) → Agree one_list (λ o a b. code b) lo n
    → (o a b : ℕ) → lo ≤ o → o < lo + n → operand_count o ≡ 2 → (a ≡ b → ⊥) → max a b ≡ 3 → decoded (code b) ≡ kind_entry o (kind_at a) (kind_at b)
of_mixed code lo n t o a b h l k ne m =
    agreed one_list (λ o a b. code b) lo n t o a b h l (omega arith) (omega arith) (rw (eq-eqb (operand_count o) 2 k, ne_eqb a b ne, eq-eqb (max a b) 3 m) refl)

-- Add and Subtract, by their right operand: an Int, or not
pub list_and_int : (o a b : ℕ) → o < 2 → operand_count o ≡ 2 → (a ≡ b → ⊥) → max a b ≡ 3 → b ≡ 1 → decoded 3 ≡ kind_entry o (kind_at a) (kind_at b)
unfolding kind_entry known unary arity kind_unary kind_binary operand_count every ◌and◌
list_and_int o a b l k ne m e =
    sym (ap (λ (t : Bool). decoded (cond t 3 12)) (eq-eqb b 1 e)) ∙ of_mixed (λ b. cond (eqb b 1) 3 12) 0 2 refl o a b (omega arith) (omega arith) k ne m

pub list_and_other : (o a b : ℕ) → o < 2 → operand_count o ≡ 2 → (a ≡ b → ⊥) → max a b ≡ 3 → (b ≡ 1 → ⊥) → decoded 12 ≡ kind_entry o (kind_at a) (kind_at b)
unfolding kind_entry known unary arity kind_unary kind_binary operand_count every ◌and◌
list_and_other o a b l k ne m e =
    sym (ap (λ (t : Bool). decoded (cond t 3 12)) (ne_eqb b 1 e)) ∙ of_mixed (λ b. cond (eqb b 1) 3 12) 0 2 refl o a b (omega arith) (omega arith) k ne m

-- ---- Void

abbrev pub some_void : ℕ → ℕ → ℕ → Bool
some_void o a b = not (eqb (operand_count o) 0) && eqb (max a b) 4 && cond (eqb (operand_count o) 1) (eqb a b) true

pub of_void : Agree some_void (λ o a b. 11) 0 31
    → (o a b : ℕ) → o < 31 → 1 ≤ operand_count o → max a b ≡ 4 → (operand_count o ≡ 1 → a ≡ b) → decoded 11 ≡ kind_entry o (kind_at a) (kind_at b)
of_void t o a b l k m alike =
    agreed some_void (λ o a b. 11) 0 31 t o a b (omega arith) l (omega arith) (omega arith)
    (rw (ne_eqb (operand_count o) 0 (λ e. omega arith), eq-eqb (max a b) 4 m) (go (eqb (operand_count o) 1) refl))
  where
    go : (t : Bool) → eqb (operand_count o) 1 ≡ t → cond t (eqb a b) true ≡ true
    go true w = eq-eqb a b (alike (eqb-true (operand_count o) 1 w))
    go false w = refl

pub has_void : (o a b : ℕ) → o < 31 → 1 ≤ operand_count o → max a b ≡ 4 → (operand_count o ≡ 1 → a ≡ b) → decoded 11 ≡ kind_entry o (kind_at a) (kind_at b)
unfolding kind_entry known unary arity kind_unary kind_binary operand_count every ◌and◌
has_void o a b l k m alike = of_void refl o a b l k m alike

-- ---- a code of a kind stands for it

pub code_at_lem : (k : ℕ) → k < 5 → code_of (kind_at k) ≡ k
code_at_lem zero h = refl
code_at_lem (suc zero) h = refl
code_at_lem (suc (suc zero)) h = refl
code_at_lem (suc (suc (suc zero))) h = refl
code_at_lem (suc (suc (suc (suc zero)))) h = refl
code_at_lem (suc (suc (suc (suc (suc k))))) h = absurd (omega arith)
