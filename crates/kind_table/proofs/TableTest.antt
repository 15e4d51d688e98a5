-- The table of 775 answers is the rule: what one test of it whole says of an entry, and of what is read there. Assumes nothing.
use mathlib.Core.Path.{◌≡◌, refl, subst, sym, ap, ◌∙◌}
use mathlib.Core.Bool.{Bool, true, false, cond, ◌||◌}
use mathlib.Core.List.{List, [], ◌∷◌}
use Prim.Native.Nat.{ℕ, zero, suc, ◌+◌, ◌*◌, ◌/◌, ◌%◌, ◌<◌, ◌≤◌}
use native.Mathlib.Omega.{arith}
use borrow.Author.Tests.{eqb-true, le-ltb}
use lib.Dec.{eqb}
use lib.ListN.{get_or}
use Rattle.slices.proofs.Every.{and_left, and_right, not_both}
use Rattle.ink_number.specs.Answer.{Answer, gives, refuses}
use Rattle.ink_value.specs.Val.{kind_at, code_of}
use Rattle.ink_value.specs.declared.Kind.{Kind}
use Rattle.ink_value.specs.declared.Kind.TheVariants as K
use Rattle.operator_kinds.specs.Kinds.{kind_entry, known, unary, kind_unary, kind_binary, is_void, mixed, mixes, available, common, result_kind, decoded}
use Rattle.operator_kinds.proofs.Agreed.{code_at_lem}
use Rattle.kind_table.specs.Table.{encoded, passes, entry_right, row_right, all_right, is_listed, Listed, Table}
use Rattle.kind_table.specs.declared.KindTable.{KindTable}

passes_at : {A : Type 0} (t : ℕ → A → Bool) (d : A) (o n : ℕ) (xs : List A) → passes t o n xs ≡ true
    → (i : ℕ) → i < n → t (o + i) (get_or xs i d) ≡ true
passes_at t d o zero xs p i h = absurd (omega arith)
passes_at t d o (suc n) [] p i h = absurd (not_both p)
passes_at t d o (suc n) (x ∷ xs) p zero h =
    let e : o ≡ o + 0 = omega arith in
    subst (λ (k : ℕ). t k x ≡ true) e (and_left (t o x) (passes t (suc o) n xs) p)
passes_at t d o (suc n) (x ∷ xs) p (suc i) h =
    let e : suc o + i ≡ o + suc i = omega arith in
    subst (λ (k : ℕ). t k (get_or xs i d) ≡ true) e (passes_at t d (suc o) n xs (and_right (t o x) (passes t (suc o) n xs) p) i (omega arith))

at_place : {A : Type 0} (t : ℕ → A → Bool) (d : A) (n : ℕ) (xs : List A) → passes t 0 n xs ≡ true → (i : ℕ) → i < n → t i (get_or xs i d) ≡ true
at_place t d n xs p i h =
    let e : 0 + i ≡ i = omega arith in
    subst (λ (k : ℕ). t k (get_or xs i d) ≡ true) e (passes_at t d 0 n xs p i h)

code_few : (k : Kind) → code_of k < 5
code_few K.Bool = omega arith
code_few K.Int = omega arith
code_few K.Float = omega arith
code_few K.List = omega arith
code_few K.Void = omega arith

code_kind : (k : Kind) → kind_at (code_of k) ≡ k
code_kind K.Bool = refl
code_kind K.Int = refl
code_kind K.Float = refl
code_kind K.List = refl
code_kind K.Void = refl

-- an entry of the table is its operator's answer on the two kinds
pub entry_is : (table : List (List ℕ)) (o : ℕ) (j k : Kind) → all_right table ≡ true → o < 31
    → get_or (get_or table o []) (code_of j * 5 + code_of k) 0 ≡ encoded (kind_entry o j k)
entry_is table o j k t h =
    let a = code_of j in
    let b = code_of k in
    let few_j = code_few j in
    let few_k = code_few k in
    let left : (a * 5 + b) / 5 ≡ a = omega (arith, few_j, few_k) in
    let right : (a * 5 + b) % 5 ≡ b = omega (arith, few_j, few_k) in
    let row = get_or table o [] in
    let passed = eqb-true _ _ (at_place (entry_right o) 0 25 row (at_place row_right [] 31 table t o h) (a * 5 + b) (omega (arith, few_j, few_k))) in
    passed
    ∙ ap (λ (x : Kind). encoded (kind_entry o x (kind_at ((a * 5 + b) % 5)))) (ap kind_at left ∙ code_kind j)
    ∙ ap (λ (x : Kind). encoded (kind_entry o j x)) (ap kind_at right ∙ code_kind k)

record Said (a : Answer Kind) : Type 0 where
  listed : Listed a

either : (t : Bool) (a b : Answer Kind) → Said a → Said b → Said (cond t a b)
either true a b h k = h
either false a b h k = k

-- each answer of an operator is one that the table may have
pub entry_listed : (o : ℕ) (j k : Kind) → Listed (kind_entry o j k)
unfolding kind_entry kind_unary kind_binary
entry_listed o j k =
    let no : (r : ℕ) → is_listed r ≡ true → Said (refuses r) = λ r h. record { listed = h } in
    let yes : (x : Kind) → Said (gives x) = λ x. record { listed = tt } in
    (either (known o) _ _
    (either (unary o) _ _ (either _ _ _ (no 11 refl) (either _ _ _ (yes _) (no 13 refl)))
    (either (is_void j || is_void k) _ _ (no 11 refl)
    (either (mixed j k) _ _ (either (mixes o j k) _ _ (yes (result_kind o K.List)) (no 12 refl))
    (either (available o (common j k)) _ _ (yes (result_kind o (common j k))) (no 13 refl))))) (no 8 refl)).listed

-- ---- what is read of an entry is its operator's answer

-- a listed number is a refusal's
above_kinds : (r : ℕ) → is_listed r ≡ true → 5 ≤ r
above_kinds r h = go (eqb r 8) (eqb r 11) (eqb r 12) (eqb r 13) refl refl refl refl h
  where
    go : (s t u v : Bool) → eqb r 8 ≡ s → eqb r 11 ≡ t → eqb r 12 ≡ u → eqb r 13 ≡ v → s || t || u || v ≡ true → 5 ≤ r
    go true t u v p q x y h = let e = eqb-true r 8 p in omega (arith, e)
    go false true u v p q x y h = let e = eqb-true r 11 q in omega (arith, e)
    go false false true v p q x y h = let e = eqb-true r 12 x in omega (arith, e)
    go false false false true p q x y h = let e = eqb-true r 13 y in omega (arith, e)
    go false false false false p q x y h = absurd (not_both h)

-- what stands for a listed answer is read as it
read_back : (a : Answer Kind) → Listed a → decoded (encoded a) ≡ a
read_back (gives K.Bool) h = refl
read_back (gives K.Int) h = refl
read_back (gives K.Float) h = refl
read_back (gives K.List) h = refl
read_back (gives K.Void) h = refl
read_back (refuses r) h = ap (λ (t : Bool). cond t (gives (kind_at r)) (refuses r)) (le-ltb r 5 (above_kinds r h))

-- a table that passes has the answers
pub is_table : (table : List (List ℕ)) → all_right table ≡ true → Table table
is_table table t = record { answers = λ o a b ho ha hb. at o a b ho ha hb }
  where
    at : (o a b : ℕ) → o < 31 → a < 5 → b < 5 → decoded (get_or (get_or table o []) (a * 5 + b) 0) ≡ kind_entry o (kind_at a) (kind_at b)
    at o a b ho ha hb =
        let row = get_or table o [] in
        ap (λ (i : ℕ). decoded (get_or row (i * 5 + b) 0)) (sym (code_at_lem a ha))
        ∙ ap (λ (i : ℕ). decoded (get_or row (code_of (kind_at a) * 5 + i) 0)) (sym (code_at_lem b hb))
        ∙ ap decoded (entry_is table o (kind_at a) (kind_at b) t ho)
        ∙ read_back (kind_entry o (kind_at a) (kind_at b)) (entry_listed o (kind_at a) (kind_at b))

-- so has each table that there is
pub is_kind_table : (t : KindTable) → Table t.rows
is_kind_table t = is_table t.rows t.right
