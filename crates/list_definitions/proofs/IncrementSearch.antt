-- Increment's search within one definition. `chosen` a turn at a time, where each value is looked for; and, where the definition's values
-- and the entries' rise, as a merge of the two: of rising values none is among those before it, and none below the first is among them.
-- Assumes nothing.
use mathlib.Core.Path.{◌≡◌, refl, sym, ap, ◌∙◌, subst}
use mathlib.Core.Bool.{Bool, true, false, cond}
use mathlib.Core.Option.{Option, none, some}
use mathlib.Core.List.{List, [], ◌∷◌, ◌++◌}
use Prim.Native.Nat.{ℕ, zero, suc, ◌+◌, ◌-◌, ◌≤◌, ◌<◌}
use native.Mathlib.Nat.{le_refl}
use native.Mathlib.Numerals.{add-one}
use native.Mathlib.Omega.{arith}
use lib.IntN.{ℤ, pos, ◌+ℤ◌}
use lib.ListN.{length, get_or, take, drop, drop_of_length-le}
use lib.Seq.{take-suc, drop-cons}
use lib.Signed.{lt_z}
use Rattle.ink_number.specs.Int.{eq_z, wrap}
use Rattle.ink_list.specs.Entries.{Entry, put, gather_from}
use Rattle.list_definitions.specs.Defs.{any_from}
use Rattle.list_definitions.specs.Search.{among, raised, rises_above, rises, Rose, chosen}
use Rattle.slices.proofs.Every.{not_both}
use Rattle.list_definitions.proofs.Order.{lt_trans, lt_ne, eq_z_refl}
use Rattle.slices.proofs.Lists.{drop_at}

-- ---- among values

or_assoc : (a b c : Bool) → cond a true (cond b true c) ≡ cond (cond a true b) true c
or_assoc true b c = refl
or_assoc false b c = refl

or_false : (b : Bool) → cond b true false ≡ b
or_false true = refl
or_false false = refl

among_more : (vs : List ℤ) (x v : ℤ) → among (vs ++ (x ∷ [])) v ≡ cond (among vs v) true (eq_z x v)
among_more [] x v = or_false (eq_z x v)
among_more (w ∷ vs) x v = ap (λ (b : Bool). cond (eq_z w v) true b) (among_more vs x v) ∙ or_assoc (eq_z w v) (among vs v) (eq_z x v)

module _ (by v : ℤ) (vs : List ℤ) (i : ℕ) (h : i < length vs) where
  pub hit_yes : eq_z (wrap (get_or vs i (pos 0) +ℤ by)) v ≡ true → among (raised by (drop i vs)) v ≡ true
  hit_yes e = rw (drop_at vs i (pos 0) h, e)

  pub hit_no : eq_z (wrap (get_or vs i (pos 0) +ℤ by)) v ≡ false → among (raised by (drop i vs)) v ≡ among (raised by (drop (i + 1) vs)) v
  hit_no e = rw (drop_at vs i (pos 0) h, e)

pub hit_end : (by v : ℤ) (vs : List ℤ) (i : ℕ) → length vs ≤ i → among (raised by (drop i vs)) v ≡ false
hit_end by v vs i h = rw (drop_of_length-le vs {i = i} h)

-- ---- rising values

pub rises_none : (by : ℤ) (vs : List ℤ) → length vs ≡ 0 → Rose by vs true
rises_none by [] h = record { told = refl; ints = λ e. refl }
rises_none by (v ∷ vs) h = absurd (omega arith)

module _ (by last : ℤ) (vs : List ℤ) (i : ℕ) (h : i < length vs) where
  pub rise_yes : lt_z last (wrap (get_or vs i (pos 0) +ℤ by)) ≡ true
      → rises_above last (raised by (drop i vs)) ≡ rises_above (wrap (get_or vs i (pos 0) +ℤ by)) (raised by (drop (i + 1) vs))
  rise_yes e = rw (drop_at vs i (pos 0) h, e)

  pub rise_no : lt_z last (wrap (get_or vs i (pos 0) +ℤ by)) ≡ false → rises_above last (raised by (drop i vs)) ≡ false
  rise_no e = rw (drop_at vs i (pos 0) h, e)

pub rise_end : (by last : ℤ) (vs : List ℤ) (i : ℕ) → length vs ≤ i → rises_above last (raised by (drop i vs)) ≡ true
rise_end by last vs i h = rw (drop_of_length-le vs {i = i} h)

above_next : (x v : ℤ) (vs : List ℤ) → rises_above x (v ∷ vs) ≡ true → (lt_z x v ≡ true) × (rises_above v vs ≡ true)
above_next x v vs r = go (lt_z x v) refl
  where
    go : (b : Bool) → lt_z x v ≡ b → (lt_z x v ≡ true) × (rises_above v vs ≡ true)
    go true e = (e, rw e at r)
    go false e = absurd (not_both (rw e at r))

pub rises_tail : (v : ℤ) (vs : List ℤ) → rises (v ∷ vs) ≡ true → rises vs ≡ true
rises_tail v [] r = refl
rises_tail v (w ∷ vs) r = (above_next v w vs r).1

-- ---- each value looked for, from place k on

module _ (first : ℕ) (ds ws : List ℤ) (k : ℕ) (h : k < length ds) where
  next : chosen (first + k) (take k ds) (drop k ds) ws
      ≡ put (first + k) (cond (among ws (get_or ds k (pos 0))) (cond (among (take k ds) (get_or ds k (pos 0))) none (some (get_or ds k (pos 0)))) none)
      (chosen (first + (k + 1)) (take (k + 1) ds) (drop (k + 1) ds) ws)
  next =
      let n : suc (first + k) ≡ first + (k + 1) = omega arith in
      let t : take k ds ++ (get_or ds k (pos 0) ∷ []) ≡ take (k + 1) ds = rw add-one (sym (take-suc ds k (pos 0) h)) in
      ap (λ (l : List ℤ). chosen (first + k) (take k ds) l ws) (drop_at ds k (pos 0) h)
      ∙ rw (n, t)

  pub each_yes : among ws (get_or ds k (pos 0)) ≡ true → among (take k ds) (get_or ds k (pos 0)) ≡ false
      → chosen (first + k) (take k ds) (drop k ds) ws ≡ (first + k, get_or ds k (pos 0)) ∷ chosen (first + (k + 1)) (take (k + 1) ds) (drop (k + 1) ds) ws
  each_yes p q = next ∙ rw (p, q)

  pub each_seen : among ws (get_or ds k (pos 0)) ≡ true → among (take k ds) (get_or ds k (pos 0)) ≡ true
      → chosen (first + k) (take k ds) (drop k ds) ws ≡ chosen (first + (k + 1)) (take (k + 1) ds) (drop (k + 1) ds) ws
  each_seen p q = next ∙ rw (p, q)

  pub each_no : among ws (get_or ds k (pos 0)) ≡ false
      → chosen (first + k) (take k ds) (drop k ds) ws ≡ chosen (first + (k + 1)) (take (k + 1) ds) (drop (k + 1) ds) ws
  each_no p = next ∙ rw p

pub chosen_start : (first : ℕ) (ds ws : List ℤ) → chosen first [] ds ws ≡ chosen (first + 0) (take 0 ds) (drop 0 ds) ws
chosen_start first ds ws = let z : first ≡ first + 0 = omega arith in ap (λ (k : ℕ). chosen k [] ds ws) z

pub chosen_end : (k j : ℕ) (before ds ws : List ℤ) → length ds ≤ j → chosen k before (drop j ds) ws ≡ []
chosen_end k j before ds ws h = rw (drop_of_length-le ds {i = j} h)

chosen_none : (k : ℕ) (before ds : List ℤ) → chosen k before ds [] ≡ []
chosen_none k before [] = refl
chosen_none k before (v ∷ ds) = chosen_none (suc k) (before ++ (v ∷ [])) ds

pub chosen_empty : (k : ℕ) (by : ℤ) (before ds vs : List ℤ) → length vs ≡ 0 → chosen k before ds (raised by vs) ≡ []
chosen_empty k by before ds [] e = chosen_none k before ds
chosen_empty k by before ds (v ∷ vs) e = absurd (omega arith)

pub chosen_length : (k : ℕ) (before ds ws : List ℤ) → length (chosen k before ds ws) ≤ length ds
chosen_length k before [] ws = omega arith
chosen_length k before (v ∷ ds) ws =
    go (cond (among ws v) (cond (among before v) none (some v)) none) (chosen_length (suc k) (before ++ (v ∷ [])) ds ws)
  where
    go : (o : Option ℤ) → length (chosen (suc k) (before ++ (v ∷ [])) ds ws) ≤ length ds → length (put k o (chosen (suc k) (before ++ (v ∷ [])) ds ws)) ≤ suc (length ds)
    go none h = omega arith
    go (some w) h = omega arith

-- ---- the same for rising values: those before need no look

abbrev pub matched : ℕ → List ℤ → List ℤ → List Entry
matched k [] ws = []
matched k (v ∷ vs) ws = put k (cond (among ws v) (some v) none) (matched (suc k) vs ws)

-- no value above x is among those before
chosen_matched : (k : ℕ) (x : ℤ) (before vs ws : List ℤ) → ((u : ℤ) → lt_z x u ≡ true → among before u ≡ false) → rises_above x vs ≡ true
    → chosen k before vs ws ≡ matched k vs ws
chosen_matched k x before [] ws f r = refl
chosen_matched k x before (v ∷ vs) ws f r =
    let n : (lt_z x v ≡ true) × (rises_above v vs ≡ true) = above_next x v vs r in
    rw (f v n.0, chosen_matched (suc k) v (before ++ (v ∷ [])) vs ws (λ u l. among_more before v u ∙ rw (f u (lt_trans x v u n.0 l), (lt_ne v u l).0)) n.1)

pub rising_matched : (k : ℕ) (vs ws : List ℤ) → rises vs ≡ true → chosen k [] vs ws ≡ matched k vs ws
rising_matched k [] ws r = refl
rising_matched k (v ∷ vs) ws r =
    rw (chosen_matched (suc k) v (v ∷ []) vs ws (λ u l. ap (λ (b : Bool). cond b true false) (lt_ne v u l).0) r)

-- what is above x is found the same among ws and ws'
matched_ext : (k : ℕ) (x : ℤ) (vs ws ws' : List ℤ) → rises_above x vs ≡ true → ((u : ℤ) → lt_z x u ≡ true → among ws u ≡ among ws' u)
    → matched k vs ws ≡ matched k vs ws'
matched_ext k x [] ws ws' r f = refl
matched_ext k x (v ∷ vs) ws ws' r f =
    let n : (lt_z x v ≡ true) × (rises_above v vs ≡ true) = above_next x v vs r in
    rw (f v n.0, matched_ext (suc k) v vs ws ws' n.1 (λ u l. f u (lt_trans x v u n.0 l)))

-- rising values from w on have none below w
none_below : (u w : ℤ) (ws : List ℤ) → rises_above w ws ≡ true → lt_z u w ≡ true → among (w ∷ ws) u ≡ false
none_below u w [] r l = ap (λ (b : Bool). cond b true false) (lt_ne u w l).1
none_below u w (x ∷ ws) r l =
    let n : (lt_z w x ≡ true) × (rises_above x ws ≡ true) = above_next w x ws r in
    ap (λ (b : Bool). cond b true (among (x ∷ ws) u)) (lt_ne u w l).1 ∙ none_below u x ws n.1 (lt_trans u w x l n.0)

-- the heads of two rising lists
module _ (k : ℕ) (v w : ℤ) (vs ws : List ℤ) (rv : rises (v ∷ vs) ≡ true) (rw' : rises (w ∷ ws) ≡ true) where
  past : (x : ℤ) → lt_z w x ≡ true → among (w ∷ ws) x ≡ among ws x
  past x l = ap (λ (b : Bool). cond b true (among ws x)) (lt_ne w x l).0

  head_less : lt_z v w ≡ true → matched k (v ∷ vs) (w ∷ ws) ≡ matched (suc k) vs (w ∷ ws)
  head_less l = ap (λ (b : Bool). put k (cond b (some v) none) (matched (suc k) vs (w ∷ ws))) (none_below v w ws rw' l)

  head_more : lt_z w v ≡ true → matched k (v ∷ vs) (w ∷ ws) ≡ matched k (v ∷ vs) ws
  head_more l =
      ap (λ (b : Bool). put k (cond b (some v) none) (matched (suc k) vs (w ∷ ws))) (past v l)
      ∙ ap (λ (r : List Entry). put k (cond (among ws v) (some v) none) r) (matched_ext (suc k) v vs (w ∷ ws) ws rv (λ u q. past u (lt_trans w v u l q)))

  head_same : v ≡ w → matched k (v ∷ vs) (w ∷ ws) ≡ (k, v) ∷ matched (suc k) vs ws
  head_same e =
      ap (λ (b : Bool). put k (cond (cond b true (among ws v)) (some v) none) (matched (suc k) vs (w ∷ ws))) (subst (λ (z : ℤ). eq_z z v ≡ true) e (eq_z_refl v))
      ∙ ap {B = List Entry} (λ r. (k, v) ∷ r) (matched_ext (suc k) v vs (w ∷ ws) ws rv (λ u q. past u (subst (λ (z : ℤ). lt_z z u ≡ true) e q)))

-- and at two cursors
module _ (first : ℕ) (by : ℤ) (ds vs : List ℤ) (k i : ℕ) (hk : k < length ds) (hi : i < length vs)
    (rd : rises (drop k ds) ≡ true) (rs : rises (raised by (drop i vs)) ≡ true) where
  d : ℤ
  d = get_or ds k (pos 0)

  v : ℤ
  v = wrap (get_or vs i (pos 0) +ℤ by)

  heads : matched (first + k) (drop k ds) (raised by (drop i vs)) ≡ matched (first + k) (d ∷ drop (k + 1) ds) (v ∷ raised by (drop (i + 1) vs))
  unfolding d v
  heads = rw (drop_at ds k (pos 0) hk, drop_at vs i (pos 0) hi)

  rises_d : rises (d ∷ drop (k + 1) ds) ≡ true
  unfolding d
  rises_d = rw (drop_at ds k (pos 0) hk) at rd

  rises_v : rises (v ∷ raised by (drop (i + 1) vs)) ≡ true
  unfolding v
  rises_v = rw (drop_at vs i (pos 0) hi) at rs

  pub on_d : rises (drop (k + 1) ds) ≡ true
  on_d = rises_tail d (drop (k + 1) ds) rises_d

  pub on_v : rises (raised by (drop (i + 1) vs)) ≡ true
  on_v = rises_tail v (raised by (drop (i + 1) vs)) rises_v

  pub merge_less : lt_z (get_or ds k (pos 0)) (wrap (get_or vs i (pos 0) +ℤ by)) ≡ true
      → matched (first + k) (drop k ds) (raised by (drop i vs)) ≡ matched (first + (k + 1)) (drop (k + 1) ds) (raised by (drop i vs))
  unfolding d v
  merge_less l =
      let n : suc (first + k) ≡ first + (k + 1) = omega arith in
      heads ∙ head_less (first + k) d v (drop (k + 1) ds) (raised by (drop (i + 1) vs)) rises_d rises_v l ∙ rw (n, drop_at vs i (pos 0) hi)

  pub merge_more : lt_z (wrap (get_or vs i (pos 0) +ℤ by)) (get_or ds k (pos 0)) ≡ true
      → matched (first + k) (drop k ds) (raised by (drop i vs)) ≡ matched (first + k) (drop k ds) (raised by (drop (i + 1) vs))
  unfolding d v
  merge_more l =
      heads ∙ head_more (first + k) d v (drop (k + 1) ds) (raised by (drop (i + 1) vs)) rises_d rises_v l ∙ rw (drop_at ds k (pos 0) hk)

  pub merge_same : get_or ds k (pos 0) ≡ wrap (get_or vs i (pos 0) +ℤ by)
      → matched (first + k) (drop k ds) (raised by (drop i vs)) ≡ (first + k, get_or ds k (pos 0)) ∷ matched (first + (k + 1)) (drop (k + 1) ds) (raised by (drop (i + 1) vs))
  unfolding d v
  merge_same e =
      let n : suc (first + k) ≡ first + (k + 1) = omega arith in
      heads ∙ head_same (first + k) d v (drop (k + 1) ds) (raised by (drop (i + 1) vs)) rises_d rises_v e ∙ rw n

pub matched_end : (k j : ℕ) (ds ws : List ℤ) → length ds ≤ j → matched k (drop j ds) ws ≡ []
matched_end k j ds ws h = rw (drop_of_length-le ds {i = j} h)

matched_nothing : (k : ℕ) (ds : List ℤ) → matched k ds [] ≡ []
matched_nothing k [] = refl
matched_nothing k (v ∷ ds) = matched_nothing (suc k) ds

pub matched_none : (k : ℕ) (by : ℤ) (ds vs : List ℤ) (i : ℕ) → length vs ≤ i → matched k ds (raised by (drop i vs)) ≡ []
matched_none k by ds vs i h = ap (λ (l : List ℤ). matched k ds (raised by l)) (drop_of_length-le vs {i = i} h) ∙ matched_nothing k ds

-- ---- the values of a definition in a table: by item number

any_last : (low n : ℕ) (p : ℕ → Bool) → any_from low (suc n) p ≡ cond (any_from low n p) true (p (low + n))
any_last low zero p = let z : low + 0 ≡ low = omega arith in rw z (or_false (p low))
any_last low (suc n) p =
    let z : suc low + n ≡ low + suc n = omega arith in
    ap (λ (b : Bool). cond (p low) true b) (any_last (suc low) n p) ∙ or_assoc (p low) (any_from (suc low) n p) (p (suc low + n)) ∙ rw z

-- item i's defined value, where it is among ws and no item from low on before it has that value
abbrev pub pick : ℕ → List ℤ → List ℤ → ℕ → Option ℤ
pick low defined ws i =
    cond (among ws (get_or defined i (pos 0))) (cond (any_from low (i - low) (λ j. eq_z (get_or defined j (pos 0)) (get_or defined i (pos 0)))) none (some (get_or defined i (pos 0)))) none

chosen_from : (m k low : ℕ) (before defined ws : List ℤ) → low ≤ k → k + m ≤ length defined
    → ((v : ℤ) → among before v ≡ any_from low (k - low) (λ j. eq_z (get_or defined j (pos 0)) v))
    → gather_from k m (pick low defined ws) ≡ chosen k before (take m (drop k defined)) ws
chosen_from zero k low before defined ws l h f = refl
chosen_from (suc m) k low before defined ws l h f =
    ap (λ (r : List Entry). put k (pick low defined ws k) r) (chosen_from m (suc k) low (before ++ (get_or defined k (pos 0) ∷ [])) defined ws (omega arith) (omega arith) more)
    ∙ ap (λ (b : Bool). put k (cond (among ws (get_or defined k (pos 0))) (cond b none (some (get_or defined k (pos 0)))) none)
    (chosen (suc k) (before ++ (get_or defined k (pos 0) ∷ [])) (take m (drop (suc k) defined)) ws)) (sym (f (get_or defined k (pos 0))))
    ∙ rw (drop-cons defined k (pos 0) (let z : k < length defined = omega arith in z))
  where
    more : (v : ℤ) → among (before ++ (get_or defined k (pos 0) ∷ [])) v ≡ any_from low (suc k - low) (λ j. eq_z (get_or defined j (pos 0)) v)
    more v =
        let z : suc k - low ≡ suc (k - low) = omega arith in
        let y : low + (k - low) ≡ k = omega arith in
        among_more before (get_or defined k (pos 0)) v
        ∙ ap (λ (b : Bool). cond b true (eq_z (get_or defined k (pos 0)) v)) (f v)
        ∙ sym (ap (λ (n : ℕ). any_from low n (λ j. eq_z (get_or defined j (pos 0)) v)) z
        ∙ any_last low (k - low) (λ j. eq_z (get_or defined j (pos 0)) v)
        ∙ ap (λ (j : ℕ). cond (any_from low (k - low) (λ i. eq_z (get_or defined i (pos 0)) v)) true (eq_z (get_or defined j (pos 0)) v)) y)

pub chosen_items : (m low : ℕ) (defined ws : List ℤ) → low + m ≤ length defined → gather_from low m (pick low defined ws) ≡ chosen low [] (take m (drop low defined)) ws
chosen_items m low defined ws h = chosen_from m low low [] defined ws (le_refl low) h (λ v. let z : low - low ≡ 0 = omega arith in rw z)
