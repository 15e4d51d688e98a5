-- A slice that is written from an index on, one element or one run after another, and read by place and by part. Assumes nothing.
use Prim.Native.Nat.{ℕ, suc, ◌+◌, ◌-◌, ◌≤◌, ◌<◌}
use mathlib.Core.Logic.{inl, inr}
use mathlib.Core.Path.{◌≡◌, refl, sym, ap, ◌∙◌, subst}
use mathlib.Core.List.{List, [], ◌∷◌, ◌++◌, append_assoc, append-nil}
use native.Mathlib.Nat.{zero-add, add-zero}
use native.Mathlib.Omega.{arith}
use lib.ListN.{length, take, drop, set, get_or, replicate, length-append, length-drop, length-replicate, get_or-replicate, get_or-append, take-append-drop}
use lib.Seq.{length-take-le, set_at, take_at, drop_at, drop-cons, append_snoc, drop-drop, drop-length, take-append-le, drop-append-le, get_or-append-add, get_or-take, get_or-drop, ext_get_or}
use Rattle.slices.specs.Every.{table}
use Rattle.slices.specs.Filled.{part, Outside, fill, over}
use Rattle.slices.proofs.Tables.{length_table, table_more, table_none}

module _ {A : Type 0} where
  pub fill_nothing : (at : ℕ) (l : List A) → fill at [] l ≡ l
  unfolding fill
  fill_nothing at l = rw (add-zero at) (ap (λ (r : List A). r ++ drop at l) (append-nil (take at l)) ∙ take-append-drop at l)

  module _ (at : ℕ) (xs l : List A) (fits : at + length xs ≤ length l) where
    -- what has been written, with what is before it
    head : length (take at l ++ xs) ≡ at + length xs
    head = length-append (take at l) xs ∙ ap (λ (k : ℕ). k + length xs) (length-take-le at l (omega arith))

    pub length_fill : length (fill at xs l) ≡ length l
    unfolding fill
    length_fill = rw (length-append (take at l ++ xs) (drop (at + length xs) l), head, length-drop (at + length xs) l) (omega arith)

    -- one run after another
    pub fill_fill : (ys : List A) → fill (at + length xs) ys (fill at xs l) ≡ fill at (xs ++ ys) l
    unfolding fill
    fill_fill ys =
        let P : List A = take at l ++ xs in
        let Q : List A = drop (at + length xs) l in
        let e : at + length xs + length ys ≡ at + length (xs ++ ys) = omega (arith, length-append xs ys) in
        ap (λ (r : List A). r ++ ys ++ drop (at + length xs + length ys) (P ++ Q)) (take_at P Q (at + length xs) head)
        ∙ ap (λ (r : List A). P ++ ys ++ r)
        (sym (drop-drop (length ys) (at + length xs) (P ++ Q))
        ∙ ap (drop (length ys)) (drop_at P Q (at + length xs) head)
        ∙ drop-drop (length ys) (at + length xs) l)
        ∙ ap (λ (r : List A). r ++ drop (at + length xs + length ys) l) (append_assoc (take at l) xs ys)
        ∙ ap (λ (k : ℕ). take at l ++ (xs ++ ys) ++ drop k l) e

  -- one element more
  pub fill_set : (at : ℕ) (xs l : List A) (a d : A) → at + length xs < length l → set (fill at xs l) (at + length xs) a ≡ fill at (xs ++ (a ∷ [])) l
  unfolding fill
  fill_set at xs l a d h =
      let P : List A = take at l ++ xs in
      let R : List A = drop (suc (at + length xs)) l in
      let e : suc (at + length xs) ≡ at + length (xs ++ (a ∷ [])) = omega (arith, length-append xs (a ∷ [])) in
      ap (λ (r : List A). set (P ++ r) (at + length xs) a) (drop-cons l (at + length xs) d h)
      ∙ set_at P (get_or l (at + length xs) d) R a (at + length xs) (head at xs l (omega arith))
      ∙ sym (append_snoc P a R)
      ∙ ap (λ (r : List A). r ++ R) (append_assoc (take at l) xs (a ∷ []))
      ∙ ap (λ (k : ℕ). take at l ++ (xs ++ (a ∷ [])) ++ drop k l) e

  pub fill_one : (at : ℕ) (l : List A) (a : A) → at < length l → set l at a ≡ fill at (a ∷ []) l
  fill_one at l a h =
      sym (ap (λ (r : List A). set r at a) (fill_nothing at l))
      ∙ ap (λ (k : ℕ). set (fill at [] l) k a) (sym (add-zero at))
      ∙ fill_set at [] l a a (omega arith)

  -- a loop that fills: k elements, and one more
  module _ (at : ℕ) (f : ℕ → A) (l₀ : List A) where
    pub fill_none : (l : List A) → l ≡ l₀ → l ≡ fill at (table 0 f) l₀
    fill_none l e = e ∙ sym (ap (λ (xs : List A). fill at xs l₀) (table_none f) ∙ fill_nothing at l₀)

    pub fill_long : (k : ℕ) (l : List A) → l ≡ fill at (table k f) l₀ → at + k ≤ length l₀ → length l ≡ length l₀
    fill_long k l e h = rw e (length_fill at (table k f) l₀ (rw (length_table k f) h))

    pub fill_more : (k : ℕ) (l : List A) (a : A) → l ≡ fill at (table k f) l₀ → at + k < length l₀ → a ≡ f k → set l (at + k) a ≡ fill at (table (k + 1) f) l₀
    fill_more k l a e h q =
        let n : length (table k f) ≡ k = length_table k f in
        rw (e, q, table_more k f)
        (subst (λ (i : ℕ). set (fill at (table k f) l₀) (at + i) (f k) ≡ fill at (table k f ++ (f k ∷ [])) l₀) n
        (fill_set at (table k f) l₀ (f k) (f k) (rw n h)))

  -- the same from the start
  module _ (f : ℕ → A) (l₀ : List A) (k : ℕ) (l : List A) (e : l ≡ fill 0 (table k f) l₀) where
    pub front_long : k ≤ length l₀ → length l ≡ length l₀
    front_long h = fill_long 0 f l₀ k l e (omega arith)

    pub front_more : (a : A) → k < length l₀ → a ≡ f k → set l k a ≡ fill 0 (table (k + 1) f) l₀
    front_more a h q = subst (λ (i : ℕ). set l i a ≡ fill 0 (table (k + 1) f) l₀) (zero-add k) (fill_more 0 f l₀ k l a e (omega arith) q)

-- ---- from the start

module _ {A : Type 0} where
  pub fill_over : (xs l : List A) → fill 0 xs l ≡ over xs l
  unfolding fill
  fill_over xs l = rw (zero-add (length xs))

  -- all places were filled
  pub fill_whole : (f : ℕ → A) (l₀ : List A) (k : ℕ) (l : List A) → l ≡ fill 0 (table k f) l₀ → k ≡ length l₀ → l ≡ table k f
  fill_whole f l₀ k l e h =
      e ∙ fill_over (table k f) l₀ ∙ ap (λ (r : List A). table k f ++ r) (ap (λ (n : ℕ). drop n l₀) (length_table k f ∙ h) ∙ drop-length l₀)
      ∙ append-nil (table k f)

  pub length_over : (xs old : List A) → length xs ≤ length old → length (over xs old) ≡ length old
  length_over xs old h = length-append xs (drop (length xs) old) ∙ omega (arith, length-drop (length xs) old)

  -- what was written over the start is read back
  pub over_front : (xs old new : List A) (n : ℕ) → n ≡ length xs → new ≡ over xs old → take n new ≡ xs
  over_front xs old new n h e = rw (e, h) (take_at xs _ (length xs) refl)

  pub over_long : (xs old new : List A) (n : ℕ) → n ≡ length xs → new ≡ over xs old → n ≤ length new
  over_long xs old new n h e = omega (arith, ap length e, length-append xs (drop (length xs) old))

  -- places that hold a value already, written with it
  pub over_same : (d : A) (n : ℕ) (l : List A) → n ≤ length l → ((j : ℕ) → j < n → get_or l j d ≡ d) → over (replicate n d) l ≡ l
  over_same d n l h z =
      let long : length (take n l) ≡ n = length-take-le n l h in
      let t : take n l ≡ replicate n d =
      ext_get_or d (take n l) (replicate n d) (long ∙ sym (length-replicate n d))
      (λ i q. get_or-take n l i d (omega (arith, long)) ∙ z i (omega (arith, long)) ∙ sym (get_or-replicate n i d d (omega (arith, long)))) in
      ap (λ (m : ℕ). replicate n d ++ drop m l) (length-replicate n d) ∙ ap (λ (r : List A). r ++ drop n l) (sym t) ∙ take-append-drop n l

-- ---- parts

module _ {A : Type 0} where
  pub length_part : (s n : ℕ) (xs : List A) → s + n ≤ length xs → length (part s n xs) ≡ n
  length_part s n xs h = length-take-le n (drop s xs) (omega (arith, length-drop s xs))

  -- a part, as the code cuts it
  pub cut : (i m : ℕ) (xs : List A) → take (i + m - i) (drop i xs) ≡ part i m xs
  cut i m xs =
      let e : i + m - i ≡ m = omega arith in
      ap (λ (k : ℕ). take k (drop i xs)) e

module _ {A : Type 0} (at : ℕ) (xs l : List A) (fits : at + length xs ≤ length l) where
  front : length (take at l) ≡ at
  front = length-take-le at l (omega arith)

  -- what was written
  pub part_filled : part at (length xs) (fill at xs l) ≡ xs
  unfolding fill
  part_filled =
      ap (λ (r : List A). take (length xs) (drop at r)) (append_assoc (take at l) xs (drop (at + length xs) l))
      ∙ ap (take (length xs)) (drop_at (take at l) (xs ++ drop (at + length xs) l) at front)
      ∙ take_at xs (drop (at + length xs) l) (length xs) refl

  -- the part before
  pub part_before : (s n : ℕ) → s + n ≤ at → part s n (fill at xs l) ≡ part s n l
  unfolding fill
  part_before s n h =
      ap (λ (r : List A). take n (drop s r)) (append_assoc (take at l) xs (drop (at + length xs) l))
      ∙ ap (take n) (drop-append-le s (take at l) (xs ++ drop (at + length xs) l) (omega (arith, front)))
      ∙ take-append-le n (drop s (take at l)) (xs ++ drop (at + length xs) l) (omega (arith, front, length-drop s (take at l)))
      ∙ same
    where
      same : take n (drop s (take at l)) ≡ take n (drop s l)
      same = sym (ap (take n) (drop-append-le s (take at l) (drop at l) (omega (arith, front))) ∙ take-append-le n (drop s (take at l)) (drop at l) (omega (arith, front, length-drop s (take at l)))) ∙ ap (λ (r : List A). take n (drop s r)) (take-append-drop at l)

  -- a place that was not written
  pub get_d_outside : (j : ℕ) (d : A) → Outside at (length xs) j → get_or (fill at xs l) j d ≡ get_or l j d
  unfolding fill
  get_d_outside j d (inl h) =
      ap (λ (r : List A). get_or r j d) (append_assoc (take at l) xs (drop (at + length xs) l))
      ∙ get_or-append (take at l) (xs ++ drop (at + length xs) l) d j (omega (arith, front))
      ∙ get_or-take at l j d h
  get_d_outside j d (inr h) =
      let e : j ≡ length (take at l ++ xs) + (j - (at + length xs)) = omega (arith, head at xs l fits) in
      let e' : at + length xs + (j - (at + length xs)) ≡ j = omega arith in
      ap (λ (k : ℕ). get_or (take at l ++ xs ++ drop (at + length xs) l) k d) e
      ∙ get_or-append-add (take at l ++ xs) (drop (at + length xs) l) (j - (at + length xs)) d
      ∙ get_or-drop (at + length xs) l (j - (at + length xs)) d
      ∙ ap (λ (k : ℕ). get_or l k d) e'

  -- a place that was
  pub get_d_inside : (k : ℕ) (d : A) → k < length xs → get_or (fill at xs l) (at + k) d ≡ get_or xs k d
  unfolding fill
  get_d_inside k d h =
      ap (λ (r : List A). get_or r (at + k) d) (append_assoc (take at l) xs (drop (at + length xs) l))
      ∙ ap (λ (i : ℕ). get_or (take at l ++ (xs ++ drop (at + length xs) l)) (i + k) d) (sym front)
      ∙ get_or-append-add (take at l) (xs ++ drop (at + length xs) l) k d
      ∙ get_or-append xs (drop (at + length xs) l) d k h
