-- The used places, cleared: the work slices are as they were, where they were zero. Assumes nothing.
use mathlib.Core.Path.{◌≡◌, refl, sym, ap, ap₂, ◌∙◌, subst}
use mathlib.Core.Logic.{inl, inr, ⊎_elim}
use mathlib.Core.List.{List, ◌++◌}
use Prim.Native.Nat.{ℕ, zero, suc, ◌+◌, ◌-◌, ◌≤◌, ◌<◌}
use native.Mathlib.Numerals.{add-one}
use native.Mathlib.Omega.{arith}
use native.Mathlib.Decide.{ℕ_discrete}
use lib.ListN.{length, get_or, take, drop, replicate, length-replicate, length-drop, get_or-replicate}
use lib.Seq.{ext_get_or, drop-drop, length-take-le}
use borrow.Rule.Slice.PartMut.{put_mid}
use Rattle.std.proofs.lemmas.List.{append_assoc}
use Rattle.slices.specs.Filled.{fill, Outside}
use Rattle.slices.proofs.Filled.{length_fill, get_d_outside, get_d_inside}
use Rattle.ink_list.proofs.Laws.{lt_or_le}
use Rattle.pack.specs.declared.format.Format.{Format}
use Rattle.running.specs.Work.{Touched}
use Rattle.machine.specs.Machine.{stack_limit}
use Rattle.operating.specs.Stacked.{work_limit, start_at}
use Rattle.run_checked.specs.Clear.{cleared}
use Rattle.operating.proofs.Putting.{place_fits}

-- n places from a on, filled with one value
pub same_filled : {X : Type 0} (d : X) (a n : ℕ) (l ys : List X) → a + n ≤ length l → ys ≡ replicate (length (take (a + n - a) (drop a l))) d
    → put_mid a (a + n - a) l ys ≡ fill a (replicate n d) l
unfolding fill
same_filled d a n l ys h e =
    let s : a + n - a ≡ n = omega arith in
    let m : length (take (a + n - a) (drop a l)) ≡ n = ap (λ (k : ℕ). length (take k (drop a l))) s ∙ length-take-le n (drop a l) (omega (arith, length-drop a l)) in
    ap₂ (λ zs k. put_mid a k l zs) (e ∙ ap (λ (k : ℕ). replicate k d) m) s
    ∙ sym (append_assoc (take a l) (replicate n d) (drop n (drop a l)))
    ∙ ap (λ r. (take a l ++ replicate n d) ++ r) (drop-drop n a l ∙ ap (λ (k : ℕ). drop k l) (ap (λ (k : ℕ). a + k) (sym (length-replicate n d))))

module _ (F : Format) {X : Type 0} (d : X) (used : List ℕ) (l : List X) where
  pub cleared_none : cleared F d used 0 l ≡ l
  unfolding cleared
  cleared_none = refl

  pub cleared_more : (q : ℕ) → cleared F d used (q + 1) l ≡ fill (start_at F q) (replicate (get_or used q 0) d) (cleared F d used q l)
  unfolding cleared
  cleared_more q = rw (add-one q)

  module _ (few : (q : ℕ) → get_or used q 0 ≤ F.limit) (room : work_limit F ≤ length l) where
    fits_as : (q : ℕ) → q < stack_limit → length (cleared F d used q l) ≡ length l → start_at F q + length (replicate (get_or used q 0) d) ≤ length (cleared F d used q l)
    fits_as q h e = omega (arith, length-replicate (get_or used q 0) d, place_fits F.limit q (get_or used q 0) h (few q))

    pub cleared_long : (q : ℕ) → q ≤ stack_limit → length (cleared F d used q l) ≡ length l
    unfolding cleared
    cleared_long zero h = refl
    cleared_long (suc q) h =
        length_fill (start_at F q) (replicate (get_or used q 0) d) (cleared F d used q l) (fits_as q h (cleared_long q (omega arith))) ∙ cleared_long q (omega arith)

    fits : (q : ℕ) → q < stack_limit → start_at F q + length (replicate (get_or used q 0) d) ≤ length (cleared F d used q l)
    fits q h = fits_as q h (cleared_long q (omega arith))

    -- so what place q has used stands in it whole
    pub used_fits : (q : ℕ) → q < stack_limit → (w : List X) → w ≡ cleared F d used q l → start_at F q + get_or used q 0 ≤ length w
    used_fits q h w e = omega (arith, ap length e, fits q h, length-replicate (get_or used q 0) d)

    module _ (old : List X) (t : Touched F d used old l) (zeros : (j : ℕ) → j < work_limit F → get_or old j d ≡ d) where
      -- j is in no used place from n on
      abbrev Past : ℕ → ℕ → Type 0
      Past n j = (q : ℕ) → n ≤ q → q < stack_limit → Outside (start_at F q) (get_or used q 0) j

      module _ (n j : ℕ) (h : n < stack_limit) where
        out : Past (suc n) j → (Past n j → get_or (cleared F d used n l) j d ≡ get_or old j d) → Outside (start_at F n) (get_or used n 0) j
            → get_or (fill (start_at F n) (replicate (get_or used n 0) d) (cleared F d used n l)) j d ≡ get_or old j d
        out f before o =
            get_d_outside (start_at F n) (replicate (get_or used n 0) d) (cleared F d used n l) (fits n h) j d (rw (length-replicate (get_or used n 0) d) o)
            ∙ before (λ q a b. pick q a b (ℕ_discrete q n))
          where
            pick : (q : ℕ) → n ≤ q → q < stack_limit → Dec (q ≡ n) → Outside (start_at F q) (get_or used q 0) j
            pick q a b (yes e) = subst (λ (k : ℕ). Outside (start_at F k) (get_or used k 0) j) (sym e) o
            pick q a b (no ne) = f q (omega arith) b

        inside : start_at F n ≤ j → j < start_at F n + get_or used n 0 → get_or (fill (start_at F n) (replicate (get_or used n 0) d) (cleared F d used n l)) j d ≡ get_or old j d
        inside a b =
            let e : j ≡ start_at F n + (j - start_at F n) = omega arith in
            let k : j - start_at F n < get_or used n 0 = omega arith in
            ap (λ (i : ℕ). get_or (fill (start_at F n) (replicate (get_or used n 0) d) (cleared F d used n l)) i d) e
            ∙ get_d_inside (start_at F n) (replicate (get_or used n 0) d) (cleared F d used n l) (fits n h) (j - start_at F n) d (rw (length-replicate (get_or used n 0) d) k)
            ∙ get_or-replicate (get_or used n 0) (j - start_at F n) d d k
            ∙ sym (zeros j (omega (arith, place_fits F.limit n (get_or used n 0) h (few n))))

      kept : (n j : ℕ) → n ≤ stack_limit → Past n j → get_or (cleared F d used n l) j d ≡ get_or old j d
      unfolding cleared
      kept zero j h f = t.kept j (λ q k. f q (omega arith) k)
      kept (suc n) j h f =
          ⊎_elim (λ a. out n j h f (kept n j (omega arith)) (inl a))
          (λ a. ⊎_elim (λ b. inside n j h a b) (λ b. out n j h f (kept n j (omega arith)) (inr b)) (lt_or_le j (start_at F n + get_or used n 0))) (lt_or_le j (start_at F n))

      -- what was zero is zero again
      pub cleared_back : cleared F d used stack_limit l ≡ old
      cleared_back =
          ext_get_or d (cleared F d used stack_limit l) old (cleared_long stack_limit (omega arith) ∙ t.long)
          (λ j h. kept stack_limit j (omega arith) (λ q a b. absurd (omega arith)))
