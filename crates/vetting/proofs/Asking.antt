-- Questions 1 to 7 of vetting, in order, as the code asks them: the first no, or the answer of the sheet. For any format. Assumes nothing.
use mathlib.Core.Path.{◌≡◌, sym}
use mathlib.Core.Bool.{true, false}
use mathlib.Core.List.{List, map}
use Prim.Native.Nat.{ℕ, ◌≤◌, ◌<◌}
use native.Mathlib.Omega.{arith}
use borrow.Author.Tests.{le-leb, lt-leb}
use lib.ListN.{length}
use Rattle.ink_number.specs.Answer.{gives, refuses}
use Rattle.slices.proofs.Every.{and_both, and_no_left, and_no_right}
use Rattle.pack.specs.Bodies.{decoded}
use Rattle.pack.specs.Contents.{sheet_count}
use Rattle.pack.specs.Judge.{Sound, judge}
use Rattle.pack.specs.Read.{program}
use Rattle.pack.specs.declared.format.Format.{Format}
use Rattle.pack.proofs.Judged.{passed}
use Rattle.pack.proofs.Programs.{sheets_long}
use Rattle.machine.proofs.Whole.{opened_refused, opened_six, opened_seven, opened_all}
use Rattle.vetting.specs.Vet.{vet_memory, all_codes, forecast_limit, VetsProgram, Vets}
use Rattle.ink_value.specs.Val.{kind_at}
use Rattle.vetting.proofs.Written.{stops, goes}
use Rattle.machine.specs.Machine.{End, stopped}

module _ (F : Format) (p : List ℕ) where
  -- the pack passed
  pub sound : gives (decoded F p) ≡ judge F p → Sound F p
  sound y = passed F p y

  module _ (s : ℕ) (codes f : List ℕ) where
    pub refused : (q : ℕ) → refuses q ≡ judge F p → Vets F p s codes (stopped q 0) f f
    refused q y = stops F p s codes f q (opened_refused F p s (vet_memory codes f) q (sym y))

    module _ (y : gives (decoded F p) ≡ judge F p) where
      judged : judge F p ≡ gives (decoded F p)
      judged = sym y

      pub no_sheet : sheet_count p ≤ s → Vets F p s codes (stopped 6 0) f f
      no_sheet h = stops F p s codes f 6 (opened_six F p s (vet_memory codes f) (decoded F p) judged (omega (arith, sheets_long p F)))

      module _ (h : s < sheet_count p) where
        there : s < length (decoded F p).sheets
        there = omega (arith, sheets_long p F)

        pub no_codes : all_codes codes ≡ false → Vets F p s codes (stopped 7 0) f f
        unfolding vet_memory
        no_codes n = stops F p s codes f 7 (opened_seven F p s (vet_memory codes f) (decoded F p) judged there (and_no_left _ _ n))

        pub no_room : length f < forecast_limit → Vets F p s codes (stopped 7 0) f f
        unfolding vet_memory
        no_room n =
            stops F p s codes f 7 (opened_seven F p s (vet_memory codes f) (decoded F p) judged there (and_no_right _ _ (lt-leb forecast_limit (length f) n)))

        pub vetted : all_codes codes ≡ true → forecast_limit ≤ length f → (v : End ℕ) (f' : List ℕ) → VetsProgram (program p s) (map kind_at codes) v f f'
            → Vets F p s codes v f f'
        unfolding vet_memory
        vetted k l v f' w =
            goes F p s codes f (decoded F p) v f'
            (opened_all F p s (vet_memory codes f) (decoded F p) judged there (and_both _ _ k (le-leb forecast_limit (length f) l))) w
