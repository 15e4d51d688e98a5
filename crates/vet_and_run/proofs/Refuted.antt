-- Two answers that the contracts exclude, each refuted from the contract alone: a no of vetting in the wrong order, and a no of a run that has
-- already cleared the work slices. Assumes nothing.
use mathlib.Core.Path.{◌≡◌, ap, ◌∙◌}
use mathlib.Core.List.{List, ◌∷◌, map}
use Prim.Native.Nat.{ℕ, ◌≤◌}
use native.Mathlib.Omega.{arith}
use lib.IntN.{ℤ}
use lib.ListN.{length}
use Rattle.ink_number.specs.Answer.{Answer, gives, refuses}
use Rattle.ink_value.specs.Val.{Val, kind_at}
use Rattle.pack.specs.Bodies.{Pack}
use Rattle.pack.specs.Judge.{judge}
use Rattle.pack.specs.Read.{sheet_of}
use Rattle.pack.specs.declared.format.Format.{Format}
use Rattle.machine.specs.Foretold.{turned, verdict}
use Rattle.machine.specs.Machine.{vet, End, stopped}
use Rattle.machine.specs.Whole.{opened, started}
use Rattle.machine.proofs.Whole.{opened_six}
use Rattle.vetting.specs.Vet.{Vets, vet_memory}
use Rattle.running.specs.Run.{Runs}
use Rattle.ink_value.specs.declared.Value.{Value}

-- question 7 answered before 6: the pack passed, and the sheet is not there
pub seven_before_six : (F : Format) (p : List ℕ) (s : ℕ) (codes f f' : List ℕ) (d : Pack) → judge F p ≡ gives d → length d.sheets ≤ s
    → Vets F p s codes (stopped 7 0) f f' → ⊥
seven_before_six F p s codes f f' d e h a =
    let q : opened F p s (vet_memory codes f) ≡ refuses 6 = opened_six F p s (vet_memory codes f) d e h in
    let r : turned 7 0 ≡ turned 6 0 = a.right ∙ ap (λ (x : Answer Pack). verdict (started x (λ (y : Pack). vet (sheet_of y s) (map kind_at codes))).end) q in
    let z : ◌≡◌ {A = ℕ} 7 6 = cc in
    absurd (omega arith)

-- a place of the work slices cleared, and then one of 1 to 7
pub cleared_early : (F : Format) (q s : ℕ) (slots : List Val) (r : End Value) (wi : List ℕ) (wv wv' : List ℤ) (ri ri' : List ℕ) (rv rv' : List ℤ)
    → Runs F (refuses q) s slots r (1 ∷ wi) (0 ∷ wi) wv wv' ri ri' rv rv' → ⊥
cleared_early F q s slots r wi wv wv' ri ri' rv rv' w =
    let e : 0 ∷ wi ≡ 1 ∷ wi = w.items_left in
    let z : ◌≡◌ {A = ℕ} 0 1 = cc in
    absurd (omega arith)
