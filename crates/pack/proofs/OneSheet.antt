-- A pack of one sheet alone passes, in every format: theorems that have a sheet in their conditions are met by it. Assumes nothing.
use mathlib.Core.Path.{◌≡◌, refl, ap, ◌∙◌}
use mathlib.Core.List.{List, [], ◌∷◌}
use mathlib.Core.Option.{Option, some}
use Prim.Native.Nat.{ℕ, zero, suc, ◌+◌, ◌*◌, ◌≤◌, ◌<◌}
use native.Mathlib.Omega.{arith}
use lib.ListN.{length}
use Rattle.ink_number.specs.Answer.{gives}
use Rattle.slices.specs.Every.{table}
use Rattle.pack.specs.Bodies.{Pack, items_below, sheet}
use Rattle.pack.specs.Bytes.{number}
use Rattle.pack.specs.Contents.{sheet_body, place}
use Rattle.pack.specs.Instruction.{Instr, or_none}
use Rattle.pack.specs.Judge.{judge}
use Rattle.pack.specs.declared.format.Format.{Format}
use Rattle.pack.proofs.Written.{yes1, yes2, yes3, yes4, yes5, all_yes}

-- the pack with the bytes of one sheet, fewer than 256, and what it decodes to
abbrev pub one_sheet : Format → List ℕ → List ℕ
one_sheet F code = F.tag ∷ 0 ∷ 0 ∷ 1 ∷ 8 ∷ 0 ∷ length code ∷ 0 ∷ code

abbrev pub pack_of : List Instr → Pack
pack_of program = record { definitions = []; literals = []; sheets = program ∷ [] }

pub one_passes : (F : Format) (code : List ℕ) (program : List Instr) → length code ≤ 255 → sheet (one_sheet F code) 0 ≡ some program
    → judge F (one_sheet F code) ≡ gives (pack_of program)
unfolding number place items_below table
one_passes F code program few e =
    let p = one_sheet F code in
    all_yes F p (yes1 F p refl (record { long = omega arith; short = omega arith; few = omega arith; room = omega arith }))
    (yes2 F p first (omega arith)) (yes3 F p (λ d h. absurd (omega arith)) (omega arith)) (yes4 F p (λ l h. absurd (omega arith))) (yes5 F p one)
    ∙ ap (λ (s : Option (List Instr)). gives (pack_of (or_none s))) e
  where
    first : (i : ℕ) → i < 1 → number 2 (one_sheet F code) (4 + 4 * i) ≡ place (one_sheet F code) i
    first zero h = refl
    first (suc i) h = absurd (omega arith)

    one : (s : ℕ) → s < 1 → (l : List Instr) × (sheet (one_sheet F code) (sheet_body (one_sheet F code) s) ≡ some l)
    one zero h = (program, e)
    one (suc s) h = absurd (omega arith)
