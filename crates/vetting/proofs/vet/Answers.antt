-- `vetting::vet` meets its contract: questions 1 to 7 in order, and then the sheet. Assumes nothing.
use mathlib.Core.Path.{◌≡◌, sym, ◌∙◌}
use mathlib.Core.Bool.{true}
use native.Mathlib.Omega.{arith}
use Rattle.std.proofs.lemmas.Result.{err_from_is_err_and}
use Rattle.vetting.specs.Vet.{all_codes}
use Rattle.vetting.proofs.Asking.{sound, refused, no_sheet, no_codes, no_room, vetted}
use Rattle.vetting.proofs.vet.Goals as goal

pub returns-in_err-check : goal.returns-in_err-check
returns-in_err-check c =
    let p = err_from_is_err_and c.from_residual.result c.from_residual.ensures.1 in
    rw (p.1, p.2) (refused _ _ c.args.sheet c.args.kinds _ _ c.in_err-check.ensures)

pub sheet_count-requires : goal.sheet_count-requires
sheet_count-requires c = (sound _ _ c.in_ok-check.ensures).contents.frame

pub returns-then-sheet_count-sheet : goal.returns-then-sheet_count-sheet
returns-then-sheet_count-sheet c =
    rw c.from.ensures (no_sheet _ _ c.args.sheet c.args.kinds _ c.in_ok-check.ensures (omega (arith, c.sheet_count.ensures, c.if-sheet_count-sheet.true)))

pub returns-then-not-are_codes : goal.returns-then-not-are_codes
returns-then-not-are_codes c =
    rw c.from-then-not-are_codes.ensures
    (no_codes _ _ c.args.sheet c.args.kinds _ c.in_ok-check.ensures (omega (arith, c.sheet_count.ensures, c.if-sheet_count-sheet.false))
    (sym c.are_codes.ensures ∙ c.if-not-are_codes.true))

pub returns-then-forecast-lt-FORECAST_LIMIT : goal.returns-then-forecast-lt-FORECAST_LIMIT
returns-then-forecast-lt-FORECAST_LIMIT c =
    rw c.from-then-forecast-lt-FORECAST_LIMIT.ensures
    (no_room _ _ c.args.sheet c.args.kinds _ c.in_ok-check.ensures (omega (arith, c.sheet_count.ensures, c.if-sheet_count-sheet.false)) c.if-forecast-lt-FORECAST_LIMIT.true)

pub vet_sheet-requires-clause-placed : goal.vet_sheet-requires-clause-placed
vet_sheet-requires-clause-placed c =
    let ok = sound _ _ c.in_ok-check.ensures in
    ((ok.contents, ok.five), omega (arith, c.sheet_count.ensures, c.if-sheet_count-sheet.false))

pub returns : goal.returns
returns c =
    let yes : all_codes c.args.kinds ≡ true = sym c.are_codes.ensures ∙ c.if-not-are_codes.false in
    vetted _ _ c.args.sheet c.args.kinds _ c.in_ok-check.ensures (omega (arith, c.sheet_count.ensures, c.if-sheet_count-sheet.false)) yes
    c.if-forecast-lt-FORECAST_LIMIT.false _ _ (rw c.kinds_of.ensures at c.vet_sheet.ensures)
