-- `float_remainder::rem` meets its contract: of two finite Floats by their numbers of units, elsewhere it is NaN or the dividend.
use mathlib.Core.Path.{sym, ◌∙◌}
use native.Mathlib.Omega.{arith}
use Rattle.binary32.proofs.Binary32.{fitting}
use Rattle.float_remainder.proofs.Units.{some_units}
use Rattle.float_remainder.proofs.Remains.{told, nan_pattern, of_nan, by_nan, of_infinity, by_zero, by_infinity, finite_is}
use Rattle.float_remainder.proofs.rem.Goals as goal

pub returns-then-is_nan : goal.returns-then-is_nan
returns-then-is_nan c =
    let a = c.args.a in
    let b = c.args.b in
    let all = told a b a c.well_formed.0.1 c.well_formed.1.0.1 (of_nan a b (sym c.is_nan.ensures.value ∙ c.if-is_nan.true)) in
    record { value = all.0; exactly = all.1 }

pub returns-then-is_nan-2 : goal.returns-then-is_nan-2
returns-then-is_nan-2 c =
    let a = c.args.a in
    let b = c.args.b in
    let all = told a b b c.well_formed.0.1 c.well_formed.1.0.1 (by_nan a b (sym c.is_nan-2.ensures.value ∙ c.if-is_nan-2.true)) in
    record { value = all.0; exactly = all.1 }

pub returns-then-dividend-ge-INFINITY : goal.returns-then-dividend-ge-INFINITY
returns-then-dividend-ge-INFINITY c =
    let a = c.args.a in
    let b = c.args.b in
    let all =
    told a b _ c.well_formed.0.1 c.well_formed.1.0.1
    (nan_pattern ∙ of_infinity a b (fitting a c.well_formed.0.1) c.if-dividend-ge-INFINITY.true) in
    record { value = all.0; exactly = all.1 }

pub returns-then-divisor-eq0 : goal.returns-then-divisor-eq0
returns-then-divisor-eq0 c =
    let a = c.args.a in
    let b = c.args.b in
    let all =
    told a b _ c.well_formed.0.1 c.well_formed.1.0.1
    (nan_pattern ∙ by_zero a b (fitting b c.well_formed.1.0.1) c.if-divisor-eq0.true) in
    record { value = all.0; exactly = all.1 }

pub returns-then-divisor-ge-INFINITY : goal.returns-then-divisor-ge-INFINITY
returns-then-divisor-ge-INFINITY c =
    let a = c.args.a in
    let b = c.args.b in
    let all =
    told a b a c.well_formed.0.1 c.well_formed.1.0.1
    (by_infinity a b (fitting a c.well_formed.0.1) (fitting b c.well_formed.1.0.1) c.if-dividend-ge-INFINITY.false c.if-divisor-ge-INFINITY.true (sym c.is_nan-2.ensures.value ∙ c.if-is_nan-2.false)) in
    record { value = all.0; exactly = all.1 }

pub returns : goal.returns
returns c =
    let a = c.args.a in
    let b = c.args.b in
    let r = c.finite_rem.result in
    let all =
    told a b r c.well_formed.0.1 c.well_formed.1.0.1
    (finite_is a b r (fitting a c.well_formed.0.1) (fitting b c.well_formed.1.0.1) (fitting r c.finite_rem.type_inv)
    c.if-dividend-ge-INFINITY.false c.if-divisor-ge-INFINITY.false (some_units _ (omega (arith, c.if-divisor-eq0.false))) c.finite_rem.ensures) in
    record { value = all.0; exactly = all.1 }
