-- `float_conversions::float_to_int` meets its contract. Within the range the whole part as an i64 is that as an i32; outside it is an end (proofs/Truncation.antt).
-- Assumes nothing.
use Rattle.std.proofs.Common.{◌≡◌, ℤ, sym, ap, ◌∙◌, subst, w32, w64, SFits}
use lib.Ieee.{of_bits, neg, to_signed}
use lib.Ieee.Casts.{to_signed_in}
use mir.ValLaws.{to_z-of_z}
use Rattle.ink_number.proofs.Signed.{back, back32}
use Rattle.binary32.proofs.Meets.{to_int_meets}
use Rattle.float_conversions.proofs.Truncation.{inside, above, under, none}
use Rattle.float_conversions.proofs.float_to_int.Goals.{After-truncating_f32_to_i64}
use Rattle.float_conversions.proofs.float_to_int.Goals as goal

-- the whole part, which is an i32's
whole : (c : After-truncating_f32_to_i64) → back w64 c.truncating_f32_to_i64.result ≡ to_signed 31 c.args.x
unfolding of_bits neg
whole c =
    to_z-of_z w64 c.truncating_f32_to_i64.result (record { sfits = c.truncating_f32_to_i64.type_inv })
    ∙ c.truncating_f32_to_i64.ensures
    ∙ (inside c.args.x c.if-x.true c.if-x-2.true).1

fits : (c : After-truncating_f32_to_i64) → SFits w32 (to_signed 31 c.args.x)
fits c = record { sfits = to_signed_in 31 c.args.x }

pub truncating_f32_to_i64-requires : goal.truncating_f32_to_i64-requires
unfolding of_bits neg
truncating_f32_to_i64-requires c =
    let all =
    (inside c.args.x c.if-x.true c.if-x-2.true).0 in
    record {
      lower_bound = all.0;
      upper_bound = all.1;
    }

pub overflow_cast-result : goal.overflow_cast-result
overflow_cast-result c = subst (λ (z : ℤ). SFits w32 z) (sym (whole c)) (fits c)

pub returns-then-x-2 : goal.returns-then-x-2
returns-then-x-2 c =
    let x = c.args.x in
    ap (back w32) (whole c) ∙ back32 (to_signed 31 x) (fits c) ∙ to_int_meets x

pub returns-else-x-2 : goal.returns-else-x-2
unfolding of_bits neg
returns-else-x-2 c = let x = c.args.x in above x c.if-x.true c.if-x-2.false ∙ to_int_meets x

pub returns-then-is_nan : goal.returns-then-is_nan
returns-then-is_nan c = let x = c.args.x in none x (sym c.is_nan.ensures.value ∙ c.if-is_nan.true) ∙ to_int_meets x

pub returns-else-is_nan : goal.returns-else-is_nan
unfolding of_bits neg
returns-else-is_nan c = let x = c.args.x in under x c.if-x.false (sym c.is_nan.ensures.value ∙ c.if-is_nan.false) ∙ to_int_meets x
