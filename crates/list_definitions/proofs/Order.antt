-- The order of Ints, and their equality by bits. Assumes nothing.
use mathlib.Core.Path.{◌≡◌, refl, sym, ap, ◌∙◌}
use mathlib.Core.Bool.{true, false}
use native.Mathlib.Omega.{arith}
use borrow.Author.Tests.{ltb-true, ltb-false, leb-true, leb-false, lt-ltb, le-ltb, eq-eqb, ne_eqb}
use lib.IntN.{ℤ, pos, negsuc}
use lib.Signed.{lt_z, le_z}
use mir.Syntax.{w32}
use mir.Val.{SFits, of_z}
use Rattle.ink_number.specs.Int.{eq_z}
use Rattle.ink_number.proofs.Signed.{back, back32, same_bits}
use Rattle.slices.proofs.Every.{not_both}

pub lt_trans : (a b c : ℤ) → lt_z a b ≡ true → lt_z b c ≡ true → lt_z a c ≡ true
lt_trans (pos a) (pos b) (pos c) p q = lt-ltb a c (omega (arith, ltb-true a b p, ltb-true b c q))
lt_trans (pos a) (pos b) (negsuc c) p q = q
lt_trans (pos a) (negsuc b) c p q = absurd (not_both p)
lt_trans (negsuc a) (pos b) (pos c) p q = refl
lt_trans (negsuc a) (pos b) (negsuc c) p q = absurd (not_both q)
lt_trans (negsuc a) (negsuc b) (pos c) p q = refl
lt_trans (negsuc a) (negsuc b) (negsuc c) p q = lt-ltb c a (omega (arith, ltb-true b a p, ltb-true c b q))

pub lt_ne : (a b : ℤ) → lt_z a b ≡ true → (eq_z a b ≡ false) × (eq_z b a ≡ false)
lt_ne (pos a) (pos b) p = let h = ltb-true a b p in (ne_eqb a b (λ e. omega arith), ne_eqb b a (λ e. omega arith))
lt_ne (pos a) (negsuc b) p = (refl, refl)
lt_ne (negsuc a) (pos b) p = (refl, refl)
lt_ne (negsuc a) (negsuc b) p = let h = ltb-true b a p in (ne_eqb a b (λ e. omega arith), ne_eqb b a (λ e. omega arith))

pub neither_less : (a b : ℤ) → lt_z a b ≡ false → lt_z b a ≡ false → a ≡ b
neither_less (pos a) (pos b) p q = ap pos (omega (arith, ltb-false a b p, ltb-false b a q))
neither_less (pos a) (negsuc b) p q = absurd (not_both (sym q))
neither_less (negsuc a) (pos b) p q = absurd (not_both (sym p))
neither_less (negsuc a) (negsuc b) p q = ap negsuc (omega (arith, ltb-false b a p, ltb-false a b q))

pub le_not_lt : (a b : ℤ) → le_z a b ≡ true → lt_z b a ≡ false
le_not_lt (pos a) (pos b) p = le-ltb b a (leb-true a b p)
le_not_lt (pos a) (negsuc b) p = absurd (not_both p)
le_not_lt (negsuc a) (pos b) p = refl
le_not_lt (negsuc a) (negsuc b) p = le-ltb a b (leb-true b a p)

pub not_le_lt : (a b : ℤ) → le_z a b ≡ false → lt_z b a ≡ true
not_le_lt (pos a) (pos b) p = lt-ltb b a (leb-false a b p)
not_le_lt (pos a) (negsuc b) p = refl
not_le_lt (negsuc a) (pos b) p = absurd (not_both (sym p))
not_le_lt (negsuc a) (negsuc b) p = lt-ltb a b (leb-false b a p)

pub eq_z_refl : (a : ℤ) → eq_z a a ≡ true
eq_z_refl (pos a) = eq-eqb a a refl
eq_z_refl (negsuc a) = eq-eqb a a refl

-- a test of two Ints is one of their bits
module _ (a b : ℤ) (f : SFits w32 a) (g : SFits w32 b) where
  bits_same : of_z w32 a ≡ of_z w32 b → eq_z a b ≡ true
  bits_same e = sym (same_bits a b f g) ∙ eq-eqb (of_z w32 a) (of_z w32 b) e

  bits_differ : (of_z w32 a ≡ of_z w32 b → ⊥) → eq_z a b ≡ false
  bits_differ h = sym (same_bits a b f g) ∙ ne_eqb (of_z w32 a) (of_z w32 b) h

-- the same against an Int that a loop carries, which is read back
module _ (a b : ℤ) (f : SFits w32 a) (g : SFits w32 b) where
  pub bits_same_back : of_z w32 a ≡ of_z w32 b → eq_z a (back w32 b) ≡ true
  bits_same_back e = ap (eq_z a) (back32 b g) ∙ bits_same a b f g e

  pub bits_differ_back : (of_z w32 a ≡ of_z w32 b → ⊥) → eq_z a (back w32 b) ≡ false
  bits_differ_back h = ap (eq_z a) (back32 b g) ∙ bits_differ a b f g h
