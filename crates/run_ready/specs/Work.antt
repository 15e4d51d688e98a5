-- Work slices that are clear. Assumes nothing.
use Rattle.std.specs.Prelude.{◌≡◌, List, ℕ, ◌<◌, ℤ, pos, get_or}
use Rattle.pack.specs.declared.format.Format.{Format}
use Rattle.operating.specs.Stacked.{work_limit}

-- the places of the stack's lists, 16,384 in format 1, are zero, as far as the slices reach
pub record Clear (F : Format) (wi : List ℕ) (wv : List ℤ) : Type 0 where
  pub items_clear : (j : ℕ) → j < work_limit F → get_or wi j 0 ≡ 0
  pub values_clear : (j : ℕ) → j < work_limit F → get_or wv j (pos 0) ≡ pos 0
