-- What is left of a sheet's instructions. Assumes nothing.
use Rattle.std.specs.Prelude.{◌≡◌, ◌≤◌, List, ℕ, length}
use Rattle.pack.specs.Read.{Standing, sheet_end}

-- instruction k of sheet s stands at a position, or the sheet ends there; and where the sheet ends
pub record Left (p : List ℕ) (s k at end : ℕ) : Type 0 where
  pub stands : Standing p s k at
  pub ends : end ≡ sheet_end p s
  pub within : end ≤ length p
