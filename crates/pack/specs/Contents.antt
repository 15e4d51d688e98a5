-- The contents: how many definitions, literals and sheets there are, and where each body is said to stand.
use Rattle.std.specs.Prelude.{ℕ, zero, suc, ◌+◌, ◌*◌, List}
use Rattle.pack.specs.Bytes.{byte, u16}

module _ (p : List ℕ) where
  -- "Bytes 1, 2, 3 count definitions D (at most 64), literals L, sheets S."
  abbrev pub definition_count : ℕ
  definition_count = byte p 1

  abbrev pub literal_count : ℕ
  literal_count = byte p 2

  abbrev pub sheet_count : ℕ
  sheet_count = byte p 3

  abbrev pub body_count : ℕ
  body_count = definition_count + literal_count + sheet_count

  -- the body of literal l and of sheet s: bodies are numbered in that order
  abbrev pub literal_body : ℕ → ℕ
  literal_body l = definition_count + l

  abbrev pub sheet_body : ℕ → ℕ
  sheet_body s = definition_count + literal_count + s

  -- "Then for each, in that order, a u16 offset and a u16 length."
  abbrev pub offset : ℕ → ℕ
  offset b = u16 p (4 + 4 * b)

  abbrev pub size : ℕ → ℕ
  size b = u16 p (6 + 4 * b)

  -- "Bodies follow the contents in the same order, no gap, no overlap": where body b has to start
  unfoldable pub place : ℕ → ℕ
  place zero = 4 + 4 * body_count
  place (suc b) = place b + size b
