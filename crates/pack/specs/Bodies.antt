-- The bodies: definitions, literals and sheets, and the pack that bytes decode to. It is said of any bytes, and is their meaning where
-- questions 1 to 5 say yes.
use Rattle.std.specs.Prelude.{ℕ, zero, suc, ◌+◌, ◌-◌, ◌*◌, ◌/◌, Bool, List, ltb, eqb, ℤ}
use Rattle.std.proofs.Math.Option.{Option}
use Rattle.ink_list.specs.Entries.{Entry, formed}
use Rattle.slices.specs.Every.{◌and◌, table}
use Rattle.pack.specs.Bytes.{u64, i32, number}
use Rattle.pack.specs.Contents.{definition_count, literal_count, sheet_count, literal_body, sheet_body, offset, size}
use Rattle.pack.specs.Format.{instruction_limit}
use Rattle.pack.specs.Instruction.{Instr, instructions, or_none}
use Rattle.pack.specs.declared.format.Format.{Format}

pub record Literal : Type 0 where
  pub origins : ℕ
  pub entries : List Entry

-- a decoded pack
pub record Pack : Type 0 where
  pub definitions : List (List ℤ)
  pub literals : List Literal
  pub sheets : List (List Instr)

module _ (F : Format) (p : List ℕ) where
  -- "Definition (an origin): a byte n from 1 to 255, then n values of i32."
  abbrev pub count : ℕ → ℕ
  count d = number F.wide p (offset p d)

  abbrev pub definition : ℕ → List ℤ
  definition d = table (count d) (λ k. i32 p (offset p d + F.wide + 4 * k))

  unfoldable pub definition_ok : ℕ → Bool
  definition_ok d = ltb 0 (count d) and eqb (size p d) (F.wide + 4 * count d)

  -- "Items are numbered on from 0 across definitions": the items of the definitions below d
  unfoldable pub items_below : ℕ → ℕ
  items_below zero = 0
  items_below (suc d) = items_below d + count d

  -- the items in all
  abbrev pub item_count : ℕ
  item_count = items_below (definition_count p)

  -- "Literal: a u64 origin set (bit i is definition i), then entries of an item byte and an i32 value": of the literal that is body b, the
  -- origin set, how many entries there are, and where entry k stands
  abbrev pub origins : ℕ → ℕ
  origins b = u64 p (offset p b)

  abbrev pub entry_count : ℕ → ℕ
  entry_count b = (size p b - 8) / (F.wide + 4)

  abbrev pub entry_at : ℕ → ℕ → ℕ
  entry_at b k = offset p b + 8 + (F.wide + 4) * k

  abbrev pub item : ℕ → ℕ → ℕ
  item b k = number F.wide p (entry_at b k)

  abbrev pub value : ℕ → ℕ → ℤ
  value b k = i32 p (entry_at b k + F.wide)

  abbrev pub literal : ℕ → Literal
  literal b = record { origins = origins b; entries = table (entry_count b) (λ k. (item b k, value b k)) }

  -- "items strictly rising"; "items in the pack, origin bits below D"
  unfoldable pub literal_ok : ℕ → Bool
  literal_ok b =
      eqb (size p b) (8 + (F.wide + 4) * entry_count b)
      and formed item_count (definition_count p) (origins b) (table (entry_count b) (item b))

-- "Sheet: 0 to 1,024 instructions.": of the sheet that is body b
abbrev pub sheet : List ℕ → ℕ → Option (List Instr)
sheet p b = instructions (literal_count p) p instruction_limit (offset p b) (offset p b + size p b)

-- what the bytes of a pack decode to
abbrev pub decoded : Format → List ℕ → Pack
decoded F p =
    record {
      definitions = table (definition_count p) (definition F p);
      literals = table (literal_count p) (λ l. literal F p (literal_body p l));
      sheets = table (sheet_count p) (λ s. or_none (sheet p (sheet_body p s)));
    }
