-- A stream of named packs: each pack comes after its name, the name after its length of one byte, the pack after its length of three,
-- little-endian. A position past the end reads as 0. Assumes nothing.
use Rattle.std.specs.Prelude.{◌≡◌, List, ℕ, ◌+◌, ◌*◌, ◌≤◌, ◌<◌, Option, Some, None, [], length, drop, get_or, slice_range}
use Rattle.named_packs.specs.declared.NamedPack.{NamedPack}

-- the number of three bytes at a position
abbrev pub size_at : List ℕ → ℕ → ℕ
size_at s at = get_or s at 0 + 256 * get_or s (at + 1) 0 + 65536 * get_or s (at + 2) 0

-- one past the last byte of the name whose length is at a position, and of its pack
abbrev pub name_end : List ℕ → ℕ → ℕ
name_end s at = at + 1 + get_or s at 0

abbrev pub pack_end : List ℕ → ℕ → ℕ
pack_end s at = name_end s at + 3 + size_at s (name_end s at)

-- what stands at a position
abbrev pub Stands : List ℕ → ℕ → Option NamedPack → Type 0
Stands s at (Some named) =
    (named.name.now ≡ slice_range s (at + 1) (name_end s at)) × (named.pack.now ≡ slice_range s (name_end s at + 3) (pack_end s at))
    × (named.end ≡ pack_end s at) × (pack_end s at ≤ length s)
Stands s at None = length s < pack_end s at

-- how many bytes a pack that stands at the start takes with its name
abbrev pub end_of : Option NamedPack → ℕ
end_of (Some named) = named.end
end_of None = 0

-- the pack that stands at the start is next, and what stands after it is left
pub record Yields (rest : List ℕ) (named : Option NamedPack) (left : List ℕ) : Type 0 where
  pub first : 0 < length rest → Stands rest 0 named
  pub none : rest ≡ [] → named ≡ None
  pub after : left ≡ drop (end_of named) rest
