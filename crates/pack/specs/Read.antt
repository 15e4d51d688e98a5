-- What the readers give of a pack that has passed, all in terms of the decoded pack.
use Rattle.std.specs.Prelude.{ℕ, ◌+◌, ◌-◌, ◌*◌, ◌≤◌, ◌<◌, List, [], ◌∷◌, ◌++◌, ◌≡◌, ℤ, length, get_or, drop}
use Rattle.std.specs.Coded.{le_prop, Coded-set, coded_ℕ, coded_ℤ, coded_list}
use Rattle.std.proofs.Math.Bool.{Bool-set}
use Rattle.std.proofs.Math.Nat.{ℕ_set}
use Rattle.std.proofs.Math.Option.{some}
use Rattle.ink_list.specs.Entries.{Entry, items, values}
use Rattle.list_definitions.specs.Defs.{ListDefinitions, Tables}
use Rattle.slices.specs.Every.{table}
use Rattle.slices.specs.Filled.{fill, over}
use Rattle.pack.specs.Bodies.{Literal, Pack, sheet, decoded}
use Rattle.pack.specs.Bytes.{number, i32}
use Rattle.pack.specs.Contents.{literal_count, sheet_count, sheet_body, offset, size}
use Rattle.pack.specs.Format.{definition_limit, instruction_limit}
use Rattle.pack.specs.declared.format.Format.{Format}
use Rattle.pack.specs.Judge.{Framed, Placed, Sound}
use Rattle.pack.specs.Instruction.{Instr, push, push_void, width, instruction, instructions, or_none}

-- ---- the parts of a decoded pack

-- one past the last item of each definition, where the first has the number `low`
abbrev pub ends_from : ℕ → List (List ℤ) → List ℕ
ends_from low [] = []
ends_from low (vs ∷ ds) = (low + length vs) ∷ ends_from (low + length vs) ds

abbrev pub joined : List (List ℤ) → List ℤ
joined [] = []
joined (vs ∷ ds) = vs ++ joined ds

module _ (d : Pack) where
  -- "Items are numbered on from 0 across definitions": one past each definition's last item, and each item's value
  abbrev pub ends_of : List ℕ
  ends_of = ends_from 0 d.definitions

  abbrev pub defined_of : List ℤ
  defined_of = joined d.definitions

  -- the same as one record, with the format's item limit
  abbrev pub definitions_of : Format → ListDefinitions
  definitions_of F = record { ends = ends_of; defined = defined_of; limit = F.limit }

  -- literal l and sheet s, empty where there is none
  abbrev pub literal_of : ℕ → Literal
  literal_of l = get_or d.literals l (record { origins = 0; entries = [] })

  abbrev pub sheet_of : ℕ → List Instr
  sheet_of s = get_or d.sheets s []

-- two tables as a pack has them, its items at most a limit
pub record PackLists (limit : ℕ) (ends : List ℕ) (defined : List ℤ) : Type 0 where
  pub tables : Tables ends defined
  pub few : length ends ≤ definition_limit
  pub within : length defined ≤ limit

-- a pack of the format that has passed questions 1 to 5, and what is read of it: its definitions' tables, and its format's item limit
pub record PackRead (F : Format) (p ends : List ℕ) (defined : List ℤ) (limit : ℕ) : Type 0 where
  pub sound : Sound F p
  pub ends_are : ends ≡ ends_of (decoded F p)
  pub defined_are : defined ≡ defined_of (decoded F p)
  pub limit_is : limit ≡ F.limit

-- it is so in one way, so that a struct may hold that it is
Framed-prop : (p : List ℕ) → IsProp (Framed p)
Framed-prop p a b = λ i. record {
  long = le_prop a.long b.long i;
  short = le_prop a.short b.short i;
  few = le_prop a.few b.few i;
  room = le_prop a.room b.room i;
}

pub Placed-prop : (p : List ℕ) → IsProp (Placed p)
Placed-prop p a b = λ i. record {
  frame = Framed-prop p a.frame b.frame i;
  two = Bool-set _ _ a.two b.two i;
}

pub Sound-prop : (F : Format) (p : List ℕ) → IsProp (Sound F p)
Sound-prop F p a b = λ i. record {
  contents = Placed-prop p a.contents b.contents i;
  three = Bool-set _ _ a.three b.three i;
  four = Bool-set _ _ a.four b.four i;
  five = Bool-set _ _ a.five b.five i;
}

pub PackRead-prop : (F : Format) (p ends : List ℕ) (defined : List ℤ) (limit : ℕ) → IsProp (PackRead F p ends defined limit)
PackRead-prop F p ends defined limit a b = λ i. record {
  sound = Sound-prop F p a.sound b.sound i;
  ends_are = Coded-set (coded_list coded_ℕ) _ _ a.ends_are b.ends_are i;
  defined_are = Coded-set (coded_list coded_ℤ) _ _ a.defined_are b.defined_are i;
  limit_is = ℕ_set _ _ a.limit_is b.limit_is i;
}

-- ---- what is written

-- the two tables of a pack, written from the start of two slices, which are else as they were, and how many places each takes
pub record Tabled (d : Pack) (definitions items : ℕ) (oe oe' : List ℕ) (od od' : List ℤ) : Type 0 where
  pub ends_long : definitions ≡ length (ends_of d)
  pub defined_long : items ≡ length (defined_of d)
  pub ends_in : oe' ≡ over (ends_of d) oe
  pub defined_in : od' ≡ over (defined_of d) od

-- the item and the value of entry k, of those that stand from a position on
abbrev pub item_from : ℕ → List ℕ → ℕ → ℕ → ℕ
item_from wide p at k = number wide p (at + (wide + 4) * k)

abbrev pub value_from : ℕ → List ℕ → ℕ → ℕ → ℤ
value_from wide p at k = i32 p (at + (wide + 4) * k + wide)

-- entries read into two slices from a place on, which are else as they were, and how many they are
pub record EntriesRead (es : List Entry) (from count : ℕ) (oi oi' : List ℕ) (ov ov' : List ℤ) : Type 0 where
  pub counted : count ≡ length es
  pub items_in : oi' ≡ fill from (items es) oi
  pub values_in : ov' ≡ fill from (values es) ov

-- ---- instructions by position

module _ (p : List ℕ) where
  -- the instructions of sheet s, whatever the format: `sheet_of` of the decoded pack
  abbrev pub program : ℕ → List Instr
  program s = get_or (table (sheet_count p) (λ k. or_none (sheet p (sheet_body p k)))) s []

  -- one past the last byte of sheet s
  abbrev pub sheet_end : ℕ → ℕ
  sheet_end s = offset p (sheet_body p s) + size p (sheet_body p s)

  -- instruction k of sheet s stands at a position, or the sheet ends there after k instructions
  pub record Standing (s k at : ℕ) : Type 0 where
    pub from : instructions (literal_count p) p (instruction_limit - k) at (sheet_end s) ≡ some (drop k (program s))
    pub reach : at ≤ sheet_end s

  -- where sheet s starts and ends
  pub record SheetSpan (s start end : ℕ) : Type 0 where
    pub starts : Standing s 0 start
    pub ends : end ≡ sheet_end s
    pub within : end ≤ length p

  -- an instruction stands at a position, whole
  pub record Whole (at : ℕ) : Type 0 where
    pub first : Instr
    pub stands : instruction (literal_count p) p at ≡ some first
    pub within : at + width first ≤ length p

  -- i is instruction k of sheet s and stands at a position, whole; instruction k + 1, or the end, is after it
  pub record Kth (s k at : ℕ) (i : Instr) : Type 0 where
    pub few : k < instruction_limit
    pub below : k < length (program s)
    pub kth : get_or (program s) k (push push_void) ≡ i
    pub some : 0 < width i
    pub within : at + width i ≤ sheet_end s
    pub next : Standing s (k + 1) (at + width i)

  -- i is the instruction at a position, whichever sheet has it and as whichever
  pub record Reads (at : ℕ) (i : Instr) : Type 0 where
    pub stands : instruction (literal_count p) p at ≡ some i
    pub each : (s k : ℕ) → Standing s k at → at < sheet_end s → Kth s k at i
