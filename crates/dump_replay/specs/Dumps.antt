-- The text of a dump, and what a text is read as.
use Rattle.std.specs.Prelude.{◌≡◌, ◌<◌, ◌≤◌, ℕ, ⊤, List, [], ◌∷◌, Some, Result, Ok, Err, IsTrue, length, slice_get, take, Vec}
use Rattle.std.specs.declared.alloc.Global.{Global}
use Rattle.query_core.specs.Results.{AreOptions}
use Rattle.query_core.specs.declared.catalog.Catalog.{Catalog}
use Rattle.command_line.specs.Numbers.{IsWithin}
use Rattle.catalog_json.specs.Outcome.{most_bytes as most_catalog_bytes, reading_of}
use Rattle.sql_reader.specs.declared.syntax.Select.{Select}
use Rattle.dump_replay.specs.Lines.{version_line, capacity_line, root_line, off_line, print_line, catalog_line, query_line}
use Rattle.dump_replay.specs.Lines.{DumpLine, all_lines, is_one_line, lines_text, BeginsWithLine, Lacks}
use Rattle.dump_replay.specs.Named.{dumped_catalog, named_catalog}
use Rattle.dump_replay.specs.declared.dump.DumpOptions.{DumpOptions}
use Rattle.dump_replay.specs.declared.dump.Dump.{Dump}
use Rattle.dump_replay.specs.declared.dump.DumpFault.{DumpFault}
use Rattle.dump_replay.specs.declared.dump.DumpFault.TheVariants.{TooLong, Line, Memory}

-- how many bytes a dump may have
abbrev pub most_bytes : ℕ
most_bytes = 1179648

-- ---- the text of a dump

-- the capacity lies within its bounds, and the rules may be off
pub record AreDumpOptions (chosen : DumpOptions) : Type 0 where
  pub capacity : IsWithin 64 1048576 chosen.capacity
  pub options : AreOptions chosen.options

-- the text of these options, of a catalogue's text and of a query's
unfoldable pub text_of : DumpOptions → (catalog query : List ℕ) → List ℕ
text_of options catalog query = lines_text (
    version_line ∷
    capacity_line options.capacity ∷
    root_line options.options.root ∷
    off_line options.options.off ∷
    print_line options.memo options.trace ∷
    catalog_line catalog ∷
    query_line query ∷ [])

-- the text says this dump
pub record IsDump (text : List ℕ) (dump : Dump) : Type 0 where
  pub options : AreDumpOptions dump.options
  pub one_line : IsTrue (is_one_line dump.catalog)
  pub is_text : text ≡ text_of dump.options dump.catalog dump.query

-- ---- what a text is read as

-- the text begins with these lines, one behind the other, and goes on so
abbrev pub AreFirst : List DumpLine → (text more : List ℕ) → Type 0
AreFirst [] text more = text ≡ more
AreFirst (line ∷ lines) text more =
    (bytes : List ℕ) × (rest : List ℕ) × BeginsWithLine line text bytes rest × AreFirst lines rest more

-- of these lines the one of this number is the first that is lacking; all before it are there
pub record IsFirstLacking (lines : List DumpLine) (text : List ℕ) (number : ℕ) : Type 0 where
  pub line : DumpLine
  pub here : slice_get lines number ≡ Some line
  pub rest : List ℕ
  pub before : AreFirst (take number lines) text rest
  pub lacking : Lacks line rest

-- this is the first line that isn't of the form
abbrev pub IsLineFault : List ℕ → ℕ → Type 0
IsLineFault text number = IsFirstLacking all_lines text number

-- the text has at most so many bytes
abbrev pub IsShort : List ℕ → Type 0
IsShort text = length text ≤ most_bytes

-- what the text is read as: the dump that it says, or why it says none, unless memory ran out
abbrev pub IsReadAs : List ℕ → Result Dump DumpFault → Type 0
IsReadAs text (Ok dump) = IsShort text × IsDump text dump
IsReadAs text (Err TooLong) = most_bytes < length text
IsReadAs text (Err (Line number)) = IsShort text × IsLineFault text number
IsReadAs text (Err Memory) = ⊤

-- ---- what is dumped

-- the dump of a query over a catalogue
abbrev pub dump_of : Select → Catalog → (query : List ℕ) → DumpOptions → Dump
dump_of select catalog query options = record {
  options = options;
  catalog = dumped_catalog select catalog;
  query = query;
}

-- the text says that dump, whose catalogue is read as the tables that FROM names
pub record IsDumpOf (select : Select) (catalog : Catalog) (query : List ℕ) (options : DumpOptions) (text : List ℕ) :
    Type 0 where
  pub says : IsDump text (dump_of select catalog query options)
  pub short : IsShort text
  pub catalogue : reading_of (dumped_catalog select catalog) ≡ Ok (named_catalog select catalog)

-- the text of the dump; or there is none, where the catalogue's text is too long, unless memory ran out
abbrev pub Dumps : Select → Catalog → (query : List ℕ) → DumpOptions → Result (Vec ℕ Global) DumpFault → Type 0
Dumps select catalog query options (Ok text) =
    (length (dumped_catalog select catalog) ≤ most_catalog_bytes) × IsDumpOf select catalog query options text.items
Dumps select catalog query options (Err TooLong) = most_catalog_bytes < length (dumped_catalog select catalog)
Dumps select catalog query options (Err (Line number)) = ⊥
Dumps select catalog query options (Err Memory) = ⊤
