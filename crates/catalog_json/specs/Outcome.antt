-- What the bytes of a catalogue say, as a function of the bytes.
use Rattle.std.specs.Prelude.{◌≡◌, ◌≢◌, ℕ, List, length, nat_lt, if◌then◌else◌, Option, Some, None, Result, Ok, Err}
use Rattle.std.specs.Str.{is_utf8}
use Rattle.serde_json.specs.Data.{Data}
use Rattle.serde_json.specs.Read.{read}
use Rattle.query_core.specs.declared.catalog.Catalog.{Catalog}
use Rattle.catalog_json.specs.declared.fault.Fault.{Fault}
use Rattle.catalog_json.specs.declared.fault.Fault.TheVariants as faults
use Rattle.catalog_json.specs.declared.fault.CatalogFault.{CatalogFault}
use Rattle.catalog_json.specs.declared.fault.CatalogFault.TheVariants.{TooLong, NotJson, Shape, Version, Range, Twice}
use Rattle.catalog_json.specs.declared.fault.CatalogFault.TheVariants.{UnknownColumn, Memory}
use Rattle.catalog_json.specs.Place.{pointer_of}
use Rattle.catalog_json.specs.Walk.{Reading, catalog_at}

-- a fault, with its place as a pointer
abbrev pub told : Fault → CatalogFault
told (faults.Shape at) = Shape (pointer_of at)
told (faults.Version found) = Version found
told (faults.Range at) = Range (pointer_of at)
told (faults.Twice at) = Twice (pointer_of at)
told (faults.UnknownColumn at) = UnknownColumn (pointer_of at)
told faults.Memory = Memory

-- what a reading of the walk tells
abbrev pub told_of : Reading Catalog → Result Catalog CatalogFault
told_of (Ok catalog) = Ok catalog
told_of (Err fault) = Err (told fault)

-- what a JSON value tells; none stands for bytes that are no JSON
abbrev pub of_value : Option Data → Result Catalog CatalogFault
of_value None = Err NotJson
of_value (Some d) = told_of (catalog_at d)

-- the value of the bytes, where they are UTF-8 and JSON of at most 127 levels
abbrev pub json_of : List ℕ → Option Data
json_of bytes = if is_utf8 bytes then read bytes else None

-- how many bytes a catalogue may have
abbrev pub most_bytes : ℕ
most_bytes = 1048576

-- what the bytes say: a catalogue, or the first fault
unfoldable pub reading_of : List ℕ → Result Catalog CatalogFault
reading_of bytes = if nat_lt most_bytes (length bytes) then Err TooLong else of_value (json_of bytes)

-- the outcome is what the bytes say, unless memory ran out
abbrev pub CatalogReads : List ℕ → Result Catalog CatalogFault → Type 0
CatalogReads bytes outcome = outcome ≢ Err Memory → outcome ≡ reading_of bytes
