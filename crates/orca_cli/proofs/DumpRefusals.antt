-- Bytes that aren't replayed, and files of which a dump is made.
use Rattle.std.proofs.Common.{◌≡◌, ◌≢◌, ◌<◌, ℕ, List, Ok, Err, length, codes, refl, ap}
use Rattle.std.specs.Prelude.{Vec}
use Rattle.std.specs.declared.alloc.Global.{Global}
use Rattle.query_core.specs.declared.catalog.Catalog.{Catalog}
use Rattle.query_core.specs.declared.options.Options.{Options}
use Rattle.sql_reader.specs.Faults.{IsReading}
use Rattle.sql_reader.specs.declared.syntax.Select.{Select}
use Rattle.dump_replay.specs.Dumps.{IsReadAs}
use Rattle.dump_replay.specs.declared.dump.Dump.{Dump}
use Rattle.dump_replay.specs.declared.dump.DumpFault.{DumpFault}
use Rattle.dump_replay.specs.declared.dump.DumpFault.TheVariants as dumps
use Rattle.orca_cli.specs.Asked.{SaysCatalog, Asks}
use Rattle.orca_cli.specs.Prepared.{AsksNothing, IsReplayRefused, over_none, over_catalog, no_dump, no_query}
use Rattle.orca_cli.specs.Prepared.{IsCatalogRefused, IsQueryRefused}
use Rattle.orca_cli.specs.Replays.{IsNoDump}
use Rattle.orca_cli.specs.Texts as texts
use Rattle.orca_cli.specs.Views.{EndsWith, IsAsked, IsDumpedOf}
use Rattle.orca_cli.specs.declared.asked.Asked.{Asked}
use Rattle.orca_cli.specs.declared.ending.End.{End}
use Rattle.orca_cli.specs.declared.status.Status.TheVariants.{DumpRefused}
use Rattle.orca_cli.proofs.Ended.{ends_then}

-- bytes that are no dump, for the cause that the line gives
pub refused_bytes : (bytes given : List ℕ) (fault : DumpFault) → IsReadAs bytes (Err fault) → fault ≢ dumps.Memory
    → given ≡ texts.dump_cause fault → IsReplayRefused bytes DumpRefused (texts.dump_refused given)
refused_bytes bytes given fault read not_memory same =
    let none : IsNoDump bytes (texts.dump_cause fault) =
    record { fault = fault; read = read; not_memory = not_memory; caused = refl } in
    no_dump (record {
      refused = refl;
      cause = texts.dump_cause fault;
      no_dump = none;
      line = ap texts.dump_refused same;
    })

-- bytes over the limit are refused as no dump
pub long_dump : (bytes : List ℕ) → 1179648 < length bytes
    → IsReplayRefused bytes DumpRefused (texts.dump_refused (codes "too long"))
long_dump bytes long = refused_bytes bytes (codes "too long") dumps.TooLong long (λ same. cc) refl

-- bytes that say a dump which asks for nothing
pub nothing_asked : (bytes : List ℕ) (dump : Dump) (end : End) → IsReadAs bytes (Ok dump)
    → EndsWith (AsksNothing dump) end → EndsWith (IsReplayRefused bytes) end
nothing_asked bytes dump end says = ends_then (AsksNothing dump) (IsReplayRefused bytes) end
    (λ s t why. no_query dump says why)

-- a dump whose catalogue is none
pub none_over : (dump : Dump) (end : End) → EndsWith (IsCatalogRefused dump.catalog) end
    → EndsWith (AsksNothing dump) end
none_over dump end = ends_then (IsCatalogRefused dump.catalog) (AsksNothing dump) end (λ s t why. over_none why)

-- a dump whose query is refused
pub refused_over : (dump : Dump) (catalog : Catalog) (end : End) → SaysCatalog dump.catalog catalog
    → EndsWith (IsQueryRefused catalog dump.options.options dump.query) end → EndsWith (AsksNothing dump) end
refused_over dump catalog end says = ends_then (IsQueryRefused catalog dump.options.options dump.query)
    (AsksNothing dump) end (λ s t why. over_catalog catalog says why)

-- a text that is read as the select, and asks for a query over the catalogue
pub is_dumped_of : (catalog : Catalog) (options : Options) (text : Vec ℕ Global) (select : Select) (asked : Asked)
    → IsReading text.items select → IsAsked (Asks catalog options text.items) asked
    → IsDumpedOf catalog options text.items (record { catalog = catalog; query = text; select = select })
is_dumped_of catalog options text select asked reading asks = record {
  over = refl;
  of_text = refl;
  reading = reading;
  query = asked.query;
  asks = asks.query_is;
}
