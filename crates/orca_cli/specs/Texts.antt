-- The lines that a run may put in place of a plan.
use Rattle.std.specs.Prelude.{ℕ, List, [], ◌++◌, codes, decimal}
use Rattle.catalog_json.specs.declared.fault.CatalogFault.{CatalogFault}
use Rattle.catalog_json.specs.declared.fault.CatalogFault.TheVariants as catalogs
use Rattle.sql_reader.specs.declared.faults.Limit.{Limit}
use Rattle.sql_reader.specs.declared.faults.Limit.TheVariants.{Items, Tables, Predicates, GroupBy, OrderBy}
use Rattle.sql_reader.specs.declared.faults.SqlFault.{SqlFault}
use Rattle.sql_reader.specs.declared.faults.SqlFault.TheVariants as selects
use Rattle.sql_bind.specs.declared.fault.BindFault.{BindFault}
use Rattle.sql_bind.specs.declared.fault.BindFault.TheVariants as names
use Rattle.dump_replay.specs.declared.dump.DumpFault.{DumpFault}
use Rattle.dump_replay.specs.declared.dump.DumpFault.TheVariants as dumps
use Rattle.request_props.specs.declared.fault.PropsFault.{PropsFault}
use Rattle.request_props.specs.declared.fault.PropsFault.TheVariants.{TooManyLists, TooManyOrders, Memory}
use Rattle.text_check.specs.declared.text_fault.TextFault.{TextFault}
use Rattle.text_check.specs.declared.text_fault.TextFault.TheVariants as plans

abbrev pub usage_line : List ℕ
usage_line = codes "usage: orca plan CATALOG QUERY [--workers N] [--capacity N] [--root one|spread]"
    ++ codes " [--off RULE+RULE] [--memo] [--trace] [--by-worker]"
    ++ codes " | orca gen NUMBER TABLES SHAPE [--workers N] [--capacity N]"
    ++ codes " | orca stages CATALOG QUERY STAGES [--workers N] [--capacity N] [--root one|spread]"
    ++ codes " | orca check CATALOG QUERY PLAN [--root one|spread] [--off RULE+RULE]"
    ++ codes " | orca dump CATALOG QUERY [--capacity N] [--root one|spread] [--off RULE+RULE] [--memo]"
    ++ codes " [--trace]"
    ++ codes " | orca replay DUMP [--workers N]"
    ++ codes " | orca batch CATALOG LIST [--workers N] [--capacity N] [--root one|spread]"
    ++ codes " [--off RULE+RULE] [--memo] [--trace]\n"

-- the line that names a file that couldn't be read
abbrev pub read_fault : List ℕ → List ℕ
read_fault name = codes "read fault: " ++ name ++ codes "\n"

abbrev pub no_plan : List ℕ
no_plan = codes "no plan\n"

-- the line for a query with more members and goals than this capacity
abbrev pub too_many_entries : ℕ → List ℕ
too_many_entries capacity = codes "too many entries: capacity " ++ decimal capacity ++ codes "\n"

-- the line of a refused catalogue
abbrev pub catalog_refused : List ℕ → List ℕ
catalog_refused cause = codes "catalog refused: " ++ cause ++ codes "\n"

-- the line of a refused query
abbrev pub query_refused : List ℕ → List ℕ
query_refused cause = codes "query refused: " ++ cause ++ codes "\n"

-- the line of a text that is a valid plan of this cost
abbrev pub valid_plan : ℕ → List ℕ
valid_plan cost = codes "valid cost " ++ decimal cost ++ codes "\n"

-- the line of a text that is no valid plan
abbrev pub plan_refused : List ℕ → List ℕ
plan_refused cause = codes "plan refused: " ++ cause ++ codes "\n"

-- the line of a refused dump
abbrev pub dump_refused : List ℕ → List ℕ
dump_refused cause = codes "dump refused: " ++ cause ++ codes "\n"

-- the line of a refused list of queries
abbrev pub batch_refused : List ℕ → List ℕ
batch_refused cause = codes "batch refused: " ++ cause ++ codes "\n"

-- why a catalogue is refused, with the JSON pointer of the place; want of memory has no line
abbrev pub catalog_cause : CatalogFault → List ℕ
catalog_cause catalogs.TooLong = codes "too long"
catalog_cause catalogs.NotJson = codes "not JSON"
catalog_cause (catalogs.Shape path) = codes "shape at " ++ path
catalog_cause (catalogs.Version found) = codes "version " ++ decimal found
catalog_cause (catalogs.Range path) = codes "range at " ++ path
catalog_cause (catalogs.Twice path) = codes "twice at " ++ path
catalog_cause (catalogs.UnknownColumn path) = codes "unknown column at " ++ path
catalog_cause catalogs.Memory = []

-- what there are too many of
abbrev pub limit_name : Limit → List ℕ
limit_name Items = codes "items"
limit_name Tables = codes "tables"
limit_name Predicates = codes "predicates"
limit_name GroupBy = codes "group columns"
limit_name OrderBy = codes "order keys"

-- why a text is no query, with the offset of the place; want of memory has no line
abbrev pub sql_cause : SqlFault → List ℕ
sql_cause selects.TooLong = codes "too long"
sql_cause (selects.NotAscii at) = codes "not ASCII at " ++ decimal at
sql_cause (selects.Token at) = codes "token at " ++ decimal at
sql_cause (selects.Grammar at) = codes "grammar at " ++ decimal at
sql_cause (selects.TooMany what at) = codes "too many " ++ limit_name what ++ codes " at " ++ decimal at
sql_cause selects.Memory = []

-- why a query's names can't be bound, with the offset of the place; want of memory has no line
abbrev pub bind_cause : BindFault → List ℕ
bind_cause (names.UnknownTable at) = codes "unknown table at " ++ decimal at
bind_cause (names.TwiceAlias at) = codes "name twice at " ++ decimal at
bind_cause (names.UnknownColumn at) = codes "unknown column at " ++ decimal at
bind_cause (names.Ambiguous at) = codes "ambiguous column at " ++ decimal at
bind_cause (names.NotGrouped at) = codes "not grouped at " ++ decimal at
bind_cause (names.TooManyItems found) = codes "too many columns: " ++ decimal found
bind_cause names.Memory = []

-- why the hashed lists and orders of a query have no numbers, with how many there are; want of memory has no line
abbrev pub props_cause : PropsFault → List ℕ
props_cause (TooManyLists found) = codes "too many hashed lists: " ++ decimal found
props_cause (TooManyOrders found) = codes "too many orders: " ++ decimal found
props_cause Memory = []

-- why a text is no valid plan of a query, with the line of the place; want of memory has no line
abbrev pub plan_cause : TextFault → List ℕ
plan_cause plans.TooLong = codes "too long"
plan_cause (plans.Form line) = codes "form at line " ++ decimal line
plan_cause (plans.TooLarge nodes) = codes "too large: " ++ decimal nodes
plan_cause (plans.Kids line) = codes "kids at line " ++ decimal line
plan_cause (plans.Member line) = codes "member at line " ++ decimal line
plan_cause (plans.Needs line) = codes "needs at line " ++ decimal line
plan_cause plans.Request = codes "root request"
plan_cause (plans.Number line) = codes "number at line " ++ decimal line
plan_cause plans.Memory = []

-- why there is no dump, with the number of the line; want of memory has no line
abbrev pub dump_cause : DumpFault → List ℕ
dump_cause dumps.TooLong = codes "too long"
dump_cause (dumps.Line number) = codes "line " ++ decimal number
dump_cause dumps.Memory = []
