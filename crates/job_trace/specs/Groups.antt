-- How a group is printed.
use Rattle.std.specs.Prelude.{ℕ, List, [], ◌++◌, ◌==◌, codes, decimal, filter, map}
use Rattle.std.specs.List.{enumerate_from, join_by}
use Rattle.query_core.specs.Sets.{bit}
use Rattle.query_core.specs.declared.query.Query.{Query}
use Rattle.query_core.specs.declared.table.QueryTable.{QueryTable}
use Rattle.query_core.specs.declared.words.KeyParts.{KeyParts}
use Rattle.query_core.specs.declared.words.KeyParts.TheVariants as groups
use Rattle.cardinality.specs.Rows.{rows_of}
use Rattle.query_text.specs.Columns.{table_text}

-- of tables that stand from a place on, those that the set has, in ascending position
abbrev pub tables_in : ℕ → ℕ → List QueryTable → List QueryTable
tables_in set place tables = map (λ p. p.1) (filter (λ p. bit set p.0 == 1) (enumerate_from place tables))

-- the aliases of the tables of a set, with a comma and a space between each two
abbrev pub set_text : Query → ℕ → List ℕ
set_text q set = join_by (λ table. table.alias) (codes ", ") (tables_in set 0 q.tables)

-- the tables that a group joins
abbrev pub tables_text : Query → KeyParts → List ℕ
tables_text q (groups.Get t) = table_text q t
tables_text q (groups.Filter t) = table_text q t
tables_text q (groups.Join set) = set_text q set
tables_text q groups.Partial = []
tables_text q groups.Agg = []

-- a name, and in brackets what it is about
abbrev pub named : List ℕ → List ℕ → List ℕ
named name about = name ++ codes "(" ++ about ++ codes ")"

-- a group
abbrev pub group_text : Query → KeyParts → List ℕ
group_text q (groups.Get t) = named (codes "Get") (table_text q t)
group_text q (groups.Filter t) = named (codes "Filter") (table_text q t)
group_text q (groups.Join set) = named (codes "Join") (set_text q set)
group_text q groups.Partial = codes "Partial"
group_text q groups.Agg = codes "Agg"

-- the line of a group, with its estimated rows
abbrev pub group_line : Query → KeyParts → List ℕ
group_line q g = codes "group " ++ group_text q g ++ codes " rows=" ++ decimal (rows_of q g) ++ codes "\n"
