-- How a member of a group is printed.
use Rattle.std.specs.Prelude.{ℕ, List, ◌++◌, codes, decimal}
use Rattle.query_core.specs.Expressions.{access, implements}
use Rattle.query_core.specs.declared.query.Query.{Query}
use Rattle.query_core.specs.declared.words.KeyParts.{KeyParts}
use Rattle.query_core.specs.declared.words.KeyParts.TheVariants as groups
use Rattle.query_core.specs.declared.expressions.Logical.{Logical}
use Rattle.query_core.specs.declared.expressions.Logical.TheVariants as logical
use Rattle.query_core.specs.declared.expressions.Physical.{Physical}
use Rattle.query_core.specs.declared.expressions.Access.{Access}
use Rattle.query_core.specs.declared.expressions.Access.TheVariants as accesses
use Rattle.query_core.specs.declared.expressions.Operator.{Operator}
use Rattle.query_core.specs.declared.expressions.Operator.TheVariants as operators
use Rattle.query_core.specs.declared.expressions.ExprParts.{ExprParts}
use Rattle.query_text.specs.Names.{physical_name}
use Rattle.job_trace.specs.Groups.{tables_text, named}

-- the tables of each side of a join, the left one first
abbrev pub sides_text : Query → KeyParts → KeyParts → List ℕ
sides_text q left right = tables_text q left ++ codes " | " ++ tables_text q right

-- what is aggregated: groups that are not complete, or the whole input
abbrev pub source_text : KeyParts → List ℕ
source_text (groups.Get t) = codes "input"
source_text (groups.Filter t) = codes "input"
source_text (groups.Join set) = codes "input"
source_text groups.Partial = codes "partial"
source_text groups.Agg = codes "input"

-- the tables, and the number of an index of theirs
abbrev pub index_text : Query → KeyParts → ℕ → List ℕ
index_text q group index = tables_text q group ++ codes ", i" ++ decimal index

-- a logical operator's name
abbrev pub logical_name : Logical → List ℕ
logical_name logical.Get = codes "Get"
logical_name (logical.Select child) = codes "Select"
logical_name logical.NJoin = codes "NJoin"
logical_name (logical.Join left right) = codes "Join"
logical_name (logical.Agg child) = codes "Agg"
logical_name (logical.Partial child) = codes "Partial"

-- what a logical operator of a group is about: the group's tables, those of each side, or what is aggregated
abbrev pub logical_about : Query → KeyParts → Logical → List ℕ
logical_about q group logical.Get = tables_text q group
logical_about q group (logical.Select child) = tables_text q group
logical_about q group logical.NJoin = tables_text q group
logical_about q group (logical.Join left right) = sides_text q left right
logical_about q group (logical.Agg child) = source_text child
logical_about q group (logical.Partial child) = source_text child

-- what an operator of a group is about that implements this, and comes to its rows so
abbrev pub about_by : Query → KeyParts → Logical → Access → List ℕ
about_by q group o accesses.Direct = logical_about q group o
about_by q group o (accesses.Index index) = index_text q group index

-- a logical operator of a group
abbrev pub logical_text : Query → KeyParts → Logical → List ℕ
logical_text q group o = named (logical_name o) (logical_about q group o)

-- a physical operator of a group
abbrev pub physical_text : Query → KeyParts → Physical → List ℕ
physical_text q group o = named (physical_name o) (about_by q group (implements group o) (access o))

-- an operator of a group
abbrev pub operator_text : Query → KeyParts → Operator → List ℕ
operator_text q group (operators.Logical o) = logical_text q group o
operator_text q group (operators.Physical o) = physical_text q group o

-- a member
abbrev pub member_text : Query → ExprParts → List ℕ
member_text q e = operator_text q e.group e.operator

-- the line of a member, two spaces before it
abbrev pub member_line : Query → ExprParts → List ℕ
member_line q e = codes "  " ++ member_text q e ++ codes "\n"
