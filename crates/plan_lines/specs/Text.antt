-- The lines in which a plan is printed.
use Rattle.std.specs.Prelude.{ℕ, zero, suc, Bool, ◌==◌, List, [], ◌∷◌, ◌++◌, flat_map, Option, None, Some, codes}
use Rattle.std.specs.Prelude.{decimal}
use Rattle.std.specs.Prelude.{if◌then◌else◌}
use Rattle.std.specs.Option.{option_map}
use Rattle.query_core.specs.Expressions.{table_in}
use Rattle.query_core.specs.declared.query.Query.{Query}
use Rattle.query_core.specs.declared.output.OutItem.{OutItem}
use Rattle.query_core.specs.declared.expressions.Physical.{Physical}
use Rattle.query_core.specs.declared.expressions.Access.{Access}
use Rattle.query_core.specs.declared.expressions.Access.TheVariants as accesses
use Rattle.query_core.specs.declared.expressions.PhysicalExpr.{PhysicalExpr}
use Rattle.cardinality.specs.Rows.{rows_of}
use Rattle.request_props.specs.Numbered.{list_of, order_of}
use Rattle.cost_units.specs.Cost.{local_cost}
use Rattle.query_text.specs.Columns.{computed_text, table_text}
use Rattle.query_text.specs.Lists.{list_text, order_text}
use Rattle.query_text.specs.Names.{physical_name}
use Rattle.plan_space.specs.declared.nodes.Enforcer.{Enforcer}
use Rattle.plan_space.specs.declared.nodes.Enforcer.TheVariants as enforcers
use Rattle.plan_space.specs.declared.nodes.NodeKind.{NodeKind}
use Rattle.plan_space.specs.declared.nodes.NodeKind.TheVariants as nodes
use Rattle.plan_space.specs.Nodes.{Tree, leaf, over, two}
use Rattle.plan_space.specs.Modes.{mode_at}
use Rattle.plan_space.specs.declared.modes.Mode.{Mode}
use Rattle.plan_space.specs.declared.modes.Mode.TheVariants as modes
use Rattle.plan_space.specs.declared.ways.Kept.{Kept}
use Rattle.plan_space.specs.declared.ways.Kept.TheVariants as kept_rows
use Rattle.plan_space.specs.declared.ways.JoinBy.{JoinBy}
use Rattle.plan_space.specs.declared.ways.JoinBy.TheVariants as joins
use Rattle.plan_space.specs.declared.ways.Way.{Way}
use Rattle.plan_space.specs.declared.ways.Way.TheVariants.{Reads, Passes, Joins, Groups}
use Rattle.plan_space.specs.Ways.{way_of}
use Rattle.plan_space.specs.Lines.{is_replicated}
use Rattle.plan_space.specs.declared.seen.Kid.{Kid}
use Rattle.plan_space.specs.Gives.{node_group, kid_of}
use Rattle.plan_space.specs.Cost.{shape_of, cost_of}

-- ---- modes

-- the text of a mode that has no number, which counts as 0
abbrev pub unnumbered : ℕ → List ℕ → Option (List ℕ)
unnumbered number text = if number == 0 then Some text else None

-- that of a mode by the equality of a number
abbrev pub by_equality : ℕ → List ℕ → Option (List ℕ)
by_equality number text = Some (text ++ decimal number)

-- how a hash join works: on one segment, with copies of the right side, or on rows hashed alike by an equality
abbrev pub hash_mode_text : Mode → Option (List ℕ)
hash_mode_text (modes.Plain number) = unnumbered number (codes "one")
hash_mode_text (modes.Copied number) = unnumbered number (codes "copied")
hash_mode_text (modes.Hashed number) = by_equality number (codes "colocated p")

-- how a merge join works, each time by an equality
abbrev pub merge_mode_text : Mode → Option (List ℕ)
merge_mode_text (modes.Plain number) = by_equality number (codes "one p")
merge_mode_text (modes.Copied number) = by_equality number (codes "copied p")
merge_mode_text (modes.Hashed number) = by_equality number (codes "colocated p")

-- how a loop join works
abbrev pub loop_mode_text : Mode → Option (List ℕ)
loop_mode_text (modes.Plain number) = unnumbered number (codes "one")
loop_mode_text (modes.Copied number) = unnumbered number (codes "copied")
loop_mode_text (modes.Hashed number) = None

-- how a join works
abbrev pub join_mode_text : JoinBy → Mode → Option (List ℕ)
join_mode_text joins.Hashing mode = hash_mode_text mode
join_mode_text joins.Merging mode = merge_mode_text mode
join_mode_text joins.Looping mode = loop_mode_text mode

-- how an aggregation works: on one segment, or on rows hashed by the list of this number
abbrev pub agg_mode_text : Query → Mode → Option (List ℕ)
agg_mode_text q (modes.Plain number) = unnumbered number (codes "one")
agg_mode_text q (modes.Copied number) = None
agg_mode_text q (modes.Hashed list) = Some (codes "hashed " ++ list_text q (list_of q list))

-- how rows are read of which each segment has all: a share on each segment, all at one place, or all on each segment
abbrev pub replica_text : ℕ → Option (List ℕ)
replica_text number =
    if number == 0 then Some (codes " own")
    else if number == 1 then Some (codes " one")
    else if number == 2 then Some (codes " copies")
    else None

-- how the rows of a table are read, if several ways are there, with nothing said of the only one
abbrev pub read_mode_text : Bool → Mode → Option (List ℕ)
read_mode_text several (modes.Plain number) = if several then replica_text number else unnumbered number []
read_mode_text several (modes.Copied number) = None
read_mode_text several (modes.Hashed number) = None

-- the text where an operator has one mode
abbrev pub only_mode_text : List ℕ → Mode → Option (List ℕ)
only_mode_text text (modes.Plain number) = unnumbered number text
only_mode_text text (modes.Copied number) = None
only_mode_text text (modes.Hashed number) = None

-- ---- nodes

-- a text in brackets
abbrev pub bracketed : List ℕ → List ℕ
bracketed text = codes "(" ++ text ++ codes ")"

-- what is read: a table, and the number of its index if one is read
abbrev pub place_text : Query → ℕ → Access → List ℕ
place_text q table accesses.Direct = table_text q table
place_text q table (accesses.Index index) = table_text q table ++ codes ", i" ++ decimal index

-- what is passed on: all rows of a table, or groups that are not complete, which are no table's
abbrev pub kept_text : Query → ℕ → Kept → List ℕ
kept_text q table kept_rows.Rows = bracketed (table_text q table)
kept_text q table kept_rows.SpreadRows = []

-- what stands behind the name of an operator that works so, if it has the mode; the table is that whose rows it makes
abbrev pub behind_name : Query → Way → ℕ → Mode → Option (List ℕ)
behind_name q (Reads access) table mode =
    option_map (λ read. bracketed (place_text q table access ++ read)) (read_mode_text (is_replicated q table) mode)
behind_name q (Passes kept child) table mode = only_mode_text (kept_text q table kept) mode
behind_name q (Joins by left right) table mode = option_map bracketed (join_mode_text by mode)
behind_name q (Groups by child) table mode = option_map bracketed (agg_mode_text q mode)

-- an operator in a mode, if it has that
abbrev pub operator_text : Query → Physical → ℕ → Mode → Option (List ℕ)
operator_text q o table mode = option_map (λ behind. physical_name o ++ behind) (behind_name q (way_of o) table mode)

-- a physical expression in the mode of a number
abbrev pub native_text : Query → PhysicalExpr → ℕ → Option (List ℕ)
native_text q e mode = operator_text q e.operator (table_in e.group) (mode_at mode)

-- a text, or no byte where there is none
abbrev pub text_if_any : Option (List ℕ) → List ℕ
text_if_any None = []
text_if_any (Some text) = text

-- an enforcer, with its order or its hashed list
abbrev pub enforcer_text : Query → Enforcer → List ℕ
enforcer_text q enforcers.Gather = codes "Gather"
enforcer_text q enforcers.Broadcast = codes "Broadcast"
enforcer_text q (enforcers.Sort order) = codes "Sort(" ++ order_text q (order_of q order) ++ codes ")"
enforcer_text q (enforcers.GatherMerge order) = codes "GatherMerge(" ++ order_text q (order_of q order) ++ codes ")"
enforcer_text q (enforcers.Redistribute list) = codes "Redistribute(" ++ list_text q (list_of q list) ++ codes ")"

-- a node; no byte for an expression in a mode that it hasn't
abbrev pub node_text : Query → NodeKind → List ℕ
node_text q (nodes.Native e mode) = text_if_any (native_text q e mode)
node_text q (nodes.Enforcer e) = enforcer_text q e

-- ---- lines

-- two spaces for each level
abbrev pub indent : ℕ → List ℕ
indent zero = []
indent (suc depth) = indent depth ++ codes "  "

-- a name behind its spaces, with the rows and the cost
abbrev pub numbered : List ℕ → List ℕ → ℕ → ℕ → List ℕ
numbered spaces name rows cost =
    spaces ++ name ++ codes " rows=" ++ decimal rows ++ codes " cost=" ++ decimal cost ++ codes "\n"

-- the line of a node at this depth: the node, its group's rows and its own cost
abbrev pub node_line : Query → ℕ → NodeKind → List Kid → List ℕ
node_line q depth node kids =
    numbered (indent depth) (node_text q node) (rows_of q (node_group node kids)) (local_cost (shape_of q node kids))

-- the lines of a plan whose root stands at this depth, each node before those below it
abbrev pub plan_lines : Query → ℕ → Tree → List (List ℕ)
plan_lines q depth (leaf node) = node_line q depth node [] ∷ []
plan_lines q depth (over node kid) = node_line q depth node (kid_of q kid ∷ []) ∷ plan_lines q (suc depth) kid
plan_lines q depth (two node left right) =
    node_line q depth node (kid_of q left ∷ kid_of q right ∷ [])
    ∷ (plan_lines q (suc depth) left ++ plan_lines q (suc depth) right)

-- ---- the whole text

-- the output name that an item is given
abbrev pub given_name : Option (List ℕ) → List ℕ
given_name None = []
given_name (Some name) = codes " AS " ++ name

-- an item of the output, with its output name
abbrev pub output_item_text : Query → OutItem → List ℕ
output_item_text q out = computed_text q out.item ++ given_name out.name

-- the items of the output that are not the first, each with a comma and a space in front
abbrev pub other_outputs_text : Query → List OutItem → List ℕ
other_outputs_text q output = flat_map (λ out. codes ", " ++ output_item_text q out) output

-- the items of the output with a comma and a space between each two
abbrev pub outputs_text : Query → List OutItem → List ℕ
outputs_text q [] = []
outputs_text q (first ∷ others) = output_item_text q first ++ other_outputs_text q others

abbrev pub output_line : Query → List ℕ
output_line q = codes "output " ++ outputs_text q q.output ++ codes "\n"

abbrev pub cost_line : ℕ → List ℕ
cost_line cost = codes "cost " ++ decimal cost ++ codes "\n"

-- the lines of a plan's text: its cost, the query's output, and the lines of the plan
abbrev pub plan_section : Query → Tree → List (List ℕ)
plan_section q tree = cost_line (cost_of q tree) ∷ output_line q ∷ plan_lines q 0 tree

-- the text where there is no plan
abbrev pub no_plan_section : List (List ℕ)
no_plan_section = codes "no plan\n" ∷ []
