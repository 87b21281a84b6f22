-- Plans of groups that the query has.
use Rattle.query_core.specs.declared.query.Query.{Query}
use Rattle.plan_space.specs.Nodes.{Tree, leaf, over, two}
use Rattle.plan_tree.specs.Seen.{HasGroup}

-- the groups of all its expressions are groups of the query
abbrev pub HasGroups : Query → Tree → Type 0
HasGroups q (leaf node) = HasGroup q node
HasGroups q (over node kid) = HasGroup q node × HasGroups q kid
HasGroups q (two node left right) = HasGroup q node × HasGroups q left × HasGroups q right
