-- Which kind of node a text begins with, and which kind of way a node works in.
use Rattle.std.proofs.Common.{◌≡◌, ℕ, ◌≤◌, List, get_or, refl, arith}
use Rattle.std.specs.Prelude.{◌==◌, if◌then◌else◌}
use Rattle.query_core.specs.declared.query.Query.{Query}
use Rattle.query_core.specs.declared.expressions.Access.TheVariants.{Direct, Index}
use Rattle.plan_space.specs.declared.nodes.Enforcer.{Enforcer}
use Rattle.plan_space.specs.declared.nodes.Enforcer.TheVariants as enforcers
use Rattle.plan_space.specs.declared.ways.Kept.TheVariants.{Rows, SpreadRows}
use Rattle.plan_space.specs.declared.ways.JoinBy.TheVariants.{Hashing, Merging, Looping}
use Rattle.plan_space.specs.declared.ways.Way.{Way}
use Rattle.plan_space.specs.declared.ways.Way.TheVariants.{Reads, Passes, Joins, Groups}
use Rattle.plan_lines.specs.Text.{enforcer_text}

-- ---- texts

-- operators have their numbers, and enforcers have these
abbrev pub enforcer_kind : Enforcer → ℕ
enforcer_kind enforcers.Gather = 20
enforcer_kind enforcers.Broadcast = 21
enforcer_kind (enforcers.Sort order) = 22
enforcer_kind (enforcers.GatherMerge order) = 23
enforcer_kind (enforcers.Redistribute list) = 24

-- the kind by four bytes
abbrev pub kind_in : List ℕ → ℕ
kind_in text =
    if get_or text 0 0 == 83 then (if get_or text 1 0 == 99 then 2 else if get_or text 1 0 == 116 then 14 else 22)
    else if get_or text 0 0 == 73 then (if get_or text 6 0 == 99 then 3 else 6)
    else if get_or text 0 0 == 70 then 5
    else if get_or text 0 0 == 72 then (if get_or text 4 0 == 74 then 9 else 13)
    else if get_or text 0 0 == 77 then 10
    else if get_or text 0 0 == 76 then 11
    else if get_or text 0 0 == 80 then 16
    else if get_or text 0 0 == 71 then (if get_or text 6 0 == 77 then 23 else 20)
    else if get_or text 0 0 == 66 then 21
    else 24

-- an enforcer's text begins with its kind
pub enforcer_read : (q : Query) (e : Enforcer) → kind_in (enforcer_text q e) ≡ enforcer_kind e
enforcer_read q enforcers.Gather = refl
enforcer_read q enforcers.Broadcast = refl
enforcer_read q (enforcers.Sort order) = refl
enforcer_read q (enforcers.GatherMerge order) = refl
enforcer_read q (enforcers.Redistribute list) = refl

pub enforcer_large : (e : Enforcer) → 20 ≤ enforcer_kind e
enforcer_large e = grind arith

-- ---- ways

-- which of the four ways it is
abbrev pub way_sort : Way → ℕ
way_sort (Reads access) = 0
way_sort (Passes kept child) = 1
way_sort (Joins by left right) = 2
way_sort (Groups by child) = 3

-- ways of one kind differ in an index or in groups alone
abbrev pub way_kind : Way → ℕ
way_kind (Reads Direct) = 0
way_kind (Reads (Index index)) = 1
way_kind (Passes Rows child) = 2
way_kind (Passes SpreadRows child) = 3
way_kind (Joins Hashing left right) = 4
way_kind (Joins Merging left right) = 5
way_kind (Joins Looping left right) = 6
way_kind (Groups by child) = 7

-- the index by which a way reads, else 0
abbrev pub way_index : Way → ℕ
way_index (Reads Direct) = 0
way_index (Reads (Index index)) = index
way_index (Passes kept child) = 0
way_index (Joins by left right) = 0
way_index (Groups by child) = 0
