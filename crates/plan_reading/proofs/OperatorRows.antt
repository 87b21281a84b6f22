-- What is said of each operator by name: no other file of proofs lists them.
use Rattle.std.proofs.Common.{◌≡◌, ℕ, ◌<◌, ◌⊎◌, true, List, ◌++◌, length, refl, sym, ap, ◌∙◌, subst, arith, inl, inr}
use Rattle.std.specs.List.{list_all, Contains}
use Rattle.std.proofs.lemmas.Option.{slice_get_within}
use Rattle.query_core.specs.Expressions.{implements, physical_fields, physical_children, table_in, HasPhysical}
use Rattle.query_core.specs.Expressions.{HasIndex, IsCandidate, IsPacked}
use Rattle.query_core.specs.Keys.{IsGroup, tables_of, top_of}
use Rattle.query_core.specs.declared.query.Query.{Query}
use Rattle.query_core.specs.declared.words.KeyParts.{KeyParts}
use Rattle.query_core.specs.declared.words.KeyParts.TheVariants as groups
use Rattle.query_core.specs.declared.expressions.Access.TheVariants.{Index}
use Rattle.query_core.specs.declared.expressions.ExprParts.{ExprParts}
use Rattle.query_core.specs.declared.expressions.Operator.TheVariants as operators
use Rattle.query_core.specs.declared.expressions.Physical.{Physical}
use Rattle.query_core.specs.declared.expressions.Physical.TheVariants as physical
use Rattle.query_text.specs.Names.{physical_name}
use Rattle.plan_space.specs.Choices.{groups_of}
use Rattle.plan_space.specs.Laws.{AreOf}
use Rattle.plan_space.specs.Ways.{way_of}
use Rattle.plan_space.specs.declared.modes.Mode.{Mode}
use Rattle.plan_space.specs.declared.seen.Kid.{Kid}
use Rattle.plan_space.specs.declared.ways.Way.TheVariants.{Reads}
use Rattle.plan_lines.specs.Text.{operator_text}
use Rattle.plan_reading.specs.Named.{named_of, HasTable, HasModeForm}
use Rattle.plan_reading.specs.NodeOver.{group_over, node_over}
use Rattle.plan_reading.specs.Operators.{over_groups, unplaced, direct_operators, index_operators, AreFirst}
use Rattle.plan_reading.specs.Reading.{is_bare, IsFlush}
use Rattle.plan_reading.specs.Texts.{index_numbers}
use Rattle.plan_reading.proofs.Marks.{kind_in, way_sort, way_kind, way_index}
use Rattle.plan_reading.proofs.SameNodes.{numbered, same_node, join_over, kid_over}

-- ---- names

-- an operator's number is told by its name, which has no equals sign and no newline, and begins with no space
pub record IsName (o : Physical) : Type 0 where
  pub read : (rest : List ℕ) → kind_in (physical_name o ++ rest) ≡ (physical_fields o).number
  pub bare : list_all is_bare (physical_name o) ≡ true
  pub flush : (rest : List ℕ) → IsFlush (physical_name o ++ rest)

pub is_name : (o : Physical) → IsName o
is_name physical.Scan = record { read = λ rest. refl; bare = refl; flush = λ rest. refl }
is_name (physical.IndexScan index) = record { read = λ rest. refl; bare = refl; flush = λ rest. refl }
is_name (physical.Filter child) = record { read = λ rest. refl; bare = refl; flush = λ rest. refl }
is_name (physical.IndexSeek index) = record { read = λ rest. refl; bare = refl; flush = λ rest. refl }
is_name (physical.HashJoin left right) = record { read = λ rest. refl; bare = refl; flush = λ rest. refl }
is_name (physical.MergeJoin left right) = record { read = λ rest. refl; bare = refl; flush = λ rest. refl }
is_name (physical.LoopJoin left right) = record { read = λ rest. refl; bare = refl; flush = λ rest. refl }
is_name (physical.HashAgg child) = record { read = λ rest. refl; bare = refl; flush = λ rest. refl }
is_name (physical.StreamAgg child) = record { read = λ rest. refl; bare = refl; flush = λ rest. refl }
is_name (physical.PartialAgg child) = record { read = λ rest. refl; bare = refl; flush = λ rest. refl }

pub number_small : (o : Physical) → (physical_fields o).number < 20
number_small o = grind arith

-- what two operators of one number have in common
pub record AreAlike (o p : Physical) : Type 0 where
  pub name : physical_name o ≡ physical_name p
  pub sort : way_sort (way_of o) ≡ way_sort (way_of p)
  pub way : way_kind (way_of o) ≡ way_kind (way_of p)
  pub unplaced_one : way_index (way_of o) ≡ way_index (way_of p) → unplaced o ≡ unplaced p

pub alike : (o p : Physical) → (physical_fields o).number ≡ (physical_fields p).number → AreAlike o p
alike physical.Scan physical.Scan same = record { name = refl; sort = refl; way = refl; unplaced_one = λ e. refl }
alike (physical.IndexScan i) (physical.IndexScan j) same =
    record { name = refl; sort = refl; way = refl; unplaced_one = λ e. ap physical.IndexScan e }
alike (physical.Filter c) (physical.Filter d) same = record { name = refl; sort = refl; way = refl; unplaced_one = λ e. refl }
alike (physical.IndexSeek i) (physical.IndexSeek j) same =
    record { name = refl; sort = refl; way = refl; unplaced_one = λ e. ap physical.IndexSeek e }
alike (physical.HashJoin l r) (physical.HashJoin m s) same =
    record { name = refl; sort = refl; way = refl; unplaced_one = λ e. refl }
alike (physical.MergeJoin l r) (physical.MergeJoin m s) same =
    record { name = refl; sort = refl; way = refl; unplaced_one = λ e. refl }
alike (physical.LoopJoin l r) (physical.LoopJoin m s) same =
    record { name = refl; sort = refl; way = refl; unplaced_one = λ e. refl }
alike (physical.HashAgg c) (physical.HashAgg d) same = record { name = refl; sort = refl; way = refl; unplaced_one = λ e. refl }
alike (physical.StreamAgg c) (physical.StreamAgg d) same = record { name = refl; sort = refl; way = refl; unplaced_one = λ e. refl }
alike (physical.PartialAgg c) (physical.PartialAgg d) same = record { name = refl; sort = refl; way = refl; unplaced_one = λ e. refl }
alike o p same = absurd (omega (arith, same))

-- ---- over other groups

pub over_again : (o : Physical) (a b : KeyParts) → unplaced (over_groups o a b) ≡ unplaced o
over_again physical.Scan a b = refl
over_again (physical.IndexScan index) a b = refl
over_again (physical.Filter child) a b = refl
over_again (physical.IndexSeek index) a b = refl
over_again (physical.HashJoin left right) a b = refl
over_again (physical.MergeJoin left right) a b = refl
over_again (physical.LoopJoin left right) a b = refl
over_again (physical.HashAgg child) a b = refl
over_again (physical.StreamAgg child) a b = refl
over_again (physical.PartialAgg child) a b = refl

both_same : (join : KeyParts → KeyParts → Physical) (left right : KeyParts) → (left ≡ groups.Get 0) × (right ≡ groups.Get 0)
    → join (groups.Get 0) (groups.Get 0) ≡ join left right
both_same join left right first = ap (λ x. join x (groups.Get 0)) (sym first.0) ∙ ap (join left) (sym first.1)

-- one over the first table alone is itself
pub first_same : (o : Physical) → AreFirst (physical_children o) → unplaced o ≡ o
first_same physical.Scan first = refl
first_same (physical.IndexScan index) first = refl
first_same (physical.Filter child) first = ap physical.Filter (sym first)
first_same (physical.IndexSeek index) first = refl
first_same (physical.HashJoin left right) first = both_same physical.HashJoin left right first
first_same (physical.MergeJoin left right) first = both_same physical.MergeJoin left right first
first_same (physical.LoopJoin left right) first = both_same physical.LoopJoin left right first
first_same (physical.HashAgg child) first = ap physical.HashAgg (sym first)
first_same (physical.StreamAgg child) first = ap physical.StreamAgg (sym first)
first_same (physical.PartialAgg child) first = ap physical.PartialAgg (sym first)

-- and what a line names is over it
pub unplaced_first : (o : Physical) → AreFirst (physical_children (unplaced o))
unplaced_first physical.Scan = tt
unplaced_first (physical.IndexScan index) = tt
unplaced_first (physical.Filter child) = refl
unplaced_first (physical.IndexSeek index) = tt
unplaced_first (physical.HashJoin left right) = (refl, refl)
unplaced_first (physical.MergeJoin left right) = (refl, refl)
unplaced_first (physical.LoopJoin left right) = (refl, refl)
unplaced_first (physical.HashAgg child) = refl
unplaced_first (physical.StreamAgg child) = refl
unplaced_first (physical.PartialAgg child) = refl

-- its text is the same
pub unplaced_text : (q : Query) (o : Physical) (t : ℕ) (mode : Mode)
    → operator_text q (unplaced o) t mode ≡ operator_text q o t mode
unplaced_text q physical.Scan t mode = refl
unplaced_text q (physical.IndexScan index) t mode = refl
unplaced_text q (physical.Filter child) t mode = refl
unplaced_text q (physical.IndexSeek index) t mode = refl
unplaced_text q (physical.HashJoin left right) t mode = refl
unplaced_text q (physical.MergeJoin left right) t mode = refl
unplaced_text q (physical.LoopJoin left right) t mode = refl
unplaced_text q (physical.HashAgg child) t mode = refl
unplaced_text q (physical.StreamAgg child) t mode = refl
unplaced_text q (physical.PartialAgg child) t mode = refl

-- so are its modes
pub unplaced_mode : (q : Query) (o : Physical) (t : ℕ) (mode : Mode) → HasModeForm q (way_of o) t mode
    → HasModeForm q (way_of (unplaced o)) t mode
unplaced_mode q physical.Scan t mode form = form
unplaced_mode q (physical.IndexScan index) t mode form = form
unplaced_mode q (physical.Filter child) t mode form = form
unplaced_mode q (physical.IndexSeek index) t mode form = form
unplaced_mode q (physical.HashJoin left right) t mode form = form
unplaced_mode q (physical.MergeJoin left right) t mode form = form
unplaced_mode q (physical.LoopJoin left right) t mode form = form
unplaced_mode q (physical.HashAgg child) t mode form = form
unplaced_mode q (physical.StreamAgg child) t mode form = form
unplaced_mode q (physical.PartialAgg child) t mode form = form

-- it stands in the list of those that read by no index, or in that of its index
abbrev pub IsListed : Physical → Type 0
IsListed o = Contains direct_operators o
    ⊎ ((i : ℕ) × (way_of o ≡ Reads (Index i)) × Contains (index_operators i) o)

pub listed : (o : Physical) → IsListed (unplaced o)
listed physical.Scan = inl (0, omega arith, refl)
listed (physical.IndexScan index) = inr (index, refl, (0, omega arith, refl))
listed (physical.Filter child) = inl (1, omega arith, refl)
listed (physical.IndexSeek index) = inr (index, refl, (1, omega arith, refl))
listed (physical.HashJoin left right) = inl (2, omega arith, refl)
listed (physical.MergeJoin left right) = inl (3, omega arith, refl)
listed (physical.LoopJoin left right) = inl (4, omega arith, refl)
listed (physical.HashAgg child) = inl (5, omega arith, refl)
listed (physical.StreamAgg child) = inl (6, omega arith, refl)
listed (physical.PartialAgg child) = inl (7, omega arith, refl)

-- ---- tables

-- the table of an operator that a group can have is the group's
pub group_table : (q : Query) (g : KeyParts) (o : Physical) → IsGroup q g → HasPhysical q g o
    → HasTable q (way_of (unplaced o)) (table_in g)
group_table q g physical.Scan known shape =
    let below : shape.0.0 < length q.tables = subst (IsGroup q) shape.0.1 known in
    subst (λ t. t < length q.tables) (sym (ap table_in shape.0.1)) below
group_table q g (physical.IndexScan index) known shape = shape.1
group_table q g (physical.Filter child) known shape =
    let is : IsGroup q (groups.Filter shape.0.0) = subst (IsGroup q) shape.0.1 known in
    subst (λ t. t < length q.tables) (sym (ap table_in shape.0.1)) is.0
group_table q g (physical.IndexSeek index) known shape = shape.1
group_table q g (physical.HashJoin left right) known shape = ap table_in shape.0.3
group_table q g (physical.MergeJoin left right) known shape = ap table_in shape.0.3
group_table q g (physical.LoopJoin left right) known shape = ap table_in shape.0.3
group_table q g (physical.HashAgg child) known shape = ap table_in shape.0.0
group_table q g (physical.StreamAgg child) known shape = ap table_in shape.0.0
group_table q g (physical.PartialAgg child) known shape = ap table_in shape.0.0

-- an index is one of a table of the query, and has a small number
pub index_known : (q : Query) → ((e : ExprParts) → IsCandidate q e → IsPacked e) → (t i : ℕ) → HasIndex q t i
    → (t < length q.tables) × (i < index_numbers)
index_known q packed t i has =
    let e : ExprParts = record { group = groups.Get t; operator = operators.Physical (physical.IndexScan i) } in
    let below = slice_get_within q.tables t has.0 has.1 in
    let is = packed e (record { known = below; shape = ((t, refl), has) }) in
    (below, is.index)

-- the group in which an operator is implemented has its table
pub table_again : (q : Query) (o : Physical) (t : ℕ) (kids : List Kid) → HasTable q (way_of o) t
    → table_in (group_over (implements (groups.Get t) o) t kids) ≡ t
table_again q physical.Scan t kids has = refl
table_again q (physical.IndexScan index) t kids has = refl
table_again q (physical.Filter child) t kids has = refl
table_again q (physical.IndexSeek index) t kids has = refl
table_again q (physical.HashJoin left right) t kids has = sym has
table_again q (physical.MergeJoin left right) t kids has = sym has
table_again q (physical.LoopJoin left right) t kids has = sym has
table_again q (physical.HashAgg child) t kids has = sym has
table_again q (physical.StreamAgg child) t kids has = sym has
table_again q (physical.PartialAgg child) t kids has = sym has

-- ---- over kids

module _ (q : Query) (tables : (set : ℕ) → tables_of (top_of q set) ≡ set) where
  -- an operator of a group over its kids is the one that its name and their groups tell
  pub native_is : (g : KeyParts) (o : Physical) (m : ℕ) (kids : List Kid) → HasPhysical q g o
      → AreOf (groups_of (physical_children o)) kids → numbered g o m ≡ node_over (named_of (numbered g o m)) kids
  native_is g physical.Scan m kids x of =
      same_node g (groups.Get (table_in g)) physical.Scan physical.Scan m
      (x.0.1 ∙ ap groups.Get (sym (ap table_in x.0.1))) refl
  native_is g (physical.IndexScan i) m kids x of =
      same_node g (groups.Get (table_in g)) (physical.IndexScan i) (physical.IndexScan i) m
      (x.0.1 ∙ ap groups.Get (sym (ap table_in x.0.1))) refl
  native_is g (physical.Filter c) m kids x of =
      let t : x.0.0 ≡ table_in g = sym (ap table_in x.0.1) in
      same_node g (groups.Filter (table_in g)) (physical.Filter c) (physical.Filter (groups.Get (table_in g))) m
      (x.0.1 ∙ ap groups.Filter t) (ap physical.Filter (x.0.2 ∙ ap groups.Get t))
  native_is g (physical.IndexSeek i) m kids x of =
      same_node g (groups.Filter (table_in g)) (physical.IndexSeek i) (physical.IndexSeek i) m
      (x.0.1 ∙ ap groups.Filter (sym (ap table_in x.0.1))) refl
  native_is g (physical.HashJoin l r) m kids x of = join_over q tables physical.HashJoin g l r m kids x.0 of
  native_is g (physical.MergeJoin l r) m kids x of = join_over q tables physical.MergeJoin g l r m kids x.0 of
  native_is g (physical.LoopJoin l r) m kids x of = join_over q tables physical.LoopJoin g l r m kids x.0 of
  native_is g (physical.HashAgg c) m kids x of = kid_over physical.HashAgg g groups.Agg c m kids x.0.0 of
  native_is g (physical.StreamAgg c) m kids x of = kid_over physical.StreamAgg g groups.Agg c m kids x.0.0 of
  native_is g (physical.PartialAgg c) m kids x of = kid_over physical.PartialAgg g groups.Partial c m kids x.0.0 of
