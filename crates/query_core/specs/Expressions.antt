-- Group expressions: their words, those that a group can hold, and the one with which a group begins.
use Rattle.std.specs.Prelude.{ℕ, Bool, true, false, Option, None, ◌≡◌, ◌⊎◌, ◌<◌, ◌+◌, ◌*◌, ◌/◌, ◌%◌, ◌^◌, length, ⊤}
use Rattle.std.specs.Prelude.{◌≤◌, slice_get, Some, IsTrue, bit_or, bit_and}
use Rattle.query_core.specs.Connected.{IsConnected}
use Rattle.query_core.specs.Keys.{key_number, IsGroupInRange, IsGroup, top_of, input_of}
use Rattle.query_core.specs.declared.table.QueryTable.{QueryTable}
use Rattle.query_core.specs.declared.query.Query.{Query}
use Rattle.query_core.specs.declared.words.KeyParts.{KeyParts}
use Rattle.query_core.specs.declared.words.KeyParts.TheVariants as groups
use Rattle.query_core.specs.declared.expressions.Logical.{Logical}
use Rattle.query_core.specs.declared.expressions.Logical.TheVariants as logical
use Rattle.query_core.specs.declared.expressions.Physical.{Physical}
use Rattle.query_core.specs.declared.expressions.Physical.TheVariants as physical
use Rattle.query_core.specs.declared.expressions.Operator.{Operator}
use Rattle.query_core.specs.declared.expressions.Operator.TheVariants as operators
use Rattle.query_core.specs.declared.expressions.Children.{Children}
use Rattle.query_core.specs.declared.expressions.Children.TheVariants.{Zero, One, Two}
use Rattle.query_core.specs.declared.expressions.Fields.{Fields}
use Rattle.query_core.specs.declared.expressions.Access.{Access}
use Rattle.query_core.specs.declared.expressions.Access.TheVariants.{Direct, Index}
use Rattle.query_core.specs.declared.expressions.PhysicalExpr.{PhysicalExpr}
use Rattle.query_core.specs.declared.expressions.TheConstants.{FIRST_JOIN, AFTER_JOINS}
use Rattle.query_core.specs.declared.expressions.ExprParts.{ExprParts}

-- ---- words

-- the fields of these values
abbrev pub fields : ℕ → ℕ → Children → Fields
fields number index children = record { number = number; index = index; children = children }

-- the fields of each logical operator
abbrev pub logical_fields : Logical → Fields
logical_fields logical.Get = fields 1 0 Zero
logical_fields (logical.Select child) = fields 4 0 (One child)
logical_fields logical.NJoin = fields 7 0 Zero
logical_fields (logical.Join left right) = fields 8 0 (Two left right)
logical_fields (logical.Agg child) = fields 12 0 (One child)
logical_fields (logical.Partial child) = fields 15 0 (One child)

-- the fields of each physical operator
abbrev pub physical_fields : Physical → Fields
physical_fields physical.Scan = fields 2 0 Zero
physical_fields (physical.IndexScan index) = fields 3 index Zero
physical_fields (physical.Filter child) = fields 5 0 (One child)
physical_fields (physical.IndexSeek index) = fields 6 index Zero
physical_fields (physical.HashJoin left right) = fields 9 0 (Two left right)
physical_fields (physical.MergeJoin left right) = fields 10 0 (Two left right)
physical_fields (physical.LoopJoin left right) = fields 11 0 (Two left right)
physical_fields (physical.HashAgg child) = fields 13 0 (One child)
physical_fields (physical.StreamAgg child) = fields 14 0 (One child)
physical_fields (physical.PartialAgg child) = fields 16 0 (One child)

-- the fields of an operator
abbrev pub fields_of : Operator → Fields
fields_of (operators.Logical o) = logical_fields o
fields_of (operators.Physical o) = physical_fields o

-- the groups that an operator stands on
abbrev pub children_of : Operator → Children
children_of o = (fields_of o).children

-- the children are the first of these groups
abbrev pub AreFirstOf : Children → KeyParts → KeyParts → Type 0
AreFirstOf Zero left right = ⊤
AreFirstOf (One child) left right = child ≡ left
AreFirstOf (Two first second) left right = (first ≡ left) × (second ≡ right)

-- operators that stand on two groups have these numbers
abbrev pub IsJoinNumber : ℕ → Type 0
IsJoinNumber number = (FIRST_JOIN ≤ number) × (number < AFTER_JOINS)

-- the groups that a physical operator stands on
abbrev pub physical_children : Physical → Children
physical_children o = (physical_fields o).children

-- a physical expression as one of either kind
abbrev pub expr_of : PhysicalExpr → ExprParts
expr_of e = record { group = e.group; operator = operators.Physical e.operator }

-- the operator says what is wanted, and not how it is made
abbrev pub is_logical : Operator → Bool
is_logical (operators.Logical o) = true
is_logical (operators.Physical o) = false

-- the key of the first child plus 1, or 0 where there is none
abbrev pub left_number : Children → ℕ
left_number Zero = 0
left_number (One child) = key_number child + 1
left_number (Two left right) = key_number left + 1

-- the key of the second child plus 1, or 0 where there is none
abbrev pub right_number : Children → ℕ
right_number Zero = 0
right_number (One child) = 0
right_number (Two left right) = key_number right + 1

-- the word of a key and an operator's fields
abbrev pub packed : ℕ → Fields → ℕ
packed key f = key * 2 ^ 36 + f.number * 2 ^ 31 + f.index * 2 ^ 26 + left_number f.children * 2 ^ 13 + right_number
    f.children

-- the word of a group expression
abbrev pub word_of : ExprParts → ℕ
word_of e = packed (key_number e.group) (fields_of e.operator)

-- what a word has in the place of its group's key
abbrev pub key_field : ℕ → ℕ
key_field word = word / 2 ^ 36

-- how many numbers the operator's number, the index and the left child have place for
abbrev pub MIDDLES : ℕ
MIDDLES = 2 ^ 23

-- what a word has in the places of these three; it tells the candidates of a group apart
abbrev pub middle_field : ℕ → ℕ
middle_field word = word / 2 ^ 13 % MIDDLES

-- the children are groups that some query can have
abbrev pub AreInRange : Children → Type 0
AreInRange Zero = IsTrue true
AreInRange (One child) = IsGroupInRange child
AreInRange (Two left right) = IsGroupInRange left × IsGroupInRange right

-- the group is a child
abbrev pub IsChild : Children → KeyParts → Type 0
IsChild Zero group = ⊥
IsChild (One child) group = group ≡ child
IsChild (Two left right) group = (group ≡ left) ⊎ (group ≡ right)

-- each part fits its field
pub record IsPacked (e : ExprParts) : Type 0 where
  pub group : IsGroupInRange e.group
  pub index : (fields_of e.operator).index < 32
  pub children : AreInRange (children_of e.operator)

-- the expression's parts fit, and this is its word
pub record HasWord (word : ℕ) (e : ExprParts) : Type 0 where
  pub packed : IsPacked e
  pub number : word_of e ≡ word

-- the number is the word of an expression
abbrev pub IsWord : ℕ → Type 0
IsWord word = (e : ExprParts) × HasWord word e

-- the number of the first child's key
abbrev pub left_key : Children → Option ℕ
left_key Zero = None
left_key (One child) = Some (key_number child)
left_key (Two left right) = Some (key_number left)

-- the number of the second child's key
abbrev pub right_key : Children → Option ℕ
right_key Zero = None
right_key (One child) = None
right_key (Two left right) = Some (key_number right)

-- ---- candidates

-- the two sets are disjoint, connected, not empty, and together they are the set
pub record FallsInto (q : Query) (set a b : ℕ) : Type 0 where
  pub whole : bit_or a b ≡ set
  pub disjoint : bit_and a b ≡ 0
  pub left : IsConnected q.links a
  pub right : IsConnected q.links b
  pub some_left : 0 < a
  pub some_right : 0 < b

-- the table has an index of this number
abbrev pub HasIndex : Query → ℕ → ℕ → Type 0
HasIndex q t index = (table : QueryTable) × (slice_get q.tables t ≡ Some table) × (index < length table.indexes)

-- the join of the two sets that a set falls into
abbrev pub IsJoin : Query → KeyParts → KeyParts → KeyParts → Type 0
IsJoin q group left right = (set a b : ℕ) × (group ≡ groups.Join set) × FallsInto q set a b × (left ≡ top_of q a)
    × (right ≡ top_of q b)

-- the rows that meet a table's own predicates, from the table's rows
abbrev pub IsFiltered : KeyParts → KeyParts → Type 0
IsFiltered group child = (t : ℕ) × (group ≡ groups.Filter t) × (child ≡ groups.Get t)

-- the groups of GROUP BY, from all rows or from groups that are not complete
abbrev pub IsAggregated : Query → KeyParts → KeyParts → Type 0
IsAggregated q group child = (group ≡ groups.Agg) × ((child ≡ input_of q) ⊎ (child ≡ groups.Partial))

-- groups that are not complete, from all rows
abbrev pub IsPartial : Query → KeyParts → KeyParts → Type 0
IsPartial q group child = (group ≡ groups.Partial) × (child ≡ input_of q)

-- the group that a logical operator can have, with its children
abbrev pub HasLogical : Query → KeyParts → Logical → Type 0
HasLogical q group logical.Get = (t : ℕ) × (group ≡ groups.Get t)
HasLogical q group (logical.Select child) = IsFiltered group child
HasLogical q group logical.NJoin = (set : ℕ) × (group ≡ groups.Join set)
HasLogical q group (logical.Join left right) = IsJoin q group left right
HasLogical q group (logical.Agg child) = IsAggregated q group child
HasLogical q group (logical.Partial child) = IsPartial q group child

-- ---- what physical operators implement

-- the table whose rows a group has
abbrev pub table_in : KeyParts → ℕ
table_in (groups.Get t) = t
table_in (groups.Filter t) = t
table_in (groups.Join set) = 0
table_in groups.Partial = 0
table_in groups.Agg = 0

-- the rows of a table before its own predicates are applied
abbrev pub unfiltered : KeyParts → KeyParts
unfiltered (groups.Get t) = groups.Get t
unfiltered (groups.Filter t) = groups.Get t
unfiltered (groups.Join set) = groups.Join set
unfiltered groups.Partial = groups.Partial
unfiltered groups.Agg = groups.Agg

-- the logical operator of the group that a physical one implements
abbrev pub implements : KeyParts → Physical → Logical
implements group physical.Scan = logical.Get
implements group (physical.IndexScan index) = logical.Get
implements group (physical.Filter child) = logical.Select child
implements group (physical.IndexSeek index) = logical.Select (unfiltered group)
implements group (physical.HashJoin left right) = logical.Join left right
implements group (physical.MergeJoin left right) = logical.Join left right
implements group (physical.LoopJoin left right) = logical.Join left right
implements group (physical.HashAgg child) = logical.Agg child
implements group (physical.StreamAgg child) = logical.Agg child
implements group (physical.PartialAgg child) = logical.Partial child

-- how it comes to its rows: as the logical one says, or by an index of the table
abbrev pub access : Physical → Access
access physical.Scan = Direct
access (physical.IndexScan index) = Index index
access (physical.Filter child) = Direct
access (physical.IndexSeek index) = Index index
access (physical.HashJoin left right) = Direct
access (physical.MergeJoin left right) = Direct
access (physical.LoopJoin left right) = Direct
access (physical.HashAgg child) = Direct
access (physical.StreamAgg child) = Direct
access (physical.PartialAgg child) = Direct

-- what is read by an index has no children
abbrev pub children_by : Access → Children → Children
children_by Direct children = children
children_by (Index index) children = Zero

-- the number of the index that is read, else 0
abbrev pub index_by : Access → ℕ
index_by Direct = 0
index_by (Index index) = index

-- the group's table has the index that is read, if one is
abbrev pub HasAccess : Query → KeyParts → Access → Type 0
HasAccess q group Direct = ⊤
HasAccess q group (Index index) = HasIndex q (table_in group) index

-- a group can have a physical operator where it can have the logical one that this implements
abbrev pub HasPhysical : Query → KeyParts → Physical → Type 0
HasPhysical q group o = HasLogical q group (implements group o) × HasAccess q group (access o)

-- the group can have the operator over its children
abbrev pub HasShape : Query → KeyParts → Operator → Type 0
HasShape q group (operators.Logical o) = HasLogical q group o
HasShape q group (operators.Physical o) = HasPhysical q group o

-- the groups on which an operator of this group may stand
abbrev pub IsChildrenOf : Query → KeyParts → Children → Type 0
IsChildrenOf q (groups.Get t) c = c ≡ Zero
IsChildrenOf q (groups.Filter t) c = (c ≡ Zero) ⊎ (c ≡ One (groups.Get t))
IsChildrenOf q (groups.Join set) c =
    (c ≡ Zero) ⊎ ((a b : ℕ) × FallsInto q set a b × (c ≡ Two (top_of q a) (top_of q b)))
IsChildrenOf q groups.Partial c = c ≡ One (input_of q)
IsChildrenOf q groups.Agg c = (c ≡ One (input_of q)) ⊎ (c ≡ One groups.Partial)

-- an expression that a group of the query can hold
pub record IsCandidate (q : Query) (e : ExprParts) : Type 0 where
  pub known : IsGroup q e.group
  pub shape : HasShape q e.group e.operator

-- the word is that of an expression that this group can hold
abbrev pub IsCandidateOf : Query → KeyParts → ℕ → Type 0
IsCandidateOf q group word = (e : ExprParts) × IsCandidate q e × (e.group ≡ group) × (word_of e ≡ word)

-- the word is that of an expression that some group of the query can hold
abbrev pub IsCandidateWord : Query → ℕ → Type 0
IsCandidateWord q word = (e : ExprParts) × IsCandidate q e × (word_of e ≡ word)

-- ---- origins

-- the logical operator with which a group begins
abbrev pub origin_operator : Query → KeyParts → Logical
origin_operator q (groups.Get t) = logical.Get
origin_operator q (groups.Filter t) = logical.Select (groups.Get t)
origin_operator q (groups.Join set) = logical.NJoin
origin_operator q groups.Partial = logical.Partial (input_of q)
origin_operator q groups.Agg = logical.Agg (input_of q)

-- the expression with which a group begins
abbrev pub origin_of : Query → KeyParts → ExprParts
origin_of q group = record { group = group; operator = operators.Logical (origin_operator q group) }
