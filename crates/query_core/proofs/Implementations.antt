-- The words and the children of operators; those of physical ones by the logical ones that they implement.
use Rattle.std.proofs.Common.{◌≡◌, ℕ, ◌<◌, ◌≤◌, refl, ap, sym, subst, ◌∙◌, arith, ◌⊎◌, inl, inr}
use Rattle.query_core.specs.Keys.{top_of}
use Rattle.query_core.specs.Expressions.{logical_fields, physical_fields, fields_of, children_of, right_number}
use Rattle.query_core.specs.Expressions.{implements, access, children_by, index_by, HasLogical, HasShape, IsJoin}
use Rattle.query_core.specs.Expressions.{IsChildrenOf, IsJoinNumber, HasAccess}
use Rattle.query_core.specs.declared.query.Query.{Query}
use Rattle.query_core.specs.declared.words.KeyParts.{KeyParts}
use Rattle.query_core.specs.declared.words.KeyParts.TheVariants as groups
use Rattle.query_core.specs.declared.expressions.Access.{Access}
use Rattle.query_core.specs.declared.expressions.Access.TheVariants.{Direct, Index}
use Rattle.query_core.specs.declared.expressions.Children.TheVariants.{Zero, One, Two}
use Rattle.query_core.specs.declared.expressions.Logical.{Logical}
use Rattle.query_core.specs.declared.expressions.Logical.TheVariants as logical
use Rattle.query_core.specs.declared.expressions.Physical.{Physical}
use Rattle.query_core.specs.declared.expressions.Operator.{Operator}
use Rattle.query_core.specs.declared.expressions.Operator.TheVariants as operators
use Rattle.query_core.specs.declared.expressions.TheConstants.{FIRST_JOIN, AFTER_JOINS}

-- ---- what a physical operator takes of the logical one that it implements

-- its children are those of what it implements, or none where it reads an index
pub children_taken : (group : KeyParts) (o : Physical) → (physical_fields o).children ≡ children_by (access o)
    (logical_fields (implements group o)).children
children_taken group o = grind arith

-- its index is the one that it reads
pub index_taken : (o : Physical) → (physical_fields o).index ≡ index_by (access o)
index_taken o = grind arith

-- what reads an index implements a look into a table
table_read : (group : KeyParts) (o : Physical) (i : ℕ) → access o ≡ Index i
    → (logical_fields (implements group o)).number ≤ 4
table_read group o i is = grind arith

-- none implements the join of all tables of a set
many_unmade : (group : KeyParts) (o : Physical) → (logical_fields (implements group o)).number ≡ 7 → ⊥
many_unmade group o is = grind arith

-- ---- numbers

-- the greatest number of a logical operator of the groups that have this one
unfoldable pub last_of : Logical → ℕ
last_of logical.Get = 1
last_of (logical.Select child) = 4
last_of logical.NJoin = 8
last_of (logical.Join left right) = 8
last_of (logical.Agg child) = 12
last_of (logical.Partial child) = 15

-- its own number is up to that
pub comes_upto : (l : Logical) → (logical_fields l).number ≤ last_of l
unfolding last_of
comes_upto l = grind arith

-- a physical one comes behind the logical operators of its group
pub comes_after : (group : KeyParts) (o : Physical) → last_of (implements group o) < (physical_fields o).number
unfolding last_of
comes_after group o = grind arith

-- what has no right child has no number of a join, and what has one does
pub number_out : (o : Operator) → right_number (children_of o) ≡ 0
    → ((fields_of o).number < FIRST_JOIN) ⊎ (AFTER_JOINS ≤ (fields_of o).number)
number_out o none = grind arith

pub number_in : (o : Operator) (left right : KeyParts) → children_of o ≡ Two left right
    → IsJoinNumber (fields_of o).number
number_in o left right is = grind arith

-- ---- the children of a group's operators

-- only a join stands on two groups
two_joins : (l : Logical) (a : Access) (left right : KeyParts)
    → children_by a (logical_fields l).children ≡ Two left right → l ≡ logical.Join left right
two_joins l a left right is = grind arith

pub two_shape : (q : Query) (group : KeyParts) (o : Operator) (left right : KeyParts) → children_of o ≡ Two left right
    → HasShape q group o → IsJoin q group left right
two_shape q group (operators.Logical l) left right is shape =
    subst (HasLogical q group) (two_joins l Direct left right is) shape
two_shape q group (operators.Physical o) left right is shape =
    subst (HasLogical q group) (two_joins (implements group o) (access o) left right
    (sym (children_taken group o) ∙ is)) shape.0

-- a group can have what stands on two groups where it joins them
two_direct : (q : Query) (group : KeyParts) (l : Logical) (a : Access) (left right : KeyParts)
    → children_by a (logical_fields l).children ≡ Two left right → HasAccess q group a
two_direct q group l Direct left right is = tt
two_direct q group l (Index i) left right is = cc

pub two_held : (q : Query) (group : KeyParts) (o : Operator) (left right : KeyParts) → children_of o ≡ Two left right
    → IsJoin q group left right → HasShape q group o
two_held q group (operators.Logical l) left right is join =
    subst (HasLogical q group) (sym (two_joins l Direct left right is)) join
two_held q group (operators.Physical o) left right is join =
    let taken = sym (children_taken group o) ∙ is in (
      subst (HasLogical q group) (sym (two_joins (implements group o) (access o) left right taken)) join,
      two_direct q group (implements group o) (access o) left right taken,
    )

-- and it reads no index
pub two_index : (o : Operator) (left right : KeyParts) → children_of o ≡ Two left right → (fields_of o).index ≡ 0
two_index o left right is = grind arith

-- a logical operator that a group can have stands on groups on which the group's operators may stand
logical_children : (q : Query) (group : KeyParts) (l : Logical) → HasLogical q group l
    → IsChildrenOf q group (logical_fields l).children
logical_children q group logical.Get (t, is) = subst (λ (g : KeyParts). IsChildrenOf q g Zero) (sym is) refl
logical_children q group (logical.Select child) (t, is, under) =
    subst (λ (g : KeyParts). IsChildrenOf q g (One child)) (sym is) (inr (ap One under))
logical_children q group logical.NJoin (set, is) = subst (λ (g : KeyParts). IsChildrenOf q g Zero) (sym is) (inl refl)
logical_children q group (logical.Join left right) (set, a, b, is, falls, first, second) =
    subst (λ (g : KeyParts). IsChildrenOf q g (Two left right)) (sym is)
    (inr (a, b, falls, ap (λ (x : KeyParts). Two x right) first ∙ ap (Two (top_of q a)) second))
logical_children q group (logical.Agg child) (is, inl all) =
    subst (λ (g : KeyParts). IsChildrenOf q g (One child)) (sym is) (inl (ap One all))
logical_children q group (logical.Agg child) (is, inr partial) =
    subst (λ (g : KeyParts). IsChildrenOf q g (One child)) (sym is) (inr (ap One partial))
logical_children q group (logical.Partial child) (is, all) =
    subst (λ (g : KeyParts). IsChildrenOf q g (One child)) (sym is) (ap One all)

-- where a group's rows are looked up in a table, an operator needs no children
childless : (q : Query) (group : KeyParts) (l : Logical) → (logical_fields l).number ≤ 4 → HasLogical q group l
    → IsChildrenOf q group Zero
childless q group logical.Get few (t, is) = subst (λ (g : KeyParts). IsChildrenOf q g Zero) (sym is) refl
childless q group (logical.Select child) few (t, is, under) =
    subst (λ (g : KeyParts). IsChildrenOf q g Zero) (sym is) (inl refl)
childless q group logical.NJoin few shape = absurd (omega (arith, few))
childless q group (logical.Join left right) few shape = absurd (omega (arith, few))
childless q group (logical.Agg child) few shape = absurd (omega (arith, few))
childless q group (logical.Partial child) few shape = absurd (omega (arith, few))

taken_children : (q : Query) (group : KeyParts) (l : Logical) (a : Access)
    → ((i : ℕ) → a ≡ Index i → (logical_fields l).number ≤ 4) → HasLogical q group l
    → IsChildrenOf q group (children_by a (logical_fields l).children)
taken_children q group l Direct looks shape = logical_children q group l shape
taken_children q group l (Index i) looks shape = childless q group l (looks i refl) shape

-- so does each operator that the group can have
pub shape_children : (q : Query) (group : KeyParts) (o : Operator) → HasShape q group o
    → IsChildrenOf q group (children_of o)
shape_children q group (operators.Logical l) shape = logical_children q group l shape
shape_children q group (operators.Physical o) shape =
    subst (IsChildrenOf q group) (sym (children_taken group o))
    (taken_children q group (implements group o) (access o) (table_read group o) shape.0)

-- ---- the operators of a set of tables

-- the logical ones are the join of all tables and those of two sides
set_logical : (q : Query) (set : ℕ) (l : Logical) → HasLogical q (groups.Join set) l
    → ((logical_fields l).number ≡ 7) ⊎ ((left right : KeyParts) × (l ≡ logical.Join left right))
set_logical q set logical.Get (t, is) = let never : groups.Join set ≡ groups.Get t = is in cc
set_logical q set (logical.Select child) (t, is, under) = let never : groups.Join set ≡ groups.Filter t = is in cc
set_logical q set logical.NJoin shape = inl refl
set_logical q set (logical.Join left right) shape = inr (left, right, refl)
set_logical q set (logical.Agg child) (is, over) = let never : groups.Join set ≡ groups.Agg = is in cc
set_logical q set (logical.Partial child) (is, over) = let never : groups.Join set ≡ groups.Partial = is in cc

-- 7 is the number of the join of all tables alone
many_one : (l : Logical) → (logical_fields l).number ≡ 7 → l ≡ logical.NJoin
many_one l is = grind arith

-- what takes the children of a join of two sides has some
sides_taken : (l : Logical) (a : Access) (left right : KeyParts)
    → ((i : ℕ) → a ≡ Index i → (logical_fields l).number ≤ 4) → l ≡ logical.Join left right
    → children_by a (logical_fields l).children ≡ Zero → ⊥
sides_taken l Direct left right looks is none =
    let never : Two left right ≡ Zero = sym (ap (λ (x : Logical). (logical_fields x).children) is) ∙ none in
    cc
sides_taken l (Index i) left right looks is none =
    omega (arith, looks i refl, ap (λ (x : Logical). (logical_fields x).number) is)

-- what stands on no group there is the join of all tables
pub set_alone : (q : Query) (set : ℕ) (o : Operator) → HasShape q (groups.Join set) o → children_of o ≡ Zero
    → o ≡ operators.Logical logical.NJoin
set_alone q set (operators.Logical l) shape none = elim (set_logical q set l shape) [
  | inl many ↦ ap operators.Logical (many_one l many)
  | inr (left, right, is) ↦ absurd (sides_taken l Direct left right
      (λ i never. let no : Direct ≡ Index i = never in cc) is none)
]
set_alone q set (operators.Physical o) shape none =
    let l : Logical = implements (groups.Join set) o in
    elim (set_logical q set l shape.0) [
      | inl many ↦ absurd (many_unmade (groups.Join set) o many)
      | inr (left, right, is) ↦
          absurd (sides_taken l (access o) left right (table_read (groups.Join set) o) is
          (sym (children_taken (groups.Join set) o) ∙ none))
    ]
