-- Nodes of one group and one operator are one: of a table, of the kids' tables, or over one kid.
use Rattle.std.proofs.Common.{◌≡◌, ℕ, ◌+◌, ◌-◌, List, [], ◌∷◌, sym, ap, ◌∙◌, arith, inl, inr}
use Rattle.std.specs.Prelude.{bit_or}
use Rattle.std.proofs.lemmas.Bool.{cases_lt}
use Rattle.query_core.specs.Keys.{tables_of, top_of}
use Rattle.query_core.specs.Expressions.{IsJoin}
use Rattle.query_core.specs.declared.query.Query.{Query}
use Rattle.query_core.specs.declared.words.KeyParts.{KeyParts}
use Rattle.query_core.specs.declared.words.KeyParts.TheVariants as groups
use Rattle.query_core.specs.declared.expressions.Physical.{Physical}
use Rattle.query_core.specs.declared.expressions.PhysicalExpr.{PhysicalExpr}
use Rattle.plan_space.specs.Gives.{first_group}
use Rattle.plan_space.specs.Laws.{AreOf}
use Rattle.plan_space.specs.Modes.{mode_at}
use Rattle.plan_space.specs.declared.nodes.NodeKind.{NodeKind}
use Rattle.plan_space.specs.declared.nodes.NodeKind.TheVariants as nodes
use Rattle.plan_space.specs.declared.seen.Kid.{Kid}
use Rattle.plan_space.proofs.ModeNumbers.{plain_at, copied_at, hashed_at}
use Rattle.plan_reading.specs.NodeOver.{number_in, joined_group, second_group, native}

pub number_back : (m : ℕ) → number_in (mode_at m) ≡ m
number_back m = elim (cases_lt m 64) [
  | inl near ↦ ap number_in (plain_at m near)
  | inr far ↦ elim (cases_lt m 128) [
    | inl less ↦ ap number_in (copied_at m far less) ∙ (let e : 64 + (m - 64) ≡ m = omega arith in e)
    | inr more ↦ ap number_in (hashed_at m more) ∙ (let e : 128 + (m - 128) ≡ m = omega arith in e)
  ]
]

-- an expression of these parts
abbrev pub expr : KeyParts → Physical → PhysicalExpr
expr group operator = record { group = group; operator = operator }

-- an operator of a group in the mode of a number
abbrev pub numbered : KeyParts → Physical → ℕ → NodeKind
numbered group operator mode = nodes.Native (expr group operator) mode

pub same_node : (g h : KeyParts) (o p : Physical) (m : ℕ) → g ≡ h → o ≡ p → numbered g o m ≡ native h p (mode_at m)
same_node g h o p m group operator =
    ap (λ x. numbered x o m) group ∙ ap (λ x. numbered h x m) operator ∙ ap (numbered h p) (sym (number_back m))

first_of : (a : KeyParts) (others : List KeyParts) (kids : List Kid) → AreOf (a ∷ others) kids → a ≡ first_group kids
first_of a others [] of = absurd of
first_of a others (kid ∷ kids) of = sym of.0

second_of : (a b : KeyParts) (kids : List Kid) → AreOf (a ∷ b ∷ []) kids → b ≡ second_group kids
second_of a b [] of = absurd of
second_of a b (kid ∷ kids) of = first_of b [] kids of.1

-- what stands over its one kid
pub kid_over : (agg : KeyParts → Physical) (g h c : KeyParts) (m : ℕ) (kids : List Kid) → g ≡ h → AreOf (c ∷ []) kids
    → numbered g (agg c) m ≡ native h (agg (first_group kids)) (mode_at m)
kid_over agg g h c m kids is of = same_node g h (agg c) (agg (first_group kids)) m is (ap agg (first_of c [] kids of))

module _ (q : Query) (tables : (set : ℕ) → tables_of (top_of q set) ≡ set) where
  -- the group of a join is that of the tables of its children
  join_group : (group left right : KeyParts) → IsJoin q group left right
      → group ≡ groups.Join (bit_or (tables_of left) (tables_of right))
  join_group group left right is =
      let a = is.1 in
      let b = is.2 in
      let is_a : tables_of left ≡ a = ap tables_of is.5 ∙ tables a in
      let is_b : tables_of right ≡ b = ap tables_of is.6 ∙ tables b in
      is.3 ∙ ap groups.Join (sym is.4.whole) ∙ ap (λ x. groups.Join (bit_or x b)) (sym is_a)
      ∙ ap (λ x. groups.Join (bit_or (tables_of left) x)) (sym is_b)

  group_of_kids : (g l r : KeyParts) (kids : List Kid) → IsJoin q g l r → AreOf (l ∷ r ∷ []) kids → g ≡ joined_group kids
  group_of_kids g l r kids is of =
      join_group g l r is ∙ ap (λ x. groups.Join (bit_or (tables_of x) (tables_of r))) (first_of l (r ∷ []) kids of)
      ∙ ap (λ x. groups.Join (bit_or (tables_of (first_group kids)) (tables_of x))) (second_of l r kids of)

  -- what joins its two kids
  pub join_over : (join : KeyParts → KeyParts → Physical) (g l r : KeyParts) (m : ℕ) (kids : List Kid) → IsJoin q g l r
      → AreOf (l ∷ r ∷ []) kids
      → numbered g (join l r) m ≡ native (joined_group kids) (join (first_group kids) (second_group kids)) (mode_at m)
  join_over join g l r m kids is of =
      same_node g (joined_group kids) (join l r) (join (first_group kids) (second_group kids)) m
      (group_of_kids g l r kids is of)
      (ap (λ k. join k r) (first_of l (r ∷ []) kids of) ∙ ap (join (first_group kids)) (second_of l r kids of))
