-- What the number of a node tells: how many kids it has, and, where there are few orders and lists, which
-- node it is.
use Rattle.std.proofs.Common.{◌≡◌, ℕ, ◌^◌, ◌<◌, ◌≤◌, List, [], ◌∷◌, length, Option, None, Some, refl, sym, ap, ◌∙◌}
use Rattle.std.proofs.Common.{arith}
use Rattle.std.specs.Bool.{⊤}
use Rattle.query_core.specs.Expressions.{expr_of, physical_children, word_of, IsPacked}
use Rattle.query_core.specs.declared.query.Query.{Query}
use Rattle.query_core.specs.declared.words.KeyParts.{KeyParts}
use Rattle.query_core.specs.declared.expressions.Physical.{Physical}
use Rattle.query_core.specs.declared.expressions.Children.{Children}
use Rattle.query_core.specs.declared.expressions.Children.TheVariants as arities
use Rattle.query_core.specs.declared.expressions.ExprParts.{ExprParts}
use Rattle.query_core.specs.declared.expressions.PhysicalExpr.{PhysicalExpr}
use Rattle.query_core.proofs.ExpressionLemmas.{expr_of_one}
use Rattle.request_props.specs.Numbered.{lists_of, orders_of}
use Rattle.request_props.specs.declared.request.Request.{Request}
use Rattle.plan_space.specs.Nodes.{enforcer_number, node_modes, node_number}
use Rattle.plan_space.specs.declared.nodes.NodeKind.{NodeKind}
use Rattle.plan_space.specs.declared.nodes.NodeKind.TheVariants as nodes
use Rattle.plan_space.specs.declared.nodes.Enforcer.{Enforcer}
use Rattle.plan_space.specs.declared.nodes.Enforcer.TheVariants as enforcers
use Rattle.plan_space.specs.Lines.{line_of}
use Rattle.plan_space.specs.declared.lines.LeftDist.{LeftDist}
use Rattle.plan_space.specs.declared.lines.LeftOrder.{LeftOrder}
use Rattle.plan_space.specs.declared.lines.Line.{Line}
use Rattle.plan_space.specs.declared.lines.Line.TheVariants as lines
use Rattle.plan_space.specs.declared.seen.Kid.{Kid}
use Rattle.plan_space.specs.Valid.{OverOne, OverTwo, OneFits, TwoFit, FitsBy, EnforcerFits, NodeFits}
use Rattle.plan_space.proofs.FewModes.{byte_modes}

-- an enforcer's order or list has no greater number than this
abbrev pub IsEnforcerInRange : ℕ → Enforcer → Type 0
IsEnforcerInRange most enforcers.Gather = ⊤
IsEnforcerInRange most enforcers.Broadcast = ⊤
IsEnforcerInRange most (enforcers.Sort order) = order ≤ most
IsEnforcerInRange most (enforcers.GatherMerge order) = order ≤ most
IsEnforcerInRange most (enforcers.Redistribute list) = list ≤ most

-- an expression has a word, a node's number can name the mode, and orders and lists have no greater number than this
abbrev pub IsNodeWithin : ℕ → NodeKind → Type 0
IsNodeWithin most (nodes.Native e mode) = IsPacked (expr_of e) × (mode < node_modes)
IsNodeWithin most (nodes.Enforcer e) = IsEnforcerInRange most e

only_kid : (Fact : Kid → Type 0) (kids : List Kid) → OverOne Fact kids → (kid : Kid) × Fact kid
only_kid Fact [] fits = absurd fits
only_kid Fact (kid ∷ []) fits = (kid, fits)
only_kid Fact (kid ∷ other ∷ others) fits = absurd fits

module _ (Member : ExprParts → Type 0) (packed : (e : ExprParts) → Member e → IsPacked e) (q : Query) (most : ℕ)
    (few_orders : length (orders_of q) ≤ most) (few_lists : length (lists_of q) ≤ most) where
  mode_fits : (e : PhysicalExpr) (mode : ℕ) (kids : List Kid) (found : Option Line) → line_of q e mode ≡ found
      → FitsBy q found (physical_children e.operator) kids → mode < node_modes
  mode_fits e mode kids None is fits = absurd fits
  mode_fits e mode kids (Some line) is fits = omega (arith, byte_modes q e mode line is)

  enforcer_in_range : (e : Enforcer) (kid : Kid) → EnforcerFits q e kid → IsEnforcerInRange most e
  enforcer_in_range enforcers.Gather kid fits = tt
  enforcer_in_range enforcers.Broadcast kid fits = tt
  enforcer_in_range (enforcers.Sort order) kid fits = omega (arith, fits.numbered, few_orders)
  enforcer_in_range (enforcers.GatherMerge order) kid fits = omega (arith, fits.can_sort.numbered, few_orders)
  enforcer_in_range (enforcers.Redistribute list) kid fits = omega (arith, fits.hash_fits.numbered, few_lists)

  -- the nodes of valid plans are in range
  pub fits_in_range : (node : NodeKind) (kids : List Kid) → NodeFits Member q node kids → IsNodeWithin most node
  fits_in_range (nodes.Native e mode) kids fits =
      (packed (expr_of e) fits.0, mode_fits e mode kids (line_of q e mode) refl fits.1)
  fits_in_range (nodes.Enforcer e) kids fits = let (kid, fact) = only_kid (EnforcerFits q e) kids fits in
      enforcer_in_range e kid fact

-- how many children there are
abbrev arity_in : Children → ℕ
arity_in arities.Zero = 0
arity_in (arities.One child) = 1
arity_in (arities.Two left right) = 2

-- how many kids a node has
abbrev pub arity_of : NodeKind → ℕ
arity_of (nodes.Native e mode) = arity_in (physical_children e.operator)
arity_of (nodes.Enforcer e) = 1

one_kid : (Fact : Kid → Type 0) (kids : List Kid) → OverOne Fact kids → length kids ≡ 1
one_kid Fact [] fits = absurd fits
one_kid Fact (kid ∷ []) fits = refl
one_kid Fact (kid ∷ other ∷ others) fits = absurd fits

module _ (q : Query) (children : Children) where
  above_arity : (dist : LeftDist) (order : LeftOrder) (kids : List Kid) → OverOne (OneFits q children dist order) kids
      → length kids ≡ arity_in children
  above_arity dist order [] fits = absurd fits
  above_arity dist order (kid ∷ []) fits = sym (ap arity_in fits.of_child)
  above_arity dist order (kid ∷ other ∷ others) fits = absurd fits

  beside_arity : (dist : LeftDist) (order : LeftOrder) (wanted : Request) (kids : List Kid)
      → OverTwo (TwoFit q children dist order wanted) kids → length kids ≡ arity_in children
  beside_arity dist order wanted [] fits = absurd fits
  beside_arity dist order wanted (kid ∷ []) fits = absurd fits
  beside_arity dist order wanted (left ∷ right ∷ []) fits = sym (ap arity_in fits.of_children)
  beside_arity dist order wanted (left ∷ right ∷ other ∷ others) fits = absurd fits

  line_arity : (found : Option Line) (kids : List Kid) → FitsBy q found children kids → length kids ≡ arity_in children
  line_arity None kids fits = absurd fits
  line_arity (Some (lines.Leaf dist order)) kids fits = ap length fits.1 ∙ sym (ap arity_in fits.0)
  line_arity (Some (lines.Above dist order)) kids fits = above_arity dist order kids fits
  line_arity (Some (lines.Beside dist order wanted)) kids fits = beside_arity dist order wanted kids fits

-- a node of a valid plan has as many kids as its arity says
pub fits_arity : (Member : ExprParts → Type 0) (q : Query) (node : NodeKind) (kids : List Kid)
    → NodeFits Member q node kids → length kids ≡ arity_of node
fits_arity Member q (nodes.Native e mode) kids fits =
    line_arity q (physical_children e.operator) (line_of q e mode) kids fits.1
fits_arity Member q (nodes.Enforcer e) kids fits = one_kid (EnforcerFits q e) kids fits

abbrev native_expr : KeyParts → Physical → PhysicalExpr
native_expr group operator = record { group = group; operator = operator }

-- an enforcer has a lesser number than an expression
enforcer_small : (most : ℕ) → most < 2 ^ 32 → (e : Enforcer) → IsEnforcerInRange most e → enforcer_number e < 2 ^ 56
enforcer_small most few enforcers.Gather in_range = omega arith
enforcer_small most few enforcers.Broadcast in_range = omega arith
enforcer_small most few (enforcers.Sort order) in_range = omega arith
enforcer_small most few (enforcers.GatherMerge order) in_range = omega arith
enforcer_small most few (enforcers.Redistribute list) in_range = omega arith

-- where orders and lists have numbers up to 60, enforcers with one number are one
enforcer_one : (a b : Enforcer) → IsEnforcerInRange 60 a → IsEnforcerInRange 60 b
    → enforcer_number a ≡ enforcer_number b → a ≡ b
enforcer_one enforcers.Gather enforcers.Gather x y same = refl
enforcer_one enforcers.Broadcast enforcers.Broadcast x y same = refl
enforcer_one (enforcers.Sort p) (enforcers.Sort o) x y same = ap enforcers.Sort (omega (arith, same))
enforcer_one (enforcers.GatherMerge p) (enforcers.GatherMerge o) x y same =
    ap enforcers.GatherMerge (omega (arith, same))
enforcer_one (enforcers.Redistribute k) (enforcers.Redistribute l) x y same =
    ap enforcers.Redistribute (omega (arith, same))
enforcer_one a b x y same = absurd (omega (arith, x, y, same))

module _ (expressions : (e f : ExprParts) → IsPacked e → IsPacked f → word_of e ≡ word_of f → e ≡ f) (most : ℕ)
    (few : most < 2 ^ 32) where
  native_same : (e f : PhysicalExpr) (mode other : ℕ) → IsNodeWithin most (nodes.Native e mode)
      → IsNodeWithin most (nodes.Native f other)
      → node_number (nodes.Native e mode) ≡ node_number (nodes.Native f other)
      → nodes.Native e mode ≡ nodes.Native f other
  native_same e f mode other x y same =
      let below = x.1 in
      let below' = y.1 in
      let word : word_of (expr_of e) ≡ word_of (expr_of f) = omega arith in
      let mode_is : mode ≡ other = omega arith in
      let e_is = expr_of_one e f (expressions (expr_of e) (expr_of f) x.0 y.0 word) in
      cc

  -- no number is that of an expression and of an enforcer
  apart : (e : PhysicalExpr) (mode : ℕ) (b : Enforcer) → IsEnforcerInRange most b
      → node_number (nodes.Native e mode) ≡ enforcer_number b → ⊥
  apart e mode b in_range same = omega (arith, enforcer_small most few b in_range, same)

  -- nodes with one number have as many kids
  pub number_arity : (a b : NodeKind) → IsNodeWithin most a → IsNodeWithin most b → node_number a ≡ node_number b
      → arity_of a ≡ arity_of b
  number_arity (nodes.Native e mode) (nodes.Native f other) x y same = ap arity_of (native_same e f mode other x y same)
  number_arity (nodes.Native e mode) (nodes.Enforcer b) x y same = absurd (apart e mode b y same)
  number_arity (nodes.Enforcer a) (nodes.Native f other) x y same = absurd (apart f other a x (sym same))
  number_arity (nodes.Enforcer a) (nodes.Enforcer b) x y same = refl

-- where orders and lists have numbers up to 60, nodes with one number are one
pub number_names_one : ((e f : ExprParts) → IsPacked e → IsPacked f → word_of e ≡ word_of f → e ≡ f) → (a b : NodeKind)
    → IsNodeWithin 60 a → IsNodeWithin 60 b
    → node_number a ≡ node_number b → a ≡ b
number_names_one expressions (nodes.Native e mode) (nodes.Native f other) x y same =
    native_same expressions 60 (omega arith) e f mode other x y same
number_names_one expressions (nodes.Native e mode) (nodes.Enforcer b) x y same =
    absurd (apart expressions 60 (omega arith) e mode b y same)
number_names_one expressions (nodes.Enforcer a) (nodes.Native f other) x y same =
    absurd (apart expressions 60 (omega arith) f other a x (sym same))
number_names_one expressions (nodes.Enforcer a) (nodes.Enforcer b) x y same =
    ap nodes.Enforcer (enforcer_one a b x y same)
