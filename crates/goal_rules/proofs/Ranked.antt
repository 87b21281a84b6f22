-- The rank by a goal's word is the goal's rank.
use Rattle.std.proofs.Common.{◌≡◌, ℕ, ◌+◌, ◌-◌, Option, None, Some, length, refl, ap, sym, ◌∙◌, arith}
use Rattle.std.proofs.lemmas.Bool.{lt-ltb, le-ltb, ne_eqb}
use Rattle.query_core.specs.Keys as keys
use Rattle.query_core.specs.Keys.{key_number}
use Rattle.query_core.specs.Expressions.{expr_of, word_of, IsPacked}
use Rattle.query_core.specs.Goals.{goal_fields, goal_number, FitsGoal}
use Rattle.query_core.specs.declared.words.GoalParts.{GoalParts}
use Rattle.query_core.specs.declared.words.KeyParts.{KeyParts}
use Rattle.query_core.specs.declared.words.KeyParts.TheVariants as groups
use Rattle.query_core.specs.declared.expressions.ExprParts.{ExprParts}
use Rattle.query_core.proofs.ExpressionLemmas.{key_read}
use Rattle.request_props.specs.Requests as requests
use Rattle.request_props.specs.Requests.{dist_code, code_of, dist_field, order_field}
use Rattle.request_props.specs.declared.request.Dist.{Dist}
use Rattle.request_props.specs.declared.request.Dist.TheVariants.{Spread}
use Rattle.request_props.specs.declared.request.Request.{Request}
use Rattle.request_props.proofs.DistCodes.{code_one}
use Rattle.plan_space.specs.declared.nodes.Motion.{Motion}
use Rattle.plan_space.specs.Enforcers.{motion_to, motions_in}
use Rattle.plan_space.proofs.MotionLaws.{none_moves}
use Rattle.xform_rules.specs.Counts.{table_count}
use Rattle.goal_space.specs.Words.{parts_of, goal_word, IsGoalInRange}
use Rattle.goal_space.specs.Ranks.{level_of, dist_rank, order_rank, request_rank, rank_of}
use Rattle.goal_space.specs.declared.goals.GoalKind.{GoalKind}
use Rattle.goal_space.specs.declared.goals.GoalKind.TheVariants.{Exp, ExpE, Xf, Imp, ImpE, Opt, OptE}
use Rattle.goal_rules.specs.WordRanks.{level_by, expr_level_by, dist_rank_by, rank_of_parts, rank_of_word}

-- ---- groups

-- the level by a key is that of its group
level_ranked : (g : KeyParts) → keys.IsGroupInRange g → level_by (key_number g) ≡ level_of g
level_ranked (groups.Get t) known = rw (lt-ltb t (key_number (groups.Filter 0)) (omega (arith, known)))
level_ranked (groups.Filter t) known =
    let key = key_number (groups.Filter t) in
    rw (
      le-ltb key (key_number (groups.Filter 0)) (omega arith),
      lt-ltb key (key_number (groups.Join 0)) (omega (arith, known)),
    )
level_ranked (groups.Join set) known =
    let key = key_number (groups.Join set) in
    let same : key - key_number (groups.Join 0) ≡ set = omega arith in
    rw (
      le-ltb key (key_number (groups.Filter 0)) (omega arith),
      le-ltb key (key_number (groups.Join 0)) (omega arith),
      lt-ltb key (key_number groups.Partial) (omega (arith, known)),
    )
    (ap (λ (s : ℕ). 1 + table_count s) same)
level_ranked groups.Partial known = refl
level_ranked groups.Agg known = refl

-- and so for an expression
expr_ranked : (e : ExprParts) → IsPacked e → expr_level_by (word_of e) ≡ level_of e.group
expr_ranked e packed = ap level_by (key_read e (word_of e) (record { packed = packed; number = refl }))
    ∙ level_ranked e.group packed.group

-- ---- requests

-- where there is no motion to a distribution, its code is that of spread rows
dist_by : (dist : Dist) (found : Option Motion) → motion_to dist ≡ found
    → dist_rank_by (dist_code dist) ≡ length (motions_in found)
dist_by dist None none = ap (λ (d : Dist). dist_rank_by (dist_code d)) (none_moves dist none)
dist_by dist (Some motion) moves =
    rw (ne_eqb (dist_code dist) (dist_code Spread) (λ same. spread_moves motion (code_one dist Spread same) moves)) refl
  where
    spread_moves : (motion : Motion) → dist ≡ Spread → motion_to dist ≡ Some motion → ⊥
    spread_moves motion is moves = let never : None ≡ Some motion = sym (ap motion_to is) ∙ moves in cc

-- the rank by a distribution's code is that of the distribution
dist_ranked : (dist : Dist) → dist_rank_by (dist_code dist) ≡ dist_rank dist
dist_ranked dist = dist_by dist (motion_to dist) refl

-- the rank by a request's code is that of the request
request_ranked : (wanted : Request) → requests.IsRequestInRange wanted
    → dist_rank_by (dist_field (code_of wanted)) + order_rank (order_field (code_of wanted)) ≡ request_rank wanted
request_ranked wanted in_range =
    let few = in_range.numbered in
    let dist_is : dist_field (code_of wanted) ≡ dist_code wanted.dist = omega arith in
    let order_is : order_field (code_of wanted) ≡ wanted.order = omega arith in
    let by_dist : dist_rank_by (dist_field (code_of wanted)) ≡ dist_rank wanted.dist = ap dist_rank_by dist_is
    ∙ dist_ranked wanted.dist in
    let by_order : order_rank (order_field (code_of wanted)) ≡ order_rank wanted.order = ap order_rank order_is in
    omega (arith, by_dist, by_order)

-- ---- goals

-- where a goal has the fields of its word
module _ (fields : (p : GoalParts) → FitsGoal p → goal_fields (goal_number p) ≡ p)
    (fits : (k : GoalKind) → IsGoalInRange k
    → FitsGoal (parts_of k)) where
  by_parts : (k : GoalKind) → IsGoalInRange k → rank_of_word (goal_word k) ≡ rank_of_parts (parts_of k)
  by_parts k known = ap rank_of_parts (fields (parts_of k) (fits k known))

  pub word_ranked : (k : GoalKind) → IsGoalInRange k → rank_of_word (goal_word k) ≡ rank_of k
  word_ranked (Exp group) known = by_parts (Exp group) known ∙ omega (arith, level_ranked group known)
  word_ranked (ExpE e) known = by_parts (ExpE e) known ∙ omega (arith, expr_ranked e known)
  word_ranked (Xf e rule) known = by_parts (Xf e rule) known ∙ omega (arith, expr_ranked e known)
  word_ranked (Imp group) known = by_parts (Imp group) known ∙ omega (arith, level_ranked group known)
  word_ranked (ImpE e) known = by_parts (ImpE e) known ∙ omega (arith, expr_ranked e known)
  word_ranked (Opt group wanted) known =
      by_parts (Opt group wanted) known ∙ omega (arith, level_ranked group known.0, request_ranked wanted known.1)
  word_ranked (OptE e wanted) known = by_parts (OptE e wanted) known ∙ omega (arith, expr_ranked (expr_of e) known.0)
