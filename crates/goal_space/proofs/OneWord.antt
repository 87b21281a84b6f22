-- Goals by their words, where expressions and groups are told apart by theirs.
use Rattle.std.proofs.Common.{◌≡◌, ◌<◌, ap, arith}
use Rattle.query_core.specs.Keys as keys
use Rattle.query_core.specs.Keys.{key_number}
use Rattle.query_core.specs.Expressions.{word_of, expr_of, IsPacked}
use Rattle.query_core.specs.Goals.{goal_number, FitsExpr, FitsGoal}
use Rattle.query_core.specs.declared.keys.TheConstants.{KEYS}
use Rattle.query_core.specs.declared.words.Key.{Key}
use Rattle.query_core.specs.declared.words.Expr.{Expr}
use Rattle.query_core.specs.declared.words.KeyParts.{KeyParts}
use Rattle.query_core.specs.declared.words.GoalParts.{GoalParts}
use Rattle.query_core.specs.declared.expressions.ExprParts.{ExprParts}
use Rattle.query_core.proofs.ExpressionLemmas.{expr_of_one}
use Rattle.xform_rules.specs.Rules.{rule_number, RulesAreKnown}
use Rattle.request_props.specs.Requests.{code_of}
use Rattle.goal_space.specs.Words.{key_of, expr_word, parts_of, goal_word, IsGoalInRange}
use Rattle.goal_space.specs.declared.goals.GoalKind.{GoalKind}
use Rattle.goal_space.specs.declared.goals.GoalKind.TheVariants.{Exp, ExpE, Xf, Imp, ImpE, Opt, OptE}
use Rattle.goal_space.proofs.GoalNumbers.{code_small, request_one}

module _ (
    one_expr : (e f : ExprParts) → IsPacked e → IsPacked f → word_of e ≡ word_of f → e ≡ f
    ) (
    one_group : (p g : KeyParts) → keys.IsGroupInRange p → keys.IsGroupInRange g → key_number p ≡ key_number g → p ≡ g
    ) (
    small_expr : (e : ExprParts) → IsPacked e → FitsExpr (word_of e)
    ) (
    small_group : (g : KeyParts) → keys.IsGroupInRange g → key_number g < KEYS
    ) (
    rules : RulesAreKnown
    ) where
  -- the parts of a goal fit
  pub goal_fits : (k : GoalKind) → IsGoalInRange k → FitsGoal (parts_of k)
  goal_fits (Exp group) known = omega (arith, small_group group known)
  goal_fits (ExpE e) known = small_expr e known
  goal_fits (Xf e rule) known = (small_expr e known, rules.some rule, omega (arith, rules.few rule))
  goal_fits (Imp group) known = omega (arith, small_group group known)
  goal_fits (ImpE e) known = small_expr e known
  goal_fits (Opt group wanted) known = (omega (arith, small_group group known.0), code_small wanted known.1)
  goal_fits (OptE e wanted) known = (small_expr (expr_of e) known.0, code_small wanted known.1)

  key_same : (g h : KeyParts) → keys.IsGroupInRange g → keys.IsGroupInRange h → key_of g ≡ key_of h → g ≡ h
  key_same g h known other same = one_group g h known other (ap (λ (k : Key). k.0) same)

  expr_same : (e f : ExprParts) → IsPacked e → IsPacked f → expr_word e ≡ expr_word f → e ≡ f
  expr_same e f known other same = one_expr e f known other (ap (λ (w : Expr). w.0) same)

  -- goals of the same parts are one
  pub parts_one : (k l : GoalKind) → IsGoalInRange k → IsGoalInRange l → parts_of k ≡ parts_of l → k ≡ l
  parts_one (Exp g) (Exp h) known other same =
      let keys_same : key_of g ≡ key_of h = cc in
      ap Exp (key_same g h known other keys_same)
  parts_one (ExpE e) (ExpE f) known other same =
      let words_same : expr_word e ≡ expr_word f = cc in
      ap ExpE (expr_same e f known other words_same)
  parts_one (Xf e rule) (Xf f more) known other same =
      let words_same : expr_word e ≡ expr_word f = cc in
      let numbers_same : rule_number rule ≡ rule_number more = cc in
      let e_is = expr_same e f known other words_same in
      let rule_is = rules.number_one rule more numbers_same in
      cc
  parts_one (Imp g) (Imp h) known other same =
      let keys_same : key_of g ≡ key_of h = cc in
      ap Imp (key_same g h known other keys_same)
  parts_one (ImpE e) (ImpE f) known other same =
      let words_same : expr_word e ≡ expr_word f = cc in
      ap ImpE (expr_same e f known other words_same)
  parts_one (Opt g wanted) (Opt h wish) known other same =
      let keys_same : key_of g ≡ key_of h = cc in
      let codes_same : code_of wanted ≡ code_of wish = cc in
      let g_is = key_same g h known.0 other.0 keys_same in
      let wanted_is = request_one wanted wish known.1 other.1 codes_same in
      cc
  parts_one (OptE e wanted) (OptE f wish) known other same =
      let words_same : expr_word (expr_of e) ≡ expr_word (expr_of f) = cc in
      let codes_same : code_of wanted ≡ code_of wish = cc in
      let e_is = expr_of_one e f (expr_same (expr_of e) (expr_of f) known.0 other.0 words_same) in
      let wanted_is = request_one wanted wish known.1 other.1 codes_same in
      cc
  parts_one k l known other same = cc

  -- so are goals of the same word
  pub word_one : ((p o : GoalParts) → FitsGoal p → FitsGoal o → goal_number p ≡ goal_number o → p ≡ o)
      → (k l : GoalKind) → IsGoalInRange k → IsGoalInRange l → goal_word k ≡ goal_word l → k ≡ l
  word_one one_parts k l known other same =
      parts_one k l known other (one_parts (parts_of k) (parts_of l) (goal_fits k known) (goal_fits l other) same)
