-- What a goal's word stands for.
use Rattle.std.proofs.Common.{◌≡◌, ℕ, ap, sym, ◌∙◌, subst, Option, None, Some, ◌↔◌}
use Rattle.std.specs.Prelude.{MatchOption}
use Rattle.query_core.specs.Keys.{key_number}
use Rattle.query_core.specs.Expressions.{word_of, expr_of, IsPacked}
use Rattle.query_core.specs.Goals.{goal_number, FitsGoal, HasGoalWord}
use Rattle.query_core.specs.declared.words.Key.{Key}
use Rattle.query_core.specs.declared.words.Expr.{Expr}
use Rattle.query_core.specs.declared.words.KeyParts.{KeyParts}
use Rattle.query_core.specs.declared.words.GoalParts.{GoalParts}
use Rattle.query_core.specs.declared.words.GoalParts.TheVariants as parts
use Rattle.query_core.specs.declared.expressions.ExprParts.{ExprParts}
use Rattle.query_core.specs.declared.expressions.PhysicalExpr.{PhysicalExpr}
use Rattle.request_props.specs.Requests.{code_of}
use Rattle.request_props.specs.declared.request.Request.{Request}
use Rattle.goal_space.specs.Words.{key_of, expr_word, parts_of, goal_word, HasWord, IsGoalInRange}
use Rattle.goal_space.specs.declared.goals.GoalKind.{GoalKind}
use Rattle.goal_space.specs.declared.goals.GoalKind.TheVariants.{Opt, OptE}

-- the goal has these parts
abbrev pub StandsFor : GoalParts → GoalKind → Type 0
StandsFor p k = IsGoalInRange k × (parts_of k ≡ p)

-- no goal has these parts
abbrev pub StandsForNone : GoalParts → Type 0
StandsForNone p = (k : GoalKind) → IsGoalInRange k → parts_of k ≡ p → ⊥

-- ---- parts

-- where no goal has some parts, none has these, which are the same
pub none_of : (p o : GoalParts) → p ≡ o → StandsForNone o → StandsForNone p
none_of p o same none = subst StandsForNone (sym same) none

-- where the word is that of a logical expression or of none, no goal has it for a request
pub no_expr : (word : Expr) (code : ℕ) → ((e : PhysicalExpr) → IsPacked (expr_of e) → word_of (expr_of e) ≡ word.0 → ⊥)
    → StandsForNone (parts.OptE word code)
no_expr word code none (OptE e wanted) known same =
    let word_is : expr_word (expr_of e) ≡ word = cc in
    none e known.0 (ap (λ (w : Expr). w.0) word_is)
no_expr word code none k known same = cc

key_is : (group : KeyParts) (key : Key) → key_number group ≡ key.0 → key_of group ≡ key
key_is group key same = ap (λ (n : ℕ). let made : Key = record { 0 = n } in made) same

word_is : (e : ExprParts) (word : Expr) → word_of e ≡ word.0 → expr_word e ≡ word
word_is e word same = ap (λ (n : ℕ). let made : Expr = record { 0 = n } in made) same

pub opt_parts : (p : GoalParts) (key : Key) (code : ℕ) (group : KeyParts) (wanted : Request) → key_number group ≡ key.0
    → code_of wanted ≡ code → p ≡ parts.Opt key code
    → parts_of (Opt group wanted) ≡ p
opt_parts p key code group wanted number code_is is =
    let same_key = key_is group key number in
    let made : parts_of (Opt group wanted) ≡ parts.Opt key code = cc in
    made ∙ sym is

pub opt_e_parts : (p : GoalParts) (word : Expr) (code : ℕ) (e : PhysicalExpr) (wanted : Request)
    → word_of (expr_of e) ≡ word.0 → code_of wanted ≡ code
    → p ≡ parts.OptE word code → parts_of (OptE e wanted) ≡ p
opt_e_parts p word code e wanted number code_is is =
    let same_word = word_is (expr_of e) word number in
    let made : parts_of (OptE e wanted) ≡ parts.OptE word code = cc in
    made ∙ sym is

-- ---- words

module _ (
    one : (k l : GoalKind) → IsGoalInRange k → IsGoalInRange l → goal_word k ≡ goal_word l → k ≡ l
    ) (
    fits : (k : GoalKind) → IsGoalInRange k → FitsGoal (parts_of k)
    ) (
    one_parts : (p o : GoalParts) → FitsGoal p → FitsGoal o → goal_number p ≡ goal_number o → p ≡ o
    ) (word : ℕ) (p : GoalParts) (has : HasGoalWord word p) where
  -- a goal with the word has the parts
  word_parts : (k : GoalKind) → HasWord k word → parts_of k ≡ p
  word_parts k has_word = one_parts (parts_of k) p (fits k has_word.in_range) has.fits (has_word.number
      ∙ sym has.number)

  found_of : (found : Option GoalKind) → MatchOption found (StandsForNone p) (StandsFor p) → (k : GoalKind)
      → HasWord k word → found ≡ Some k
  found_of None none k has_word = absurd (none k has_word.in_range (word_parts k has_word))
  found_of (Some l) is k has_word =
      let same : l ≡ k = one l k is.0 has_word.in_range (ap goal_number is.1 ∙ has.number ∙ sym has_word.number) in
      ap Some same

  word_of_found : (found : Option GoalKind) → MatchOption found (StandsForNone p) (StandsFor p) → (k : GoalKind)
      → found ≡ Some k → HasWord k word
  word_of_found None none k same = cc
  word_of_found (Some l) is k same =
      let l_is : l ≡ k = cc in
      let has_word : HasWord l word = record { in_range = is.0; number = ap goal_number is.1 ∙ has.number } in
      subst (λ (g : GoalKind). HasWord g word) l_is has_word

  -- what is found by the parts is the goal of the word
  pub found_exactly : (found : Option GoalKind) → MatchOption found (StandsForNone p) (StandsFor p) → (k : GoalKind)
      → HasWord k word ↔ (found ≡ Some k)
  found_exactly found is k = (found_of found is k, word_of_found found is k)
