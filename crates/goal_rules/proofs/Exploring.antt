-- The exploration of a group, in words.
use Rattle.std.proofs.Common.{◌≡◌, ℕ, true, refl, ap, sym, subst, ◌∙◌, inl, inr}
use Rattle.std.specs.Prelude.{Option, None, Some}
use Rattle.query_core.specs.Expressions.{is_logical, origin_of, word_of, IsCandidate}
use Rattle.query_core.specs.declared.query.Query.{Query}
use Rattle.query_core.specs.declared.words.KeyParts.{KeyParts}
use Rattle.query_core.specs.declared.expressions.ExprParts.{ExprParts}
use Rattle.xform_rules.specs.Rules.{explores}
use Rattle.xform_rules.specs.Results.{HasResult}
use Rattle.xform_rules.specs.Closure.{IsMember, result, bound_result}
use Rattle.xform_rules.specs.declared.rules.Rule.{Rule}
use Rattle.goal_space.specs.Words.{goal_word}
use Rattle.goal_space.specs.Children.{IsLogicalIn}
use Rattle.goal_space.specs.Goals.{IsGoal, child_goal}
use Rattle.goal_space.specs.Asked.{IsResultOf}
use Rattle.goal_space.specs.Entries.{IsEntry, IsChildWord, IsAskedWord}
use Rattle.goal_space.specs.OfMembers.{goals_of_members}
use Rattle.goal_space.specs.declared.goals.GoalKind.TheVariants.{Exp, ExpE, Xf}
use Rattle.goal_rules.specs.Grown.{LeadsTo, Grown, begins, grows, MembersAreGrown}
use Rattle.goal_rules.specs.Known.{EntriesAreMembers, IsKnownWord}
use Rattle.goal_rules.specs.Explored.{explored, IsLogicalOf, IsLogicalWord, IsExploredWord, origin_found, asked_found}
use Rattle.goal_rules.specs.Explored.{IsExplorationOf}

module _ (q : Query) (group : KeyParts) (is_goal : IsGoal q (Exp group)) (
    given_kind : (rule : Rule) (e : ExprParts) (bound : Option ExprParts) (n : ℕ) (x : ExprParts)
    → HasResult q rule e bound n x → is_logical x.operator ≡ explores rule
    ) (candidates : (e : ExprParts) → IsMember q e → IsCandidate q e) where
  -- what exploration finds are logical members of the group
  abbrev IsIn : ExprParts → Type 0
  IsIn e = IsLogicalIn (IsMember q) group e

  result_in : (e other : ExprParts) → IsIn e → (rule : Rule) → explores rule ≡ true → IsResultOf q rule e other
      → IsIn other
  result_in e other is_in rule exploring (inl (n, has)) =
      record {
        member = result e other rule n is_in.member has;
        of_group = has.group ∙ is_in.of_group;
        logical = given_kind rule e None n other has ∙ exploring;
      }
  result_in e other is_in rule exploring (inr (bound, n, member_bound, has)) =
      record {
        member = bound_result e bound other rule n is_in.member member_bound has;
        of_group = has.group ∙ is_in.of_group;
        logical = given_kind rule e (Some bound) n other has ∙ exploring;
      }

  grown_in : (e : ExprParts) → Grown q group e → IsIn e
  grown_in _ begins = record { member = goals_of_members q (Exp group) is_goal; of_group = refl; logical = refl }
  grown_in _ (grows e other grown leads) =
      result_in e other (grown_in e grown) leads.rule leads.exploring leads.is_result

  held : (e : ExprParts) → IsIn e → IsLogicalOf q group e
  held e is_in = record { candidate = candidates e is_in.member; of_group = is_in.of_group; logical = is_in.logical }

  -- the exploration of the group asks for them
  asked_word : (e : ExprParts) → IsIn e → IsAskedWord q (goal_word (Exp group)) (word_of e)
  asked_word e is_in = record {
    goal = Exp group;
    member = e;
    names = record { is_goal = is_goal; number = refl };
    asks = is_in;
    number = refl;
  }

  -- and waits for theirs
  explored_goal : (e : ExprParts) → IsIn e → IsGoal q (ExpE e)
  explored_goal e is_in = child_goal (Exp group) (ExpE e) is_goal (e, is_in, refl)

  -- the exploration of an expression waits for the rule that leads on from it, which asks for the other
  rule_child : (e other : ExprParts) → IsIn e → (leads : LeadsTo q e other)
      → IsChildWord q (explored (word_of e)) (goal_word (Xf e leads.rule))
  rule_child e other is_in leads = record {
    goal = ExpE e;
    other = Xf e leads.rule;
    names = record { is_goal = explored_goal e is_in; number = refl };
    is_child = inr (leads.rule, ((leads.exploring, leads.applies), refl));
    number = refl;
  }

  rule_asks : (e other : ExprParts) → IsIn e → (leads : LeadsTo q e other)
      → IsAskedWord q (goal_word (Xf e leads.rule)) (word_of other)
  rule_asks e other is_in leads = record {
    goal = Xf e leads.rule;
    member = other;
    names = record {
      is_goal = child_goal (ExpE e) (Xf e leads.rule) (explored_goal e is_in)
          (inr (leads.rule, ((leads.exploring, leads.applies), refl)));
      number = refl;
    };
    asks = (other, leads.is_result, inl refl);
    number = refl;
  }

  found_word : (e : ExprParts) → Grown q group e → IsExploredWord q group (word_of e)
  found_word _ begins = origin_found
  found_word _ (grows e other grown leads) =
      let is_in = grown_in e grown in
      let other_in = result_in e other is_in leads.rule leads.exploring leads.is_result in
      asked_found (word_of e) (goal_word (Xf e leads.rule)) (word_of other) (found_word e grown)
      (rule_child e other is_in leads) (rule_asks e other is_in leads)
      (other, held other other_in, refl)

  module _ (grown : MembersAreGrown q) (members : EntriesAreMembers q) (known : IsKnownWord q (Exp group)) where
    found : (e : ExprParts) → IsIn e → IsExploredWord q group (word_of e)
    found e is_in = found_word e (subst (λ (g : KeyParts). Grown q g e) is_in.of_group
        (grown e is_in.member is_in.logical))

    child_explores : (child : ℕ) → IsChildWord q (goal_word (Exp group)) child → (word : ℕ)
        × IsAskedWord q (goal_word (Exp group)) word × (child ≡ explored word)
    child_explores child is =
        let (other, (e, is_in, same), number) = known.child child is in
        (word_of e, asked_word e is_in, sym number ∙ ap goal_word same)

    entry_explored : (word : ℕ) → IsLogicalWord q group word → IsEntry q word
        → IsChildWord q (goal_word (Exp group)) (explored word)
    entry_explored word (e, holds, is) entry =
        let member = members e holds.candidate (subst (IsEntry q) (sym is) entry) in
        record {
          goal = Exp group;
          other = ExpE e;
          names = record { is_goal = is_goal; number = refl };
          is_child = (e, record { member = member; of_group = holds.of_group; logical = holds.logical }, refl);
          number = ap explored is;
        }

    pub exploration : IsExplorationOf q group
    exploration = record {
      origin_held = (origin_of q group, held (origin_of q group) (grown_in (origin_of q group) begins), refl);
      origin_asked = asked_word (origin_of q group) (grown_in (origin_of q group) begins);
      asked_held = λ word asked. let (e, is_in, is) = known.asked word asked in (e, held e is_in, is);
      asked_is_found = λ word asked. let (e, is_in, is) = known.asked word asked in
          subst (IsExploredWord q group) is (found e is_in);
      children = child_explores;
      explores = entry_explored;
    }
