-- The implementation of a group: its members are all there once the goals of its logical members are finished.
use Rattle.std.proofs.Common.{◌≡◌, ℕ, Bool, true, false, IsTrue, Option, None, Some, List, refl, sym, ap, subst, ◌∙◌}
use Rattle.std.proofs.Common.{inl, inr, ⊎_elim}
use Rattle.std.proofs.lemmas.Bool.{false≢true}
use Rattle.query_core.specs.Expressions.{is_logical, word_of, IsCandidate}
use Rattle.query_core.specs.declared.query.Query.{Query}
use Rattle.query_core.specs.declared.words.KeyParts.{KeyParts}
use Rattle.query_core.specs.declared.expressions.ExprParts.{ExprParts}
use Rattle.xform_rules.specs.Closure.{IsMember, root_origin, child_origin, result, bound_result}
use Rattle.xform_rules.specs.Results.{Applies, HasResult}
use Rattle.xform_rules.specs.Rules.{explores}
use Rattle.xform_rules.specs.declared.rules.Rule.{Rule}
use Rattle.request_props.specs.Numbered.{IsWithinLimits}
use Rattle.board_rule.specs.Looks.{ShowsFinished, child_of, ShowsEntry, asked_by}
use Rattle.goal_space.specs.Words.{goal_word}
use Rattle.goal_space.specs.Children.{IsChildGoal, IsLogicalIn}
use Rattle.goal_space.specs.Goals.{IsGoal, child_goal}
use Rattle.goal_space.specs.Asked.{AsksFor, IsResultOf}
use Rattle.goal_space.specs.Entries.{NamesGoal, IsEntry, IsChildWord}
use Rattle.goal_space.specs.Answers.{no_choice}
use Rattle.goal_space.specs.declared.goals.GoalKind.TheVariants.{Exp, Xf, Imp, ImpE}
use Rattle.goal_rules.specs.Known.{EntriesAreMembers}
use Rattle.goal_rules.specs.Explored.{IsLogicalOf, IsLogicalWord}
use Rattle.goal_rules.specs.Meaning.{meaning_of}
use Rattle.goal_rules.specs.declared.rules.Rules.{Rules}
use Rattle.board_rule.specs.declared.hands.Hands.{Hands}
use Rattle.goal_board.specs.declared.board.Right.{Right}
use Rattle.board_moves.specs.declared.progress.Progress.{Progress}
use Rattle.board_moves.specs.Moves.{Proceeds, IsDoneUnlessWaiting}
use Rattle.board_moves.specs.Passes.{AwaitsAll}
use Rattle.board_moves.proofs.Shown.{still_finished}
use Rattle.board_moves.proofs.MovesLemmas.{proceeds_then, later_proceeded}
use Rattle.board_moves.proofs.Working.{works_end}
use Rattle.job_turns.specs.Groups.{implemented}
use Rattle.job_turns.specs.Laws.{ChildrenAreKnown, AskedAreKnown}
use Rattle.job_turns.specs.Works.{AddsWord, WorksOn}
use Rattle.job_turns.proofs.Promises.{goes_on, promise_shown}

-- rules that explore give logical expressions, and the others physical ones; a rule has results where it applies, in
-- the group, and at logical expressions
pub record ResultLaws (q : Query) : Type 0 where
  pub applies : (rule : Rule) (e : ExprParts) (bound : Option ExprParts) (n : ℕ) (x : ExprParts)
      → HasResult q rule e bound n x → Applies q rule e
  pub group : (rule : Rule) (e : ExprParts) (bound : Option ExprParts) (n : ℕ) (x : ExprParts)
      → HasResult q rule e bound n x → x.group ≡ e.group
  pub logical : (rule : Rule) (e : ExprParts) (bound : Option ExprParts) (n : ℕ) (x : ExprParts)
      → HasResult q rule e bound n x → IsTrue (is_logical e.operator)
  pub explored : (rule : Rule) (e : ExprParts) (bound : Option ExprParts) (n : ℕ) (x : ExprParts)
      → HasResult q rule e bound n x → is_logical x.operator ≡ explores rule

-- a member that implements: a result of a rule that doesn't explore, at a logical member of its group
pub record IsImplementedFrom (q : Query) (x e : ExprParts) (rule : Rule) : Type 0 where
  pub from : IsLogicalIn (IsMember q) x.group e
  pub kind : explores rule ≡ false
  pub applies : Applies q rule e
  pub is_result : IsResultOf q rule e x

module _ (q : Query) (laws : ResultLaws q) where
  -- a physical member is such a result
  pub implemented_from : (x : ExprParts) → IsMember q x → is_logical x.operator ≡ false → (e : ExprParts)
      × (rule : Rule) × IsImplementedFrom q x e rule
  implemented_from _ root_origin physical = absurd (false≢true (sym physical))
  implemented_from _ (child_origin e group member child) physical = absurd (false≢true (sym physical))
  implemented_from _ (result e other rule n member has) physical = (
    e,
    rule,
    record {
      from = record {
        member = member;
        of_group = sym (laws.group rule e None n other has);
        logical = laws.logical rule e None n other has;
      };
      kind = sym (laws.explored rule e None n other has) ∙ physical;
      applies = laws.applies rule e None n other has;
      is_result = inl (n, has);
    },
  )
  implemented_from _ (bound_result e bound other rule n member bound_member has) physical = (
    e,
    rule,
    record {
      from = record {
        member = member;
        of_group = sym (laws.group rule e (Some bound) n other has);
        logical = laws.logical rule e (Some bound) n other has;
      };
      kind = sym (laws.explored rule e (Some bound) n other has) ∙ physical;
      applies = laws.applies rule e (Some bound) n other has;
      is_result = inr (bound, n, bound_member, has);
    },
  )

  module _ (capacity : ℕ) (looks : List (ℕ × ℕ)) (group : KeyParts) (is_goal : IsGoal q (Imp group)) where
    -- a logical member is shown in a cell where the exploration is shown finished
    pub logical_shown : ShowsFinished (meaning_of q) capacity looks (goal_word (Exp group)) → (e : ExprParts)
        → IsLogicalIn (IsMember q) group e → ShowsEntry (meaning_of q) capacity looks (word_of e)
    logical_shown finished e is_in = asked_by (goal_word (Exp group)) (word_of e) finished
        (record {
          goal = Exp group;
          member = e;
          names = record { is_goal = child_goal (Imp group) (Exp group) is_goal (inl refl); number = refl };
          asks = is_in;
          number = refl;
        })

    -- a physical one is, where the goals that implement logical members are
    pub physical_shown : ((e : ExprParts) → IsLogicalIn (IsMember q) group e
        → ShowsFinished (meaning_of q) capacity looks (goal_word (ImpE e))) → (x : ExprParts) → IsMember q x
        → x.group ≡ group → is_logical x.operator ≡ false
        → ShowsEntry (meaning_of q) capacity looks (word_of x)
    physical_shown finished x member of_group physical =
        let (e, rule, from) = implemented_from x member physical in
        let is_in : IsLogicalIn (IsMember q) group e = subst (λ g. IsLogicalIn (IsMember q) g e) of_group from.from in
        let implements : IsGoal q (ImpE e) = child_goal (Imp group) (ImpE e) is_goal (inr (e, is_in, refl)) in
        let of_rule : IsChildGoal (IsMember q) q (ImpE e) (Xf e rule) = inr (rule, ((from.kind, from.applies), refl)) in
        asked_by (goal_word (Xf e rule)) (word_of x)
        (child_of (goal_word (ImpE e)) (goal_word (Xf e rule)) (finished e is_in)
        (record {
          goal = ImpE e;
          other = Xf e rule;
          names = record { is_goal = implements; number = refl };
          is_child = of_rule;
          number = refl;
        }))
        (record {
          goal = Xf e rule;
          member = x;
          names = record { is_goal = child_goal (ImpE e) (Xf e rule) implements of_rule; number = refl };
          asks = (x, from.is_result, inl refl);
          number = refl;
        })

    -- so all members are
    pub member_shown : ShowsFinished (meaning_of q) capacity looks (goal_word (Exp group))
        → ((e : ExprParts) → IsLogicalIn (IsMember q) group e
        → ShowsFinished (meaning_of q) capacity looks (goal_word (ImpE e)))
        → (x : ExprParts) → AsksFor q (Imp group) x → ShowsEntry (meaning_of q) capacity looks (word_of x)
    member_shown explored finished x (member, of_group) = by (is_logical x.operator) refl
      where
        by : (b : Bool) → is_logical x.operator ≡ b → ShowsEntry (meaning_of q) capacity looks (word_of x)
        by true logical = logical_shown explored x (record { member = member; of_group = of_group; logical = logical })
        by false physical = physical_shown finished x member of_group physical

module _ (q : Query) (group : KeyParts) where
  logical_in : EntriesAreMembers q → (e : ExprParts) → IsLogicalOf q group e → IsEntry q (word_of e)
      → IsLogicalIn (IsMember q) group e
  logical_in members e logical enters = record {
    member = members e logical.candidate enters;
    of_group = logical.of_group;
    logical = logical.logical;
  }

  -- the goal that implements a logical member that is found is a child
  pub implements_child : EntriesAreMembers q → (word : ℕ) → NamesGoal q word (Imp group) → (found : ℕ)
      → IsLogicalWord q group found → IsEntry q found → IsChildWord q word (implemented found)
  implements_child members word names found (e, logical, is) enters = record {
    goal = Imp group;
    other = ImpE e;
    names = names;
    is_child = inr (e, logical_in members e logical (subst (IsEntry q) (sym is) enters), refl);
    number = ap implemented is;
  }

  -- the end of the work: the group is explored, and the goals of all logical members were awaited
  pub implement_works : ResultLaws q → ((e : ExprParts) → IsMember q e → IsCandidate q e) → ChildrenAreKnown q
      → AskedAreKnown q → IsWithinLimits q → (capacity : ℕ) (v u w : Hands Rules) (start middle after : Right)
      (number : ℕ)
      (came : Progress)
      → NamesGoal q start.goal (Imp group) → Proceeds (IsChildWord q start.goal) v start u middle
      → ShowsFinished (meaning_of q) capacity u.looks (goal_word (Exp group))
      → AwaitsAll (meaning_of q) capacity u (IsLogicalWord q group) implemented middle number w after
      → IsDoneUnlessWaiting after (record { cost = 0; node = 0 }) came
      → WorksOn q capacity v start (Imp group) came w after
  implement_works laws candidates children asked small capacity v u w start middle after number came names proceeds
      explored
      all done =
      let on = subst (λ k. Proceeds (IsChildWord q k) u middle w after) proceeds.same_goal all.proceeds in
      let whole = proceeds_then (IsChildWord q start.goal) v start u middle w after proceeds on in
      let later = later_proceeded (IsChildWord q start.goal) u middle w after on in
      let explored_then : ShowsFinished (meaning_of q) capacity w.looks (goal_word (Exp group)) =
      still_finished (meaning_of q) capacity u.looks w.looks later (goal_word (Exp group)) explored in
      let implemented_all : after.waits ≡ 0 → (e : ExprParts) → IsLogicalIn (IsMember q) group e
      → ShowsFinished (meaning_of q) capacity w.looks (goal_word (ImpE e)) = λ none e is_in.
      let held : IsLogicalWord q group (word_of e) = (
        e,
        record { candidate = candidates e is_in.member; of_group = is_in.of_group; logical = is_in.logical },
        refl,
      ) in
      all.finished none (word_of e) (all.knew (word_of e) held
      (logical_shown q laws capacity u.looks group names.is_goal explored e is_in)) in
      works_end (meaning_of q) capacity (AddsWord q (Imp group)) v start w after (record { cost = 0; node = 0 }) came
      (goes_on q children small (Imp group) v start w after names whole)
      (λ none. promise_shown q children small (Imp group) asked capacity w.looks start.goal names
      (λ child is. ⊎_elim (λ exp. subst (λ k. ShowsFinished (meaning_of q) capacity w.looks (goal_word k)) (sym exp)
      explored_then) (λ (e, is_in, imp). subst (λ k. ShowsFinished (meaning_of q) capacity w.looks (goal_word k))
      (sym imp) (implemented_all none e is_in)) is)
      (member_shown q laws capacity w.looks group names.is_goal explored_then (implemented_all none)))
      (record { goal = Imp group; names = names; answer = no_choice; is_answer = refl; words = (refl, refl) }) done
