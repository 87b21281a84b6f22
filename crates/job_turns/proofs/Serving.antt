-- The members of a group that may serve a request, tried one after the other.
use Rattle.std.proofs.Common.{◌≡◌, ◌⊎◌, ℕ, List, [], ◌∷◌, ◌++◌, ◌+◌, ◌<◌, length, get_or, take, Option, None, Some, refl, sym}
use Rattle.std.proofs.Common.{ap, subst, ◌∙◌, inl, inr, ⊎_elim, arith}
use Rattle.std.specs.List.{Contains}
use Rattle.std.proofs.lemmas.List.{take_more}
use Rattle.std.proofs.lemmas.List.Elements.{Contains-push_cases}
use Rattle.query_core.specs.Expressions.{expr_of, IsCandidate}
use Rattle.query_core.specs.declared.query.Query.{Query}
use Rattle.query_core.specs.declared.words.KeyParts.{KeyParts}
use Rattle.query_core.specs.declared.expressions.ExprParts.{ExprParts}
use Rattle.query_core.specs.declared.expressions.PhysicalExpr.{PhysicalExpr}
use Rattle.xform_rules.specs.Closure.{IsMember}
use Rattle.request_props.specs.Candidates.{with_word, ArePhysicalOf, IsPhysicalOf}
use Rattle.request_props.specs.Fitting.{Fits}
use Rattle.request_props.specs.Numbered.{IsProps}
use Rattle.request_props.specs.declared.tables.physical.PhysicalCandidate.{PhysicalCandidate}
use Rattle.request_props.specs.declared.props.Props.{Props}
use Rattle.request_props.specs.declared.request.Request.{Request}
use Rattle.plan_space.specs.declared.nodes.NodeKind.TheVariants as nodes
use Rattle.best_answers.specs.Nodes.{Nodes, no_nodes, modes_of, both_of, all_nodes, IsIn}
use Rattle.best_answers.specs.Answers.{lesser}
use Rattle.best_answers.specs.Best.{IsBest}
use Rattle.best_answers.specs.Laws.{NoneIsBest, LesserIsBest, CoveredIsBest}
use Rattle.best_answers.specs.declared.best.Best.{Best}
use Rattle.board_rule.specs.declared.hands.Hands.{Hands}
use Rattle.goal_board.specs.declared.board.Right.{Right}
use Rattle.goal_rules.specs.declared.rules.Rules.{Rules}
use Rattle.goal_space.specs.Children.{CanServe}
use Rattle.goal_space.specs.Answers.{IsAnswerTo}
use Rattle.goal_space.specs.declared.goals.GoalKind.{GoalKind}
use Rattle.goal_space.specs.declared.goals.GoalKind.TheVariants.{OptE}
use Rattle.job_turns.specs.Requests.{IsMemberGoal, IsGoalOfMember, IsBestOfMember, IsBestOfMembers, first_enforcers}
use Rattle.job_turns.specs.Choices.{FindsBest, best_of_both}
use Rattle.job_turns.specs.declared.known_best.KnownBest.{KnownBest}
use Rattle.job_turns.specs.declared.known_best.KnownBest.TheVariants.{Known, Open}
use Rattle.job_turns.proofs.Enforced.{first_has}
use Rattle.job_turns.proofs.Finding.{finds_both, finds_others}

-- no answer beside what is known changes nothing
pub both_with_none : (known_best : KnownBest) → best_of_both known_best (Known None) ≡ known_best
both_with_none (Known None) = refl
both_with_none (Known (Some best)) = refl
both_with_none Open = refl

module _ (q : Query) (group : KeyParts) (wanted : Request) where
  -- the goal of a member among these
  abbrev pub IsMemberGoalAmong : List PhysicalCandidate → GoalKind → Type 0
  IsMemberGoalAmong tried child = (e : PhysicalExpr) × Contains tried (with_word e)
      × CanServe (IsMember q) q group wanted e × (child ≡ OptE e wanted)

  -- the best answer of some nodes, among them all members among these in all modes
  pub record IsBestAmong (tried : List PhysicalCandidate) (best : Option Best) : Type 0 where
    pub set : Nodes
    pub has : (e : PhysicalExpr) (mode : ℕ) → Contains tried (with_word e) → CanServe (IsMember q) q group wanted e
        → IsIn set (nodes.Native e mode)
    pub is_best : IsBest q group wanted set best

  -- no member is among none
  pub member_goal_none : (child : GoalKind) → IsMemberGoalAmong [] child → ⊥
  member_goal_none child (e, (k, within, is), can, is_goal) = omega (arith, within)

  pub best_none : NoneIsBest q → IsBestAmong [] None
  best_none none_best = record {
    set = no_nodes;
    has = λ e mode (k, within, is) can. absurd (omega (arith, within));
    is_best = none_best group wanted;
  }

  module _ (tried : List PhysicalCandidate) (new : PhysicalCandidate) where
    -- a member among these and one more is that, or among those before
    same_or_before : (e : PhysicalExpr) → Contains (tried ++ new ∷ []) (with_word e)
        → CanServe (IsMember q) q group wanted e
        → ((e ≡ new.expr) × CanServe (IsMember q) q new.expr.group wanted new.expr) ⊎ Contains tried (with_word e)
    same_or_before e there can = ⊎_elim (λ (old : Contains tried (with_word e)). inr old)
        (λ (last : new ≡ with_word e).
        let same : e ≡ new.expr = sym (ap (λ (c : PhysicalCandidate). c.expr) last) in
        let own : CanServe (IsMember q) q e.group wanted e =
        record { member = can.member; of_group = refl; mode = can.mode; serves = can.serves } in
        inl (same, subst (λ (x : PhysicalExpr). CanServe (IsMember q) q x.group wanted x) same own))
        (Contains-push_cases tried new (with_word e) there)

    -- one member more
    pub member_goal_more : (child : GoalKind) → IsMemberGoalAmong (tried ++ new ∷ []) child
        → IsMemberGoalAmong tried child ⊎ IsGoalOfMember q new.expr wanted child
    member_goal_more child (e, there, can, is_goal) =
        ⊎_elim (λ (last : (e ≡ new.expr) × CanServe (IsMember q) q new.expr.group wanted new.expr).
        inr (last.1, is_goal ∙ ap (λ (x : PhysicalExpr). OptE x wanted) last.0))
        (λ (old : Contains tried (with_word e)). inl (e, old, can, is_goal)) (same_or_before e there can)

    pub best_more : LesserIsBest q → (props : Props) → IsProps q props → Fits q group wanted → new.expr.group ≡ group
        → (first second : Option Best) → IsBestAmong tried first → IsBestOfMember q new.expr wanted second
        → IsBestAmong (tried ++ new ∷ []) (lesser first second)
    best_more lesser_best props is_props fits of_group first second old last = record {
      set = both_of old.set last.set;
      has = λ e mode there can.
          ⊎_elim (λ (this : (e ≡ new.expr) × CanServe (IsMember q) q new.expr.group wanted new.expr).
          inr (subst (λ (x : PhysicalExpr). IsIn last.set (nodes.Native x mode)) (sym this.0)
          (last.has mode this.1)))
          (λ (before : Contains tried (with_word e)). inl (old.has e mode before can)) (same_or_before e there can);
      is_best = lesser_best props is_props group wanted old.set last.set first second fits old.is_best
          (subst (λ (g : KeyParts). IsBest q g wanted last.set second) of_group last.is_best);
    }

  module _ (candidates : List PhysicalCandidate) (are : ArePhysicalOf q group candidates) (i : ℕ)
      (d : PhysicalCandidate) (within : i < length candidates) where
    -- what holds of the group holds of that of each candidate
    pub of_candidate : (Holds : KeyParts → Type 0) → Holds group → Holds (get_or candidates i d).expr.group
    of_candidate Holds holds = subst Holds (sym (are.sound i d within).of_group) holds

    pub candidate_here : IsPhysicalOf q (get_or candidates i d).expr.group (get_or candidates i d)
    candidate_here = let is = are.sound i d within in
        record { candidate = is.candidate; of_group = refl; number = is.number }

    -- one candidate more was tried
    pub finds_more : (capacity : ℕ) (v : Hands Rules) (before : Right) → LesserIsBest q → (props : Props)
        → IsProps q props
        → Fits q group wanted → (one other : KnownBest) (u : Hands Rules) (middle : Right) (w : Hands Rules)
        (after : Right)
        → FindsBest q capacity v before (IsMemberGoalAmong (take i candidates)) (IsBestAmong (take i candidates))
        one u
        middle
        → FindsBest q capacity u middle (IsGoalOfMember q (get_or candidates i d).expr wanted)
        (IsBestOfMember q (get_or candidates i d).expr wanted) other w after
        → FindsBest q capacity v before (IsMemberGoalAmong (take (i + 1) candidates))
        (IsBestAmong (take (i + 1) candidates)) (best_of_both one other) w after
    finds_more capacity v before lesser_best props is_props fits one other u middle w after so_far last =
        let new = get_or candidates i d in
        let tried = take i candidates in
        let more = tried ++ new ∷ [] in
        let both = finds_both q capacity v before (IsMemberGoalAmong tried) (IsGoalOfMember q new.expr wanted)
        (IsBestAmong tried) (IsBestOfMember q new.expr wanted) (IsBestAmong more)
        (best_more tried new lesser_best props is_props fits (are.sound i d within).of_group) one other u middle w after
        so_far last in
        subst (λ (list : List PhysicalCandidate).
        FindsBest q capacity v before (IsMemberGoalAmong list) (IsBestAmong list) (best_of_both one other) w after)
        (sym (take_more candidates i d within))
        (finds_others q capacity v before (λ (child : GoalKind). IsMemberGoalAmong tried child
        ⊎ IsGoalOfMember q new.expr wanted child) (IsMemberGoalAmong more) (IsBestAmong more) (IsBestAmong more)
        (member_goal_more tried new) (λ best is. is) (best_of_both one other) w after both)

  module _ (members : (e : ExprParts) → IsMember q e → IsCandidate q e) (candidates : List PhysicalCandidate)
      (are : ArePhysicalOf q group candidates) where
    -- each member is among the group's candidates
    member_there : (e : PhysicalExpr) → CanServe (IsMember q) q group wanted e → Contains candidates (with_word e)
    member_there e can = are.complete e (members (expr_of e) can.member) can.of_group

    pub member_goal_all : (child : GoalKind) → IsMemberGoal q group wanted child → IsMemberGoalAmong candidates child
    member_goal_all child (e, can, is) = (e, member_there e can, can, is)

    pub best_all : (best : Option Best) → IsBestAmong candidates best → IsBestOfMembers q group wanted best
    best_all best so_far = record {
      set = so_far.set;
      has = λ e mode can. so_far.has e mode (member_there e can) can;
      is_best = so_far.is_best;
    }

  -- the answer of an expression that is no such member is none
  pub best_without : NoneIsBest q → (e : PhysicalExpr) → (CanServe (IsMember q) q e.group wanted e → ⊥)
      → IsBestOfMember q e wanted None
  best_without none_best e none = record {
    set = no_nodes;
    has = λ mode can. none can;
    is_best = none_best e.group wanted;
  }

  -- and that of one that is is its goal's
  pub best_with : (e : PhysicalExpr) (best : Option Best) → IsAnswerTo q (OptE e wanted) best
      → IsBestOfMember q e wanted best
  best_with e best is = record { set = modes_of e; has = λ mode can. refl; is_best = is }

  -- the lesser answer of enforcers and members is that of all nodes
  pub best_of_all : LesserIsBest q → CoveredIsBest q → (props : Props) → IsProps q props → Fits q group wanted
      → (first second : Option Best) → IsBest q group wanted (first_enforcers wanted) first
      → IsBestOfMembers q group wanted second
      → IsBest q group wanted all_nodes (lesser first second)
  best_of_all lesser_best covered props is_props fits first second enforcers members =
      covered group wanted (both_of (first_enforcers wanted) members.set) all_nodes (lesser first second) (record {
        within = λ node at. tt;
        enforcers = λ e among at. inl (first_has wanted e among);
        members = λ e mode line member of_group at alternative.
            inr (members.has e mode (record {
              member = member;
              of_group = of_group;
              mode = mode;
              serves = (line, alternative);
            }));
      }) (lesser_best props is_props group wanted (first_enforcers wanted) members.set first second fits enforcers
      members.is_best)
