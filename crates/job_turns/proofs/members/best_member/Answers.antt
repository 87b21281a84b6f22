-- One candidate after the other.
use Rattle.std.proofs.Common.{[], ℕ, ◌+◌, List, Option, None, get_or, take, sym, subst, ◌∙◌}
use Rattle.std.specs.Prelude.{IfSome}
use Rattle.std.proofs.lemmas.Bool.{false≢true}
use Rattle.std.proofs.lemmas.List.{take_all}
use Rattle.query_core.specs.declared.words.KeyParts.{KeyParts}
use Rattle.request_props.specs.JoinSets.{AreSetsOf}
use Rattle.request_props.specs.declared.tables.join_sets.JoinSets.{JoinSets}
use Rattle.request_props.specs.declared.tables.physical.PhysicalCandidate.{PhysicalCandidate}
use Rattle.goal_board.specs.Seats.{hands}
use Rattle.board_moves.proofs.Shown.{still_finished}
use Rattle.board_moves.proofs.MovesLemmas.{later_proceeded}
use Rattle.xform_rules.specs.Closure.{IsMember}
use Rattle.goal_space.specs.Children.{CanServe}
use Rattle.goal_space.specs.Entries.{NamesGoal, IsChildWord}
use Rattle.goal_space.specs.Words.{goal_word}
use Rattle.goal_space.specs.declared.goals.GoalKind.TheVariants.{Imp, Opt}
use Rattle.goal_rules.specs.Meaning.{meaning_of}
use Rattle.job_turns.specs.Choices.{FindsBest}
use Rattle.job_turns.specs.Requests.{IsImplemented, IsMemberGoal, IsBestOfMembers, IsGoalOfMember, IsBestOfMember}
use Rattle.job_turns.specs.declared.known_best.KnownBest.{KnownBest}
use Rattle.job_turns.specs.declared.known_best.KnownBest.TheVariants.{Known}
use Rattle.job_turns.proofs.Staying.{stays_at_first, stays_then}
use Rattle.job_turns.proofs.Finding.{finds_none, finds_others, chooses_none}
use Rattle.job_turns.proofs.Serving.{IsMemberGoalAmong, IsBestAmong, member_goal_none, best_none, of_candidate}
use Rattle.job_turns.proofs.Serving.{both_with_none, candidate_here, finds_more, best_without, member_goal_all, best_all}
use Rattle.job_turns.proofs.members.best_member.Goals as goal
use Rattle.job_turns.proofs.members.best_member.Goals.{then-may_serve_by+in_ok-other, else-may_serve_by}

pub physical_of-requires-clause-group : goal.physical_of-requires-clause-group
physical_of-requires-clause-group g c =
    c.goals_are_known.ensures.candidates c.args.search.now.query.now (Opt c.args.group c.args.wanted)
    c.requires.goal.is_goal

pub loop-place-init : goal.loop-place-init
loop-place-init g c =
    let q = c.args.search.now.query.now in
    let group = c.args.group in
    let wanted = c.args.wanted in
    record {
      at_work = stays_at_first c.args.search.now c.args.turn.now _ c.requires.at_work;
      found = finds_none q c.args.search.now.board.now.setup.capacity (hands c.args.turn.now.seat.now)
          c.args.turn.now.job.right
          (IsMemberGoalAmong q group wanted []) (IsBestAmong q group wanted []) (member_goal_none q group wanted)
          None (best_none q group wanted (c.answers_are_best.ensures.none q));
    }

pub await_candidate-requires-clause-candidate : goal.await_candidate-requires-clause-candidate
await_candidate-requires-clause-candidate g c =
    candidate_here c.args.search.now.query.now c.args.group c.args.wanted c.physical_of.result.0.now
    c.physical_of.ensures.candidates c.loop-place.place _ c.loop-place-test.true

pub may_serve_by-requires-clause-sets : goal.may_serve_by-requires-clause-sets
may_serve_by-requires-clause-sets g c =
    let q = c.args.search.now.query.now in
    let candidates = c.physical_of.result.0.now in
    let place = c.loop-place.place in
    subst (λ (sets : Option JoinSets). IfSome sets (AreSetsOf q (get_or candidates place _).expr.operator))
    (sym c.sets_at-sets.ensures) (c.physical_of.ensures.sets place _ c.loop-place-test.true)

pub await_candidate-requires-clause-goal : goal.await_candidate-requires-clause-goal
await_candidate-requires-clause-goal g c =
    let q = c.args.search.now.query.now in
    of_candidate q c.args.group c.args.wanted c.physical_of.result.0.now c.physical_of.ensures.candidates
    c.loop-place.place _ c.loop-place-test.true
    (λ (x : KeyParts). NamesGoal q c.loop-place.turn.job.right.goal (Opt x c.args.wanted))
    (subst (λ (word : ℕ). NamesGoal q word (Opt c.args.group c.args.wanted))
    (sym c.loop-place.invariant.found.awaited.proceeds.same_goal) c.requires.goal)

pub await_candidate-requires-clause-implemented : goal.await_candidate-requires-clause-implemented
await_candidate-requires-clause-implemented g c =
    let q = c.args.search.now.query.now in
    let capacity = c.args.search.now.board.now.setup.capacity in
    let looks = (hands c.loop-place.turn.seat.now).looks in
    of_candidate q c.args.group c.args.wanted c.physical_of.result.0.now c.physical_of.ensures.candidates
    c.loop-place.place _ c.loop-place-test.true (IsImplemented q capacity looks) (record {
      is_goal = c.requires.implemented.is_goal;
      finished = still_finished (meaning_of q) capacity (hands c.args.turn.now.seat.now).looks looks
          (later_proceeded (IsChildWord q c.args.turn.now.job.right.goal) (hands c.args.turn.now.seat.now)
          c.args.turn.now.job.right
          (hands c.loop-place.turn.seat.now) c.loop-place.turn.job.right
          c.loop-place.invariant.found.awaited.proceeds) (goal_word (Imp c.args.group))
          c.requires.implemented.finished;
    })

pub returns-in_err-other-clause-chooses : goal.returns-in_err-other-clause-chooses
returns-in_err-other-clause-chooses g c =
    let q = c.args.search.now.query.now in
    let tried = take c.loop-place.place c.physical_of.result.0.now in
    rw c.from_residual.ensures
    (chooses_none q c.args.search.now.board.now.setup.capacity (hands c.args.turn.now.seat.now)
    c.args.turn.now.job.right
    (IsMemberGoalAmong q c.args.group c.args.wanted tried) (IsBestAmong q c.args.group c.args.wanted tried)
    c.loop-place.known_best
    (hands c.loop-place.turn.seat.now) c.loop-place.turn.job.right (hands c.await_candidate.new.turn.seat.now)
    c.await_candidate.new.turn.job.right c.loop-place.invariant.found c.in_err-other.ensures.chooses)

pub loop-place-preserved : goal.loop-place-preserved
loop-place-preserved g c =
    let q = c.args.search.now.query.now in
    let capacity = c.args.search.now.board.now.setup.capacity in
    let group = c.args.group in
    let wanted = c.args.wanted in
    let v = hands c.args.turn.now.seat.now in
    let start = c.args.turn.now.job.right in
    let candidates = c.physical_of.result.0.now in
    let are = c.physical_of.ensures.candidates in
    let i = c.loop-place.place in
    let u = hands c.loop-place.turn.seat.now in
    let middle = c.loop-place.turn.job.right in
    let lesser_best = c.answers_are_best.ensures.lesser q in
    let props = c.args.search.now.props.now in
    let is_props = c.requires.at_work.has_job.its.props in
    let fits = c.goals_are_known.ensures.requests q (Opt group wanted) c.requires.goal.is_goal in
    elim c.if-may_serve_by.branch [
      | then-may_serve_by+in_ok-other w ↦
          let after = w.await_candidate.new.turn.job.right in
          let now = hands w.await_candidate.new.turn.seat.now in
          rw w.turn-is (rw w.known_best-is (record {
            at_work = stays_then c.args.search.now c.args.turn.now c.loop-place.turn w.await_candidate.new.turn _ _
                c.loop-place.invariant.at_work w.await_candidate.ensures.at_work;
            found = subst (λ (known_best : KnownBest). FindsBest q capacity v start
                (IsMemberGoalAmong q group wanted (take (i + 1) candidates))
                (IsBestAmong q group wanted (take (i + 1) candidates)) known_best now after)
                (sym w.or-known_best.ensures)
                (finds_more q group wanted candidates are i _ c.loop-place-test.true capacity v start lesser_best
                props is_props fits c.loop-place.known_best w.in_ok-other.other u middle now after
                c.loop-place.invariant.found w.in_ok-other.ensures.chooses);
          }))
      | else-may_serve_by w ↦
          let e = (get_or candidates i _).expr in
          let none : CanServe (IsMember q) q e.group wanted e → ⊥ = λ can. false≢true
          (sym w.if-may_serve_by.false ∙ c.may_serve_by.ensures.1 (can.mode, can.serves)) in
          rw w.turn-is (rw w.known_best-is (record {
            at_work = c.loop-place.invariant.at_work;
            found = subst (λ (known_best : KnownBest). FindsBest q capacity v start
                (IsMemberGoalAmong q group wanted (take (i + 1) candidates))
                (IsBestAmong q group wanted (take (i + 1) candidates)) known_best u middle)
                (both_with_none c.loop-place.known_best)
                (finds_more q group wanted candidates are i _ c.loop-place-test.true capacity v start lesser_best
                props is_props fits c.loop-place.known_best (Known None) u middle u middle
                c.loop-place.invariant.found
                (finds_none q capacity u middle (IsGoalOfMember q e wanted) (IsBestOfMember q e wanted)
                (λ child is. none is.0) None
                (best_without q e.group wanted (c.answers_are_best.ensures.none q) e none)));
          }))
    ]

pub returns-clause-chooses : goal.returns-clause-chooses
returns-clause-chooses g c =
    let q = c.args.search.now.query.now in
    let capacity = c.args.search.now.board.now.setup.capacity in
    let group = c.args.group in
    let wanted = c.args.wanted in
    let v = hands c.args.turn.now.seat.now in
    let start = c.args.turn.now.job.right in
    let candidates = c.physical_of.result.0.now in
    let tried = take c.loop-place.place candidates in
    let w = hands c.loop-place.turn.seat.now in
    let after = c.loop-place.turn.job.right in
    let found = subst (λ (list : List PhysicalCandidate).
    FindsBest q capacity v start (IsMemberGoalAmong q group wanted list) (IsBestAmong q group wanted list)
    c.loop-place.known_best w after)
    (take_all c.loop-place.place candidates c.loop-place-test.false)
    c.loop-place.invariant.found in
    finds_others q capacity v start (IsMemberGoalAmong q group wanted candidates) (IsMemberGoal q group wanted)
    (IsBestAmong q group wanted candidates) (IsBestOfMembers q group wanted)
    (member_goal_all q group wanted (c.members_are_candidates.ensures q) candidates c.physical_of.ensures.candidates)
    (best_all q group wanted (c.members_are_candidates.ensures q) candidates c.physical_of.ensures.candidates)
    c.loop-place.known_best w after found
