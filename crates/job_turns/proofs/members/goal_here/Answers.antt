-- A candidate that the rules make is a member. Any other is one where it is held, and else none: the looks would show
-- it.
use Rattle.std.proofs.Common.{◌≢◌, Bool, ap, sym, subst, ◌∙◌, arith, refl}
use Rattle.std.specs.Prelude.{is_some}
use Rattle.std.proofs.lemmas.Bool.{false≢true}
use Rattle.query_core.specs.Expressions.{expr_of}
use Rattle.query_core.specs.Goals.{FitsExpr}
use Rattle.query_core.specs.declared.query.Query.{Query}
use Rattle.query_core.proofs.ExpressionLemmas.{word_some}
use Rattle.board_rule.specs.Looks.{ShowsEntry}
use Rattle.goal_board.specs.Calls.{FindsWhether}
use Rattle.goal_board.specs.Seats.{hands}
use Rattle.board_moves.proofs.Shown.{looks_none}
use Rattle.board_moves.proofs.Putting.{held_at, only_looks_held, found_enters}
use Rattle.goal_space.specs.Entries.{IsEntry}
use Rattle.goal_rules.specs.Meaning.{meaning_of}
use Rattle.job_turns.specs.Searches.{rules_mean}
use Rattle.job_turns.proofs.Held.{member_shown}
use Rattle.job_turns.proofs.members.goal_here.Goals as goal

pub member_goal-goal-requires-clause-expr : goal.member_goal-goal-requires-clause-expr
member_goal-goal-requires-clause-expr c =
    let candidate = c.requires.candidate in
    let small = c.expressions_are_one.ensures.small (expr_of c.args.candidate.now.expr)
    (c.candidates_are_known.ensures.packed c.args.search.now.query.now (expr_of c.args.candidate.now.expr)
    candidate.candidate)
    in
    subst FitsExpr candidate.number small

-- what may serve a request has a mode
pub is_made-requires-clause-candidate : goal.is_made-requires-clause-candidate
is_made-requires-clause-candidate c = c.requires.candidate.candidate

pub is_made-requires-clause-has_mode : goal.is_made-requires-clause-has_mode
is_made-requires-clause-has_mode c =
    let serves = c.requires.serves in (serves.0, ap is_some serves.1.1.is_line)

-- one that the rules make is a member without a look
pub returns-then-is_made-clause-looks : goal.returns-then-is_made-clause-looks
returns-then-is_made-clause-looks c = looks_none (hands c.args.seat.now)

pub returns-then-is_made-clause-goal : goal.returns-then-is_made-clause-goal
returns-then-is_made-clause-goal c =
    let serves = c.requires.serves in (
      record {
        member = c.is_made.ensures.member c.if-is_made.true;
        of_group = refl;
        mode = serves.0;
        serves = serves.1;
      },
      c.member_goal-goal.ensures.word c.args.candidate.now.expr c.requires.candidate.number,
    )

-- any other is looked for
pub returns-then-holds-clause-looks : goal.returns-then-holds-clause-looks
returns-then-holds-clause-looks c = only_looks_held c.args.search.now.board.now.setup.capacity (hands c.args.seat.now)
    c.args.candidate.now.word c.holds.result (hands c.holds.new.seat) c.holds.ensures.answer

pub returns-then-holds-clause-goal : goal.returns-then-holds-clause-goal
returns-then-holds-clause-goal c =
    let q = c.args.search.now.query.now in
    let b = c.args.search.now.board.now in
    let v = hands c.args.seat.now in
    let word = c.args.candidate.now.word in
    let e = c.args.candidate.now.expr in
    let some_word : word ≢ 0 = let some = word_some (expr_of e) in omega arith in
    let serves = c.requires.serves in
    let at = held_at b.setup.capacity v word (hands c.holds.new.seat)
    (subst (λ (found : Bool). FindsWhether b.setup.capacity v word found (hands c.holds.new.seat)) c.if-holds.true
    c.holds.ensures.answer) in
    let enters = found_enters b.setup.capacity rules_mean b.setup.rules v word at.0 (hands c.holds.new.seat)
    c.holds.ensures.seat.over some_word at.1 in
    let entry : IsEntry q word = subst (λ (x : Query). IsEntry x word) c.requires.search.same_query enters in (
      record {
        member = c.entries_are_known.ensures.members q (expr_of e) c.requires.candidate.candidate
            (subst (IsEntry q) (sym c.requires.candidate.number) entry);
        of_group = refl;
        mode = serves.0;
        serves = serves.1;
      },
      c.member_goal-goal.ensures.word e c.requires.candidate.number,
    )

pub returns-else-holds-clause-looks : goal.returns-else-holds-clause-looks
returns-else-holds-clause-looks c = only_looks_held c.args.search.now.board.now.setup.capacity (hands c.args.seat.now)
    c.args.candidate.now.word c.holds.result (hands c.holds.new.seat) c.holds.ensures.answer

pub returns-else-holds-clause-goal : goal.returns-else-holds-clause-goal
returns-else-holds-clause-goal c =
    let q = c.args.search.now.query.now in
    let b = c.args.search.now.board.now in
    let v = hands c.args.seat.now in
    let e = c.args.candidate.now.expr in
    λ can. false≢true (sym c.if-holds.false ∙ c.holds.ensures.shown
    (subst (λ (x : Query). ShowsEntry (meaning_of x) b.setup.capacity v.looks c.args.candidate.now.word)
    (sym c.requires.search.same_query)
    (member_shown q b.setup.capacity v.looks e c.requires.implemented can.member c.args.candidate.now.word
    c.requires.candidate.number)))
