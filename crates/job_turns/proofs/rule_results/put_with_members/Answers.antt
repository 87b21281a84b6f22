-- Each logical member that is in a cell is bound in turn.
use Rattle.std.proofs.Common.{◌⊎◌, None, Some, sym, subst, rules}
use Rattle.query_core.specs.Expressions.{word_of, IsCandidate}
use Rattle.query_core.specs.declared.query.Query.{Query}
use Rattle.xform_rules.specs.Closure.{IsMember}
use Rattle.board_rule.specs.Looks.{ShowsEntry}
use Rattle.goal_board.specs.Seats.{hands}
use Rattle.board_moves.specs.Moves.{IsEntryOf}
use Rattle.board_moves.specs.Words.{IsNextWord, IsNextOf}
use Rattle.board_moves.proofs.Ascending.{fewer_above}
use Rattle.goal_space.specs.Children.{IsLogicalIn}
use Rattle.goal_rules.specs.Explored.{IsLogicalWord}
use Rattle.goal_rules.specs.Meaning.{meaning_of}
use Rattle.job_turns.specs.Results.{IsBroughtWith, IsBroughtFrom}
use Rattle.job_turns.proofs.GroupLemmas.{some_logical}
use Rattle.job_turns.proofs.JobHeld.{job_looked}
use Rattle.job_turns.proofs.MembersPut.{put_none, put_both, put_others, put_looked, put_shown_from, puts_run_out}
use Rattle.job_turns.proofs.Bound.{IsBroughtUpTo, entry_member, bound_more, bound_all}
use Rattle.job_turns.proofs.rule_results.put_with_members.Goals as goal

pub next_entry-requires-clause-some_word : goal.next_entry-requires-clause-some_word
next_entry-requires-clause-some_word c κs = some_logical c.args.search.now.query.now c.args.left

pub next_entry-requires-clause-shown : goal.next_entry-requires-clause-shown
next_entry-requires-clause-shown c κs = λ word is.
    let q = c.args.search.now.query.now in
    let b = c.args.search.now.board.now in
    let same = c.requires.has_job.its.same_query in
    let over = subst (λ (p : Query). IsEntryOf (meaning_of p) (IsLogicalWord q c.args.left) word) same is in
    let (bound, is_in, number) = entry_member q c.args.left (c.entries_are_known.ensures.members q)
    (c.members_are_candidates.ensures q) word over in
    subst (λ (p : Query). ShowsEntry (meaning_of p) b.setup.capacity (hands c.loop-word.seat).looks word) (sym same)
    (subst (ShowsEntry (meaning_of q) b.setup.capacity (hands c.loop-word.seat).looks) number
    (put_shown_from q b.setup.capacity c.args.job.now.right (hands c.args.seat.now) _ (hands c.loop-word.seat)
    c.loop-word.invariant.put (word_of bound) (c.requires.shown bound is_in)))

pub loop-word-init : goal.loop-word-init
loop-word-init c = record {
  has_job = c.requires.has_job;
  put = put_none c.args.search.now.query.now c.args.search.now.board.now.setup.capacity c.args.job.now.right
      (hands c.args.seat.now)
      (IsBroughtUpTo c.args.search.now.query.now c.args.rule c.args.e c.args.left None) (λ x is. is.2);
}

pub loop-word-smaller : goal.loop-word-smaller
loop-word-smaller c = fewer_above c.loop-word.before c.in-Some.word c.in-Some.ensures.next.above (search rules)

pub known_parts-bound-requires : goal.known_parts-bound-requires
known_parts-bound-requires c =
    let (e, logical, number) = c.in-Some.ensures.next.has.0 in (
      e,
      record {
        packed = c.candidates_are_known.ensures.packed c.args.search.now.query.now e logical.candidate;
        number = number;
      },
    )

pub put_results-requires-clause-has_job : goal.put_results-requires-clause-has_job
put_results-requires-clause-has_job c =
    job_looked c.args.search.now c.loop-word.seat c.next_entry.new.seat c.args.job.now
    c.next_entry.ensures.seat c.loop-word.invariant.has_job c.in-Some.ensures.looks

pub put_results-requires-clause-bound : goal.put_results-requires-clause-bound
put_results-requires-clause-bound c =
    let q = c.args.search.now.query.now in
    let (e, logical, number) = c.in-Some.ensures.next.has.0 in
    subst (IsCandidate q) (c.known_parts-bound.ensures.only e
    (record { packed = c.candidates_are_known.ensures.packed q e logical.candidate; number = number }))
    logical.candidate

pub put_results-requires-clause-asked : goal.put_results-requires-clause-asked
put_results-requires-clause-asked c = λ other brought.
    let q = c.args.search.now.query.now in
    let over = subst (λ (p : Query). IsEntryOf (meaning_of p) (IsLogicalWord q c.args.left) c.in-Some.word)
    c.requires.has_job.its.same_query c.in-Some.ensures.next.has in
    let (x, is_in, number) = entry_member q c.args.left (c.entries_are_known.ensures.members q)
    (c.members_are_candidates.ensures q) c.in-Some.word over in
    let same = c.known_parts-bound.ensures.only x
    (record {
      packed = c.candidates_are_known.ensures.packed q x (c.members_are_candidates.ensures q x is_in.member);
      number = number;
    }) in
    c.requires.asked other
    (c.known_parts-bound.result, subst (IsLogicalIn (IsMember q) c.args.left) same is_in, brought)

pub returns-then-not-put_results-clause-puts : goal.returns-then-not-put_results-clause-puts
returns-then-not-put_results-clause-puts c =
    let q = c.args.search.now.query.now in
    let capacity = c.args.search.now.board.now.setup.capacity in
    let right = c.args.job.now.right in
    let up_to = IsBroughtUpTo q c.args.rule c.args.e c.args.left c.loop-word.before in
    puts_run_out q capacity right (hands c.args.seat.now) up_to (hands c.next_entry.new.seat)
    (hands c.put_results.new.seat)
    (put_looked q capacity right (hands c.args.seat.now) up_to (hands c.loop-word.seat) (hands c.next_entry.new.seat)
    c.in-Some.ensures.looks c.loop-word.invariant.put) c.if-not-put_results.ensures.puts

pub loop-word-preserved : goal.loop-word-preserved
loop-word-preserved c =
    let q = c.args.search.now.query.now in
    let capacity = c.args.search.now.board.now.setup.capacity in
    let right = c.args.job.now.right in
    let up_to = IsBroughtUpTo q c.args.rule c.args.e c.args.left c.loop-word.before in
    let with = IsBroughtWith q c.args.rule c.args.e (Some c.known_parts-bound.result) in
    let next = subst (λ (p : Query). IsNextWord (IsEntryOf (meaning_of p) (IsLogicalWord q c.args.left))
    c.loop-word.before c.in-Some.word) c.requires.has_job.its.same_query c.in-Some.ensures.next in
    record {
      has_job = c.put_results.ensures.has_job;
      put = put_others q capacity right (hands c.args.seat.now) (λ x. up_to x ⊎ with x)
          (IsBroughtUpTo q c.args.rule c.args.e c.args.left (Some c.in-Some.word))
          (bound_more q c.args.left (c.entries_are_known.ensures.members q) (c.members_are_candidates.ensures q)
          c.args.rule c.args.e c.loop-word.before c.in-Some.word next c.known_parts-bound.result
          (λ x is_in number. c.known_parts-bound.ensures.only x
          (record {
            packed = c.candidates_are_known.ensures.packed q x (c.members_are_candidates.ensures q x is_in.member);
            number = number;
          })))
          (hands c.put_results.new.seat)
          (put_both q capacity right (hands c.args.seat.now) up_to with (hands c.next_entry.new.seat)
          (hands c.put_results.new.seat)
          (put_looked q capacity right (hands c.args.seat.now) up_to (hands c.loop-word.seat)
          (hands c.next_entry.new.seat)
          c.in-Some.ensures.looks c.loop-word.invariant.put) c.if-not-put_results.ensures.puts);
    }

pub returns-clause-has_job : goal.returns-clause-has_job
returns-clause-has_job c =
    job_looked c.args.search.now c.loop-word.seat c.next_entry.new.seat c.args.job.now
    c.next_entry.ensures.seat c.loop-word.invariant.has_job c.in_default.ensures.looks

pub returns-clause-puts : goal.returns-clause-puts
returns-clause-puts c =
    let q = c.args.search.now.query.now in
    let capacity = c.args.search.now.board.now.setup.capacity in
    let right = c.args.job.now.right in
    let up_to = IsBroughtUpTo q c.args.rule c.args.e c.args.left c.loop-word.before in
    let none = subst (λ (p : Query). IsNextOf (IsEntryOf (meaning_of p) (IsLogicalWord q c.args.left))
    c.loop-word.before None) c.requires.has_job.its.same_query c.in_default.ensures.next in
    put_others q capacity right (hands c.args.seat.now) up_to (IsBroughtFrom q c.args.rule c.args.e c.args.left)
    (bound_all q c.args.left (c.entries_are_known.ensures.members q) (c.members_are_candidates.ensures q) c.args.rule
    c.args.e c.loop-word.before none)
    (hands c.next_entry.new.seat) (put_looked q capacity right (hands c.args.seat.now) up_to (hands c.loop-word.seat)
    (hands c.next_entry.new.seat) c.in_default.ensures.looks c.loop-word.invariant.put)
