-- A word that is held is an entry, and one that isn't is none: the looks would show it.
use Rattle.std.proofs.Common.{sym, ◌∙◌}
use Rattle.std.proofs.lemmas.Bool.{false≢true}
use Rattle.goal_board.specs.Seats.{hands}
use Rattle.board_moves.specs.Moves.{IsEntryOf}
use Rattle.board_moves.proofs.Shown.{still_shown, looks_none, looks_then, later_looked}
use Rattle.board_moves.proofs.Ascending.{passes_none, passes_next, passes_found}
use Rattle.board_moves.proofs.Putting.{held_at, only_looks_held, found_enters}
use Rattle.board_moves.proofs.entries.next_entry.Goals as goal

pub loop-word-init : goal.loop-word-init
loop-word-init g c = record {
  seat = c.requires.seat;
  looks = looks_none (hands c.args.seat.now);
  passes = passes_none (IsEntryOf (g.R.GoalRules.meaning c.args.board.now.setup.rules) (g.W.Words.has c.args.words.now))
      c.args.before;
}

pub returns-then-holds-clause-looks : goal.returns-then-holds-clause-looks
returns-then-holds-clause-looks g c =
    looks_then (hands c.args.seat.now) (hands c.loop-word.seat) (hands c.holds.new.seat) c.loop-word.invariant.looks
    (only_looks_held c.args.board.now.setup.capacity (hands c.loop-word.seat) c.in-Some.word c.holds.result
    (hands c.holds.new.seat) c.holds.ensures.answer)

pub returns-then-holds-clause-next : goal.returns-then-holds-clause-next
returns-then-holds-clause-next g c =
    let b = c.args.board.now in
    let has = g.W.Words.has c.args.words.now in
    let at = held_at b.setup.capacity (hands c.loop-word.seat) c.in-Some.word (hands c.holds.new.seat)
    c.if-holds.ensures.answer in
    passes_found has (IsEntryOf (g.R.GoalRules.meaning b.setup.rules) has) (λ word is. is.0) c.args.before
    c.loop-word.before c.loop-word.invariant.passes c.in-Some.word c.in-Some.ensures (
      c.in-Some.ensures.has,
      found_enters b.setup.capacity g.R.GoalRules.meaning b.setup.rules (hands c.loop-word.seat)
          c.in-Some.word at.0 (hands c.holds.new.seat) c.holds.ensures.seat.over
          (c.requires.some_word c.in-Some.word c.in-Some.ensures.has) at.1,
    )

pub loop-word-preserved : goal.loop-word-preserved
loop-word-preserved g c =
    let b = c.args.board.now in
    let has = g.W.Words.has c.args.words.now in
    let looks = c.loop-word.invariant.looks in
    record {
      seat = c.holds.ensures.seat;
      looks = looks_then (hands c.args.seat.now) (hands c.loop-word.seat) (hands c.holds.new.seat) looks
          (only_looks_held b.setup.capacity (hands c.loop-word.seat) c.in-Some.word c.holds.result
          (hands c.holds.new.seat)
          c.holds.ensures.answer);
      passes = passes_next has (IsEntryOf (g.R.GoalRules.meaning b.setup.rules) has) (λ word is. is.0) c.args.before
          c.loop-word.before c.loop-word.invariant.passes c.in-Some.word c.in-Some.ensures
          (λ is. false≢true (sym c.if-holds.false ∙ c.holds.ensures.shown
          (still_shown (g.R.GoalRules.meaning b.setup.rules) b.setup.capacity (hands c.args.seat.now).looks
          (hands c.loop-word.seat).looks
          (later_looked (hands c.args.seat.now) (hands c.loop-word.seat) looks) c.in-Some.word
          (c.requires.shown c.in-Some.word is))));
    }
