-- A turn over a wider measure of what it may put into cells.
use Rattle.std.proofs.Common.{◌≢◌, ℕ, inl, inr, arith}
use Rattle.query_core.specs.declared.query.Query.{Query}
use Rattle.query_core.proofs.ExpressionLemmas.{word_some}
use Rattle.board_rule.specs.declared.hands.Hands.{Hands}
use Rattle.goal_board.specs.declared.board.Right.{Right}
use Rattle.board_moves.specs.Turns.{Turns}
use Rattle.board_moves.specs.declared.progress.Turned.{Turned}
use Rattle.board_moves.specs.declared.progress.Turned.TheVariants as turned
use Rattle.board_moves.proofs.MovesLemmas.{proceeds_wider, runs_out_wider}
use Rattle.goal_space.specs.declared.goals.GoalKind.{GoalKind}
use Rattle.goal_rules.specs.EntryLaws.{goal_high}
use Rattle.job_turns.specs.Works.{AddsWord}

-- what may be put in by one measure may be by a wider one
pub turns_wider : {R : Type 0} → (AddsWord Wider : ℕ → Type 0) → ((word : ℕ) → AddsWord word → Wider word)
    → (cells : ℕ) (v : Hands R) (right : Right) (worker : ℕ) (result : Turned) (w : Hands R)
    → Turns cells AddsWord v right worker result w → Turns cells Wider v right worker result w
turns_wider AddsWord Wider wider cells v right worker (turned.Finished woken) w t = record {
  middle = t.middle;
  after = t.after;
  proceeds = proceeds_wider AddsWord Wider wider v right t.middle t.after t.proceeds;
  cost = t.cost;
  node = t.node;
  finishes = t.finishes;
}
turns_wider AddsWord Wider wider cells v right worker turned.Suspended w t = record {
  middle = t.middle;
  after = t.after;
  proceeds = proceeds_wider AddsWord Wider wider v right t.middle t.after t.proceeds;
  some_wait = t.some_wait;
  gives_up = t.gives_up;
}
turns_wider AddsWord Wider wider cells v right worker turned.Full w t = record {
  middle = t.middle;
  after = t.after;
  runs_out = runs_out_wider AddsWord Wider wider cells v right t.middle t.after t.runs_out;
  gives_up = t.gives_up;
}

-- no word that a turn may put in is 0
pub adds_some : (q : Query) (goal : GoalKind) (word : ℕ) → AddsWord q goal word → word ≢ 0
adds_some q goal word (inl (child, is_child, number)) none = let high = goal_high child in
    omega (arith, high, number, none)
adds_some q goal word (inr (e, brings, number)) none = let some = word_some e in omega (arith, some, number, none)
