-- What a sink in memory has taken, and what a call does to it.
use Rattle.std.specs.Prelude.{ℕ, ◌+◌, Bool, ◌&&◌, ◌==◌, if◌then◌else◌, nat_le, List, ◌++◌, length, take, find, Option}
use Rattle.std.specs.Prelude.{option_map, is_none}
use Rattle.std.specs.Option.{option_map_or}
use Rattle.orca_io.specs.Count.{next}

-- the bytes taken, how many there is room for, the calls so far, those named to fail with the bytes that each takes,
-- and the count of faults
pub record SinkState : Type 0 where
  pub taken : List ℕ
  pub room : ℕ
  pub calls : ℕ
  pub failing : List (ℕ × ℕ)
  pub faults : ℕ

-- how many bytes a call takes that is named to fail, as it was first named
abbrev pub taken_at : List (ℕ × ℕ) → ℕ → Option ℕ
taken_at failing call = option_map (λ named. named.1) (find (λ named. named.0 == call) failing)

-- what the next call is to take of a piece: all, or its first bytes where the call is named to fail
abbrev pub part_of : SinkState → List ℕ → List ℕ
part_of sink piece = option_map_or (λ n. take n piece) (taken_at sink.failing sink.calls) piece

-- whether that has room
abbrev pub has_room : SinkState → List ℕ → Bool
has_room sink piece = nat_le (length sink.taken + length (part_of sink piece)) sink.room

-- whether the next call takes the whole piece: it isn't named to fail, and the piece has room
abbrev pub succeeds : SinkState → List ℕ → Bool
succeeds sink piece = has_room sink piece && is_none (taken_at sink.failing sink.calls)

-- the sink after a call: its part is taken where it has room, and the count of faults rises where the call fails
abbrev pub after_put : SinkState → List ℕ → SinkState
after_put sink piece = record {
  taken = if has_room sink piece then sink.taken ++ part_of sink piece else sink.taken;
  room = sink.room;
  calls = next sink.calls;
  failing = sink.failing;
  faults = if succeeds sink piece then sink.faults else next sink.faults;
}
