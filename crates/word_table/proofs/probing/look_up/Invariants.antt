use Rattle.std.proofs.Common.{get_or}
use Rattle.word_table.specs.Probing.{home_of, HasOther}
use Rattle.word_table.proofs.Steps.{HasProbed}
use Rattle.word_table.proofs.probing.look_up.Given as goal

-- the probe made this many steps over cells of other words
abbrev pub invariant-loop-step : goal.invariant-loop-step
invariant-loop-step l = HasProbed l.capacity (home_of l.word l.capacity) l.at l._step
    (HasOther (λ place. get_or l.cells place 0) l.word)
