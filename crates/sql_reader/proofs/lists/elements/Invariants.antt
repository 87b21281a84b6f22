-- what was read so far, and what is still read, is what is read in all
use Rattle.std.proofs.Common.{◌≡◌, ◌-◌}
use Rattle.sql_reader.specs.Steps.{elements_at}
use Rattle.sql_reader.proofs.Loop.{with_front}
use Rattle.sql_reader.proofs.lists.elements.Given as goal

abbrev pub invariant-loop : goal.invariant-loop
invariant-loop g l =
    with_front l.elements (elements_at l.separator g.E.Element.begins g.E.Element.reads l.what (l.room - l.counter)
    l.tokens)
    ≡ elements_at l.separator g.E.Element.begins g.E.Element.reads l.what l.room l.initial.tokens
