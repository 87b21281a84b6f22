use Rattle.std.proofs.Common.{rules, IfErr, IsTrue, IsFalse, subst}
use Rattle.orca_io.specs.MemShelf.{fails, IsRefusal}
use Rattle.orca_io.proofs.mem_shelf.MemShelfShelf.read_all.Goals as goal
use Rattle.orca_io.proofs.mem_shelf.MemShelfShelf.read_all.Goals.{in_default-via-in-Some+else-not-named}
use Rattle.orca_io.proofs.mem_shelf.MemShelfShelf.read_all.Goals.{in_default-via-in_default}

-- bytes that are held are added or refused for their length or for memory, and here the reading doesn't fail
pub returns-in-Some-clause-failed : goal.returns-in-Some-clause-failed
returns-in-Some-clause-failed c =
    let serves : IsFalse (fails c.args.self.now c.args.name.now) = search rules in
    let refused = IsRefusal c.deref-in-Some.result.now c.args.limit in (
      λ failed. absurd (subst (λ r. IfErr r refused) failed c.add_whole.ensures.cause),
      λ failing. absurd (cc (serves, failing)),
    )

-- the reading fails, named to or for want of the name, so nothing is beyond the limit
pub returns-in_default-clause-too_long : goal.returns-in_default-clause-too_long
returns-in_default-clause-too_long c = λ beyond.
    let failing : IsTrue (fails c.args.self.now c.args.name.now) = elim c.in_default.branch [
      | in_default-via-in-Some+else-not-named w ↦ search rules
      | in_default-via-in_default w ↦ search rules
    ] in
    absurd (cc (failing, beyond.serves))
