use Rattle.std.proofs.Common.{◌≡◌, ℕ, ◌+◌, ◌<◌, List, ◌++◌, Option, length, drop, get_or, option_map, option_to_list}
use Rattle.std.proofs.Common.{append_assoc, refl, arith}
use Rattle.std.proofs.lemmas.List.{append-nil}
use Rattle.sql_reader.specs.declared.syntax.ColRef.{ColRef}
use Rattle.sql_bind.specs.declared.columns.Column.{Column}
use Rattle.sql_bind.specs.Scope.{FromTable}
use Rattle.sql_bind.specs.Columns.{candidates, column, place_in}
use Rattle.sql_bind.proofs.Each.{next_of}
use Rattle.sql_bind.proofs.columns.candidates.Goals.{in-Some+in_ok-push, in_default}
use Rattle.sql_bind.proofs.columns.candidates.Goals as goal

-- with what the table at place i has, those after it are left
next_found : (reference : ColRef) (sources : List FromTable) (i : ℕ) (source : FromTable) (place : Option ℕ)
    (whole before after : List Column) → i < length sources → source ≡ get_or sources i source
    → place ≡ place_in reference source → before ++ candidates reference i (drop i sources) ≡ whole
    → after ≡ before ++ option_to_list (option_map (column i) place)
    → after ++ candidates reference (i + 1) (drop (i + 1) sources) ≡ whole
next_found reference sources i source place whole before after lt is same so_far added =
    let rest = candidates reference (i + 1) (drop (i + 1) sources) in
    rw (added, same, append_assoc before (option_to_list (option_map (column i) (place_in reference source))) rest)
    (rw (next_of sources i source lt is) at so_far)

-- the column that is found in the table goes last
pub loop-source-preserved : goal.loop-source-preserved
loop-source-preserved c =
    let loop = c.loop-source in
    let at = loop.source-index in
    let added : c.match-place_in.found.items ≡ loop.found.items ++ option_to_list (option_map (column at) c.place_in.result) =
    elim c.match-place_in.branch [
      | in-Some+in_ok-push w ↦ rw (w.found-is, w.in_ok-push.ensures.items, w.in-Some.is, loop.invariant.counted) refl
      | in_default w ↦ rw (w.found-is, w.in_default.is, append-nil loop.found.items) refl
    ] in
    record {
      counted = omega arith;
      found = next_found c.args.reference.now c.args.sources.now at c.source-item.result c.place_in.result _
          loop.found.items c.match-place_in.found.items c.loop-source-test.true c.source-item.is
          c.place_in.ensures.place loop.invariant.found added;
    }
