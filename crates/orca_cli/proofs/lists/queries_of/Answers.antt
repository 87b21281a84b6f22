use Rattle.std.proofs.Common.{◌≡◌, ℕ, List, length, sym, ap, ◌∙◌, arith}
use Rattle.std.specs.Borrow.{Bor}
use Rattle.std.proofs.lemmas.List.{length-map}
use Rattle.orca_cli.specs.Lists.{lines_of, IsListRefused}
use Rattle.orca_cli.proofs.Files.{as_ended, crowded_list}
use Rattle.orca_cli.proofs.lists.queries_of.Goals as goal

-- there are too many lines
pub returns-then-too_many-clause-stops : goal.returns-then-too_many-clause-stops
returns-then-too_many-clause-stops c =
    let lines = c.in_ok-lines.lines in
    let read = ap length c.in_ok-lines.ensures in
    let same = length-map lines.items (λ (line : Bor (List ℕ)). line.now) in
    let ok = lines.ok in
    let counted = c.len.ensures in
    let count : c.len.result ≡ length (lines_of c.args.list.now) = omega (arith, read, same, ok, counted) in
    as_ended (IsListRefused c.args.capacity c.args.list.now) c.in_ok-refused_batch.field-0 _ _
    c.in_ok-refused_batch.ensures
    (crowded_list c.args.capacity c.len.result c.args.list.now c.requires count
    (sym c.too_many.ensures ∙ c.if-too_many.true))
