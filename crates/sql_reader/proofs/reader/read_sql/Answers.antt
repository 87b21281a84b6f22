use Rattle.std.proofs.Common.{◌≡◌, ◌≤◌, ◌^◌, length, arith, rules}
use Rattle.orca_base.specs.Checked.{Yields}
use Rattle.sql_reader.specs.declared.faults.SqlFault.TheVariants.{Memory}
use Rattle.sql_reader.specs.Reading.{parse_at}
use Rattle.sql_reader.specs.Outcome.{first_bad, stuck_at, earlier, outcome}
use Rattle.sql_reader.proofs.Places.{rest_short}
use Rattle.sql_reader.proofs.Outcomes.{right}
use Rattle.sql_reader.proofs.OneOutcome.{ok_right, err_right}
use Rattle.sql_reader.proofs.ReadableQueries.{ok_readable}
use Rattle.sql_reader.proofs.reader.read_sql.Goals as goal

pub stuck-requires : goal.stuck-requires
stuck-requires c = rest_short c.args.text.now c.in_ok-tokens.tokens.items c.in_ok-tokens.rest.now c.in_ok-tokens.ensures

-- the answer is the outcome of the text's tokens, which is right
pub returns-clause-ok : goal.returns-clause-ok
returns-clause-ok c =
    let text = c.args.text.now in
    let tokens = c.in_ok-tokens.tokens.items in
    let rest = c.in_ok-tokens.rest.now in
    let short : length text ≤ 2 ^ 16 = omega arith in
    let before : c.earlier_fault-before.result ≡ earlier (first_bad 0 text) (stuck_at rest (length text)) =
    search rules in
    let stream : c.of.result ≡ tokens = search rules in
    let answered : Yields Memory (outcome (earlier (first_bad 0 text) (stuck_at rest (length text))) (parse_at tokens)
    (length text)) c.answer.result =
    rw (before, stream) at c.answer.ensures in
    ok_right text tokens rest c.in_ok-tokens.ensures short c.answer.result _ answered
    (right text tokens rest c.in_ok-tokens.ensures short)

pub returns-clause-fault : goal.returns-clause-fault
returns-clause-fault c =
    let text = c.args.text.now in
    let tokens = c.in_ok-tokens.tokens.items in
    let rest = c.in_ok-tokens.rest.now in
    let short : length text ≤ 2 ^ 16 = omega arith in
    let before : c.earlier_fault-before.result ≡ earlier (first_bad 0 text) (stuck_at rest (length text)) =
    search rules in
    let stream : c.of.result ≡ tokens = search rules in
    let answered : Yields Memory (outcome (earlier (first_bad 0 text) (stuck_at rest (length text))) (parse_at tokens)
    (length text)) c.answer.result =
    rw (before, stream) at c.answer.ensures in
    err_right text tokens rest c.in_ok-tokens.ensures short c.answer.result _ answered
    (right text tokens rest c.in_ok-tokens.ensures short)

-- a reading is readable
pub returns-clause-readable : goal.returns-clause-readable
returns-clause-readable c = ok_readable c.args.text.now c.answer.result (returns-clause-ok c)
