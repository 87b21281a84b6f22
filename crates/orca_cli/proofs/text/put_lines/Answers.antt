use Rattle.std.proofs.Common.{◌≤◌, arith}
use Rattle.orca_cli.proofs.Put.{piece_taken, prefix_taken}
use Rattle.orca_cli.proofs.text.put_lines.Goals as goal

-- the lines before were taken whole, and of this one a prefix
pub returns-in-Err-clause-err : goal.returns-in-Err-clause-err
returns-in-Err-clause-err g c =
    let (front, parts, before) = c.loop-rest.invariant.taken in
    prefix_taken _ (g.K.Sink.taken c.loop-rest.out) _ c.args.text.now front c.loop-rest.rest.now parts
    c.split_at.result.0.now c.split_at.result.1.now c.split_at.ensures.by_index.0 before c.in-Err.ensures.err

-- this line was taken too
pub loop-rest-preserved : goal.loop-rest-preserved
loop-rest-preserved g c =
    let (front, parts, before) = c.loop-rest.invariant.taken in
    let later : g.K.Sink.faults c.args.out.now ≤ g.K.Sink.faults c.put.new.self =
    omega (arith, c.loop-rest.invariant.later, c.put.ensures.later) in
    record {
      taken = piece_taken _ (g.K.Sink.taken c.loop-rest.out) _ c.args.text.now front c.loop-rest.rest.now parts
          c.split_at.result.0.now c.split_at.result.1.now c.split_at.ensures.by_index.0 before c.in-Ok.ensures.ok;
      later = later;
    }
