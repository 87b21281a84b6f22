-- The text is cut at the first newline that is found.
use Rattle.dump_replay.proofs.Cuts.{found_cut, not_cut}
use Rattle.dump_replay.proofs.line_ends.cut_line.Goals as goal

pub returns-in_err-end : goal.returns-in_err-end
returns-in_err-end c = rw c.from_residual.ensures
    (λ line rest cut. not_cut c.args.text.now line rest c.in_err-end.ensures cut)

pub returns : goal.returns
returns c = found_cut c.args.text.now c.split_at.result.0.now c.split_at.result.1.now c.in_ok-end.end
    c.in_ok-end.ensures.0 c.in_ok-end.ensures.1 c.split_at.ensures.front c.split_at.ensures.back
    c.split_at.ensures.front_len
