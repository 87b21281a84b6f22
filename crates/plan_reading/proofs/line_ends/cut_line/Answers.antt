-- The text is cut at the end of its longest front without a newline.
use Rattle.plan_reading.proofs.Ended.{cut_found, cut_end}
use Rattle.plan_reading.proofs.line_ends.cut_line.Goals as goal

pub returns-in_err-rest : goal.returns-in_err-rest
returns-in_err-rest c = rw c.from_residual.ensures (λ line rest is. c.in_err-rest.ensures rest
    (cut_end c.args.text.now line c.split_at.result.1.now rest c.inner_len.result c.inner_len.ensures.value
    c.split_at.ensures.back is))

pub returns : goal.returns
returns c = cut_found c.args.text.now c.split_at.result.0.now c.split_at.result.1.now c.in_ok-rest.rest.now
    c.inner_len.result c.inner_len.ensures.value c.split_at.ensures.front c.split_at.ensures.back c.in_ok-rest.ensures
