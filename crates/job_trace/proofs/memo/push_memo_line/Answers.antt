use Rattle.std.proofs.Common.{ℕ, List, ◌++◌, codes, string_bytes}
use Rattle.job_trace.specs.Counts.{counted}
use Rattle.job_trace.proofs.Adding.{adds_more, adds_last}
use Rattle.job_trace.proofs.memo.push_memo_line.Goals as goal

-- the pieces in their order
pub returns : goal.returns
returns c =
    let start = string_bytes c.args.text.now in
    let groups : List ℕ = counted (codes "memo groups=") c.args.groups in
    let members : List ℕ = counted (codes " members=") c.args.members in
    let both = adds_more start groups (string_bytes c.push_count.new.text) members
    (string_bytes c.push_count-2.new.text) c.in_ok-push_count.ensures.ok c.in_ok-push_count-2.ensures.ok in
    record {
      ok = adds_last c.push_str.result start (groups ++ members) (string_bytes c.push_count-2.new.text)
          (codes "\n") (string_bytes c.push_str.new.self) both c.push_str.ensures.bytes;
    }
