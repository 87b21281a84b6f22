use Rattle.std.proofs.Common.{ℕ, List, ◌++◌, codes, length, string_bytes}
use Rattle.job_trace.specs.Counts.{counted}
use Rattle.job_trace.specs.Trace.{count_of}
use Rattle.job_trace.proofs.Adding.{adds_more, adds_last}
use Rattle.job_trace.proofs.trace.push_trace_line.Goals as goal

-- the pieces in their order
pub returns : goal.returns
returns c =
    let goals = c.args.goals.now in
    let start = string_bytes c.args.text.now in
    let all : List ℕ = counted (codes "trace goals=") (length goals) in
    let exp : List ℕ = counted (codes " exp=") (count_of 0 goals) in
    let expe : List ℕ = counted (codes " expe=") (count_of 1 goals) in
    let xf : List ℕ = counted (codes " xf=") (count_of 2 goals) in
    let imp : List ℕ = counted (codes " imp=") (count_of 3 goals) in
    let impe : List ℕ = counted (codes " impe=") (count_of 4 goals) in
    let opt : List ℕ = counted (codes " opt=") (count_of 5 goals) in
    let opte : List ℕ = counted (codes " opte=") (count_of 6 goals) in
    let to_exp = adds_more start (all) (string_bytes c.push_count.new.text) exp (string_bytes c.push_kind.new.text)
    c.in_ok-push_count.ensures.ok c.in_ok-push_kind.ensures.ok in
    let to_expe = adds_more start (all ++ exp) (string_bytes c.push_kind.new.text) expe
    (string_bytes c.push_kind-2.new.text) to_exp c.in_ok-push_kind-2.ensures.ok in
    let to_xf = adds_more start (all ++ exp ++ expe) (string_bytes c.push_kind-2.new.text) xf
    (string_bytes c.push_kind-3.new.text) to_expe c.in_ok-push_kind-3.ensures.ok in
    let to_imp = adds_more start (all ++ exp ++ expe ++ xf) (string_bytes c.push_kind-3.new.text) imp
    (string_bytes c.push_kind-4.new.text) to_xf c.in_ok-push_kind-4.ensures.ok in
    let to_impe = adds_more start (all ++ exp ++ expe ++ xf ++ imp) (string_bytes c.push_kind-4.new.text) impe
    (string_bytes c.push_kind-5.new.text) to_imp c.in_ok-push_kind-5.ensures.ok in
    let to_opt = adds_more start (all ++ exp ++ expe ++ xf ++ imp ++ impe) (string_bytes c.push_kind-5.new.text) opt
    (string_bytes c.push_kind-6.new.text) to_impe c.in_ok-push_kind-6.ensures.ok in
    let to_opte = adds_more start (all ++ exp ++ expe ++ xf ++ imp ++ impe ++ opt) (string_bytes c.push_kind-6.new.text)
    opte (string_bytes c.push_kind-7.new.text) to_opt c.in_ok-push_kind-7.ensures.ok in
    record {
      ok = adds_last c.push_str.result start (all ++ exp ++ expe ++ xf ++ imp ++ impe ++ opt ++ opte)
          (string_bytes c.push_kind-7.new.text) (codes "\n")
          (string_bytes c.push_str.new.self) to_opte c.push_str.ensures.bytes;
    }
