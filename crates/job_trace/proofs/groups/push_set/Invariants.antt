use Rattle.std.proofs.Common.{◌≡◌, ◌++◌, drop, string_bytes}
use denote.Text.{Utf8}
use denote.Shadow.{shadow}
use Rattle.job_trace.specs.Groups.{tables_in, set_text}
use Rattle.job_trace.proofs.Sets.{behind}
use Rattle.job_trace.proofs.groups.push_set.Given as goal

-- what was added so far, and behind it the tables from this place on, is the whole
abbrev pub invariant-loop-place : goal.invariant-loop-place
invariant-loop-place l =
    shadow (Utf8 l.separator)
    × (string_bytes l.text ++ behind l.separator (tables_in l.set l.place (drop l.place l.query.tables)) ≡ string_bytes
    l.fn.text ++ set_text l.query l.set)
