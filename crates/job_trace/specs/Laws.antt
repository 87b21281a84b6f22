-- What all traces have in common.
use Rattle.std.specs.Prelude.{ℕ, ◌≡◌, ◌≤◌, ◌++◌, List, length}
use Rattle.query_core.specs.declared.query.Query.{Query}
use Rattle.request_props.specs.Numbered.{lists_of, orders_of}
use Rattle.job_trace.specs.Trace.{IsTraceLine, IsTraceText}

-- where a query has at most 60 hashed lists and orders, words have one trace
abbrev pub TracesAreOne : Query → Type 0
TracesAreOne q = length (lists_of q) ≤ 60 → length (orders_of q) ≤ 60 → (members goals text other : List ℕ)
    → IsTraceText q members goals text → IsTraceText q members goals other → text ≡ other

-- which begins with the first line of its goals
abbrev pub TracesBegin : Query → Type 0
TracesBegin q = length (lists_of q) ≤ 60 → length (orders_of q) ≤ 60 → (members goals text line : List ℕ)
    → IsTraceText q members goals text → IsTraceLine goals line → (rest : List ℕ) × (text ≡ line ++ rest)
