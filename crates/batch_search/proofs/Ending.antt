-- The search of the query at one place.
use Rattle.std.proofs.Common.{◌≡◌, ℕ, ◌<◌, List, length, slice_index_or, sym, subst, Result, Ok, Err, IfOk}
use Rattle.std.proofs.lemmas.Option.{slice_get-get_or}
use Rattle.query_core.specs.declared.query.Query.{Query}
use Rattle.request_props.specs.Numbered.{IsProps}
use Rattle.request_props.specs.declared.props.Props.{Props}
use Rattle.batch_search.specs.Batches.{AreProps, EndsItem, EndsListed}
use Rattle.batch_search.specs.declared.outcome.ListedOutcome.{ListedOutcome}

if_ok_as : {X E : Type 0} (P Q : X → Type 0) → ((x : X) → P x → Q x) → (r : Result X E) → IfOk r P → IfOk r Q
if_ok_as P Q follows (Ok x) h = follows x h
if_ok_as P Q follows (Err e) h = tt

-- the props at a place are those of the query there
pub props_here : (queries : List Query) (props : List Props) (item : ℕ) (q : Query) (p : Props) → AreProps queries props
    → item < length queries → IsProps (slice_index_or queries item q) (slice_index_or props item p)
props_here queries props item q p h near =
    h.each item (slice_index_or queries item q) (slice_index_or props item p)
    (slice_get-get_or queries item q near)
    (slice_get-get_or props item p (subst (λ n. item < n) (sym h.as_many) near))

-- what was searched there is what the item gives
pub ends_here : {E : Type 0} (queries : List Query) (capacity item : ℕ) (v : List Query × ℕ) (q : Query)
    (r : Result ListedOutcome E)
    → v ≡ (queries, capacity) → item < length queries → IfOk r (EndsListed (slice_index_or queries item q) capacity)
    → IfOk r (λ outcome. EndsItem v.0 v.1 item outcome)
ends_here queries capacity item v q r is near =
    subst (λ (y : List Query × ℕ). IfOk r (EndsListed (slice_index_or queries item q) capacity)
    → IfOk r (λ outcome. EndsItem y.0 y.1 item outcome)) (sym is)
    (if_ok_as (EndsListed (slice_index_or queries item q) capacity) (λ outcome. EndsItem queries capacity item outcome)
    (λ outcome ends query at.
    let here = slice_get-get_or queries item q near in
    let same : slice_index_or queries item q ≡ query = cc in
    subst (λ k. EndsListed k capacity outcome) same ends) r)
