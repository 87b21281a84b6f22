-- The query with other options, and that its joins can give the same.
use Rattle.std.proofs.Common.{◌≡◌, ◌↔◌, ℕ, List, [], Option, None, Some}
use Rattle.std.specs.Prelude.{IfSome}
use Rattle.query_core.specs.Results.{AreOptions}
use Rattle.query_core.specs.declared.query.Query.{Query}
use Rattle.query_core.specs.declared.options.Options.{Options}
use Rattle.query_core.specs.declared.words.KeyParts.{KeyParts}
use Rattle.query_core.specs.declared.expressions.Physical.{Physical}
use Rattle.query_core.specs.declared.expressions.Physical.TheVariants as physical
use Rattle.request_props.specs.Fitting.{HashFits, OrderFits}
use Rattle.request_props.specs.JoinSets.{AreJoinTables, AreSetsFor, AreSetsOf, Merges}
use Rattle.request_props.specs.Numbered.{order_of}
use Rattle.request_props.specs.Satisfied.{BeginsWith}
use Rattle.request_props.specs.declared.tables.join_sets.JoinSets.{JoinSets}
use Rattle.request_props.specs.declared.tables.physical.PhysicalCandidate.{PhysicalCandidate}

-- the query with other options
abbrev pub with : (q : Query) (o : Options) → AreOptions o → Query
with q o v = record q { options = o; options_valid = v }

hash_fits_with : (q : Query) (o : Options) (v : AreOptions o) (group : KeyParts) (list : ℕ) → HashFits q group list
    → HashFits (with q o v) group list
hash_fits_with q o v group list h = record { numbered = h.numbered; lies_in = h.lies_in }

order_fits_with : (q : Query) (o : Options) (v : AreOptions o) (group : KeyParts) (order : ℕ) → OrderFits q group order
    → OrderFits (with q o v) group order
order_fits_with q o v group order h = record { numbered = h.numbered; lies_in = h.lies_in }

join_sets_with : (q : Query) (o : Options) (v : AreOptions o) (left : KeyParts) (IsGiven : ℕ → Type 0)
    (IsGivenWith : ℕ → Type 0) → ((order : ℕ) → IsGiven order ↔ IsGivenWith order) → (sets : JoinSets)
    → AreSetsFor q left IsGiven sets → AreSetsFor (with q o v) left IsGivenWith sets
join_sets_with q o v left IsGiven IsGivenWith same sets h = record {
  lists = λ list. (
    λ has. hash_fits_with q o v left list ((h.lists list).0 has),
    λ fits. (h.lists list).1 (hash_fits_with (with q o v) q.options q.options_valid left list fits),
  );
  orders = λ order numbered. (
    λ has. (same order).0 ((h.orders order numbered).0 has),
    λ is. (h.orders order numbered).1 ((same order).1 is),
  );
}

sets_of_with : (q : Query) (o : Options) (v : AreOptions o) (operator : Physical) (sets : JoinSets)
    → AreSetsOf q operator sets → AreSetsOf (with q o v) operator sets
sets_of_with q o v (physical.HashJoin left right) sets h =
    join_sets_with q o v left (λ order. BeginsWith [] (order_of q order)) (λ order. BeginsWith [] (order_of q order))
    (λ order. (λ none. none, λ none. none)) sets h
sets_of_with q o v (physical.MergeJoin left right) sets h =
    join_sets_with q o v left (Merges q left right) (Merges (with q o v) left right)
    (λ order. (λ merges. merges, λ merges. merges)) sets h
sets_of_with q o v (physical.LoopJoin left right) sets h =
    join_sets_with q o v left (OrderFits q left) (OrderFits (with q o v) left) (λ order. (
      order_fits_with q o v left order,
      order_fits_with (with q o v) q.options q.options_valid left order,
    )) sets h
sets_of_with q o v operator sets never = absurd never

known_sets_with : (q : Query) (o : Options) (v : AreOptions o) (operator : Physical) (sets : Option JoinSets)
    → IfSome sets (AreSetsOf q operator) → IfSome sets (AreSetsOf (with q o v) operator)
known_sets_with q o v operator None none = tt
known_sets_with q o v operator (Some sets) are = sets_of_with q o v operator sets are

pub join_tables_with : (q : Query) (o : Options) (v : AreOptions o) (candidates : List (List PhysicalCandidate))
    (sets : List (List (Option JoinSets))) → AreJoinTables q candidates sets
    → AreJoinTables (with q o v) candidates sets
join_tables_with q o v candidates sets h number k candidate within =
    known_sets_with q o v _ _ (h number k candidate within)
