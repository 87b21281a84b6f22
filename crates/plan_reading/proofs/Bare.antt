-- No text of a node has an equals sign or a newline in it.
use Rattle.std.proofs.Common.{ℕ, Bool, true, false, List, [], ◌++◌, Option, Some, None, IfSome, refl, decimal}
use Rattle.std.specs.Prelude.{codes, ◌==◌, if◌then◌else◌}
use Rattle.std.specs.Option.{option_map}
use Rattle.query_core.specs.declared.query.Query.{Query}
use Rattle.query_core.specs.declared.expressions.Access.{Access}
use Rattle.query_core.specs.declared.expressions.Access.TheVariants.{Direct, Index}
use Rattle.request_props.specs.Numbered.{list_of, order_of}
use Rattle.query_text.specs.Columns.{table_text}
use Rattle.query_text.specs.Lists.{order_text, list_text}
use Rattle.query_text.specs.Names.{physical_name}
use Rattle.plan_space.specs.Lines.{is_replicated}
use Rattle.plan_space.specs.Ways.{way_of}
use Rattle.plan_space.specs.declared.modes.Mode.{Mode}
use Rattle.plan_space.specs.declared.modes.Mode.TheVariants as modes
use Rattle.plan_space.specs.declared.nodes.Enforcer.{Enforcer}
use Rattle.plan_space.specs.declared.nodes.Enforcer.TheVariants as enforcers
use Rattle.plan_space.specs.declared.ways.Kept.{Kept}
use Rattle.plan_space.specs.declared.ways.Kept.TheVariants.{Rows, SpreadRows}
use Rattle.plan_space.specs.declared.ways.JoinBy.{JoinBy}
use Rattle.plan_space.specs.declared.ways.JoinBy.TheVariants as joins
use Rattle.plan_space.specs.declared.ways.Way.{Way}
use Rattle.plan_space.specs.declared.ways.Way.TheVariants.{Reads, Passes, Joins, Groups}
use Rattle.plan_lines.specs.Text.{hash_mode_text, merge_mode_text, loop_mode_text, join_mode_text, agg_mode_text}
use Rattle.plan_lines.specs.Text.{only_mode_text, read_mode_text, bracketed, place_text, kept_text, behind_name}
use Rattle.plan_lines.specs.Text.{operator_text, enforcer_text, text_if_any}
use Rattle.plan_reading.specs.Named.{named_text}
use Rattle.plan_reading.specs.declared.named.Named.{Named}
use Rattle.plan_reading.specs.declared.named.Named.TheVariants as named
use Rattle.plan_reading.proofs.BareWords.{IsBare, bare_append, decimal_bare, table_bare, list_bare, order_bare}
use Rattle.plan_reading.proofs.OperatorRows.{is_name}

module _ (q : Query) where
  -- a word, and behind it what is bare
  and_bare : (word rest : List ℕ) → IsBare word → IsBare rest → IsBare (word ++ rest)
  and_bare word rest in_word in_rest = bare_append word rest in_word in_rest

  -- in brackets
  bracketed_bare : (inner : List ℕ) → IsBare inner → IsBare (bracketed inner)
  bracketed_bare inner in_inner = bare_append (codes "(" ++ inner) (codes ")") (bare_append (codes "(") inner refl in_inner) refl

  -- each text that is there is bare
  abbrev IsBareIfAny : Option (List ℕ) → Type 0
  IsBareIfAny text = IfSome text IsBare

  tested_bare : (test : Bool) (text : List ℕ) → IsBare text → IsBareIfAny (if test then Some text else None)
  tested_bare true text bare = bare
  tested_bare false text bare = tt

  mapped_bare : (f : List ℕ → List ℕ) (text : Option (List ℕ)) → ((t : List ℕ) → IsBare t → IsBare (f t)) → IsBareIfAny text
      → IsBareIfAny (option_map f text)
  mapped_bare f None keeps bare = tt
  mapped_bare f (Some text) keeps bare = keeps text bare

  equality_bare : (word : List ℕ) (n : ℕ) → IsBare word → IsBare (word ++ decimal n)
  equality_bare word n in_word = bare_append word (decimal n) in_word (decimal_bare n)

  hash_bare : (m : Mode) → IsBareIfAny (hash_mode_text m)
  hash_bare (modes.Plain n) = tested_bare (n == 0) (codes "one") refl
  hash_bare (modes.Copied n) = tested_bare (n == 0) (codes "copied") refl
  hash_bare (modes.Hashed n) = equality_bare (codes "colocated p") n refl

  merge_bare : (m : Mode) → IsBareIfAny (merge_mode_text m)
  merge_bare (modes.Plain n) = equality_bare (codes "one p") n refl
  merge_bare (modes.Copied n) = equality_bare (codes "copied p") n refl
  merge_bare (modes.Hashed n) = equality_bare (codes "colocated p") n refl

  loop_bare : (m : Mode) → IsBareIfAny (loop_mode_text m)
  loop_bare (modes.Plain n) = tested_bare (n == 0) (codes "one") refl
  loop_bare (modes.Copied n) = tested_bare (n == 0) (codes "copied") refl
  loop_bare (modes.Hashed n) = tt

  join_bare : (by : JoinBy) (m : Mode) → IsBareIfAny (join_mode_text by m)
  join_bare joins.Hashing m = hash_bare m
  join_bare joins.Merging m = merge_bare m
  join_bare joins.Looping m = loop_bare m

  agg_bare : (m : Mode) → IsBareIfAny (agg_mode_text q m)
  agg_bare (modes.Plain n) = tested_bare (n == 0) (codes "one") refl
  agg_bare (modes.Copied n) = tt
  agg_bare (modes.Hashed n) = and_bare (codes "hashed ") (list_text q (list_of q n)) refl (list_bare q (list_of q n))

  only_bare : (text : List ℕ) (m : Mode) → IsBare text → IsBareIfAny (only_mode_text text m)
  only_bare text (modes.Plain n) bare = tested_bare (n == 0) text bare
  only_bare text (modes.Copied n) bare = tt
  only_bare text (modes.Hashed n) bare = tt

  replica_bare : (own one copies : Bool)
      → IsBareIfAny (if own then Some (codes " own") else if one then Some (codes " one")
      else if copies then Some (codes " copies") else None)
  replica_bare true one copies = refl
  replica_bare false true copies = refl
  replica_bare false false true = refl
  replica_bare false false false = tt

  several_bare : (several : Bool) (n : ℕ) → IsBareIfAny (read_mode_text several (modes.Plain n))
  several_bare true n = replica_bare (n == 0) (n == 1) (n == 2)
  several_bare false n = tested_bare (n == 0) [] refl

  read_bare : (several : Bool) (m : Mode) → IsBareIfAny (read_mode_text several m)
  read_bare several (modes.Plain n) = several_bare several n
  read_bare several (modes.Copied n) = tt
  read_bare several (modes.Hashed n) = tt

  place_bare : (t : ℕ) (access : Access) → IsBare (place_text q t access)
  place_bare t Direct = table_bare q t
  place_bare t (Index i) = bare_append (table_text q t ++ codes ", i") (decimal i)
      (bare_append (table_text q t) (codes ", i") (table_bare q t) refl) (decimal_bare i)

  kept_bare : (t : ℕ) (kept : Kept) → IsBare (kept_text q t kept)
  kept_bare t Rows = bracketed_bare (table_text q t) (table_bare q t)
  kept_bare t SpreadRows = refl

  behind_bare : (way : Way) (t : ℕ) (m : Mode) → IsBareIfAny (behind_name q way t m)
  behind_bare (Reads access) t m = mapped_bare (λ read. bracketed (place_text q t access ++ read))
      (read_mode_text (is_replicated q t) m)
      (λ read bare. bracketed_bare (place_text q t access ++ read) (and_bare (place_text q t access) read (place_bare t access) bare))
      (read_bare (is_replicated q t) m)
  behind_bare (Passes kept child) t m = only_bare (kept_text q t kept) m (kept_bare t kept)
  behind_bare (Joins by left right) t m = mapped_bare bracketed (join_mode_text by m) bracketed_bare (join_bare by m)
  behind_bare (Groups by child) t m = mapped_bare bracketed (agg_mode_text q m) bracketed_bare (agg_bare m)

  if_any_bare : (text : Option (List ℕ)) → IsBareIfAny text → IsBare (text_if_any text)
  if_any_bare None bare = refl
  if_any_bare (Some text) bare = bare

  enforcer_bare : (e : Enforcer) → IsBare (enforcer_text q e)
  enforcer_bare enforcers.Gather = refl
  enforcer_bare enforcers.Broadcast = refl
  enforcer_bare (enforcers.Sort o) = and_bare (codes "Sort(" ++ order_text q (order_of q o)) (codes ")")
      (and_bare (codes "Sort(") (order_text q (order_of q o)) refl (order_bare q (order_of q o))) refl
  enforcer_bare (enforcers.GatherMerge o) = and_bare (codes "GatherMerge(" ++ order_text q (order_of q o)) (codes ")")
      (and_bare (codes "GatherMerge(") (order_text q (order_of q o)) refl (order_bare q (order_of q o))) refl
  enforcer_bare (enforcers.Redistribute h) = and_bare (codes "Redistribute(" ++ list_text q (list_of q h)) (codes ")")
      (and_bare (codes "Redistribute(") (list_text q (list_of q h)) refl (list_bare q (list_of q h))) refl

  pub named_bare : (n : Named) → IsBare (named_text q n)
  named_bare (named.Native o t m) = if_any_bare (operator_text q o t m)
      (mapped_bare (λ behind. physical_name o ++ behind) (behind_name q (way_of o) t m)
      (λ behind bare. bare_append (physical_name o) behind (is_name o).bare bare) (behind_bare (way_of o) t m))
  named_bare (named.Enforcer e) = enforcer_bare e
