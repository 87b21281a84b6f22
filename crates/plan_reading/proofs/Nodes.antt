-- No two nodes that a query can name have one text.
use Rattle.std.proofs.Common.{◌≡◌, ℕ, ◌<◌, ◌^◌, ◌↔◌, List, ◌++◌, drop, refl, sym, ap, ◌∙◌, arith}
use Rattle.std.proofs.lemmas.List.{append_cancel_left}
use Rattle.query_core.specs.Expressions.{HasIndex, physical_fields}
use Rattle.query_core.specs.declared.expressions.Access.TheVariants.{Direct, Index}
use Rattle.query_core.specs.declared.expressions.Physical.{Physical}
use Rattle.query_core.specs.declared.query.Query.{Query}
use Rattle.query_text.specs.Names.{physical_name}
use Rattle.request_props.specs.Listing.{listing_of, IsListing}
use Rattle.plan_space.specs.declared.modes.Mode.{Mode}
use Rattle.plan_space.specs.Ways.{way_of}
use Rattle.plan_space.specs.declared.ways.Kept.TheVariants.{Rows, SpreadRows}
use Rattle.plan_space.specs.declared.ways.JoinBy.TheVariants as joins
use Rattle.plan_space.specs.declared.ways.Way.{Way}
use Rattle.plan_space.specs.declared.ways.Way.TheVariants.{Reads, Passes, Joins, Groups}
use Rattle.plan_space.specs.declared.nodes.Enforcer.TheVariants as enforcers
use Rattle.plan_space.specs.declared.nodes.Enforcer.{Enforcer}
use Rattle.plan_check.specs.Nodes.{IsEnforcerOf}
use Rattle.plan_lines.specs.Text.{enforcer_text}
use Rattle.plan_reading.specs.Named.{named_text, HasForm, IsOperatorOf, HasTable, HasModeForm}
use Rattle.plan_reading.specs.declared.named.Named.{Named}
use Rattle.plan_reading.specs.declared.named.Named.TheVariants as named
use Rattle.plan_reading.proofs.Behind.{behind_words, operator_is}
use Rattle.plan_reading.proofs.Marks.{enforcer_kind, kind_in, enforcer_read, enforcer_large, way_sort, way_kind}
use Rattle.plan_reading.proofs.Marks.{way_index}
use Rattle.plan_reading.proofs.OneMode.{agg_one, hash_one, lists_one, loop_one, merge_one, only_one, orders_one}
use Rattle.plan_reading.proofs.OneRead.{indexes_one, reads_one, tables_one}
use Rattle.plan_reading.proofs.OperatorRows.{is_name, number_small, alike, first_same}

module _ (q : Query) (listing : (found lists : List (List ℕ)) → IsListing found lists ↔ (lists ≡ listing_of found))
    (index_few : (t i : ℕ) → HasIndex q t i → i < 2 ^ 64) where
  -- ---- ways of one kind

  record AreOne (v w : Way) (t u : ℕ) (m n : Mode) : Type 0 where
    index : way_index v ≡ way_index w
    table : t ≡ u
    mode : m ≡ n

  -- what stands behind a name tells the table, the index and the mode
  ways_one : (v w : Way) (t u : ℕ) (m n : Mode) → way_sort v ≡ way_sort w → way_kind v ≡ way_kind w → HasTable q v t → HasTable q w u
      → HasModeForm q v t m → HasModeForm q w u n → behind_words q v t m ≡ behind_words q w u n → AreOne v w t u m n
  ways_one (Reads Direct) (Reads Direct) t u m n sort kind of_t of_u in_m in_n same =
      let parts = reads_one q t u m n of_t of_u in_m in_n (ap (drop 1) same) in
      record { index = refl; table = parts.table; mode = parts.mode }
  ways_one (Reads (Index i)) (Reads (Index j)) t u m n sort kind of_t of_u in_m in_n same =
      let parts = indexes_one q index_few t i u j m n of_t of_u in_m in_n (ap (drop 1) same) in
      record { index = parts.index; table = parts.table; mode = parts.mode }
  ways_one (Passes Rows c) (Passes Rows d) t u m n sort kind of_t of_u in_m in_n same =
      record { index = refl; table = tables_one q t u of_t of_u (ap (drop 1) same); mode = only_one m n in_m in_n }
  ways_one (Passes SpreadRows c) (Passes SpreadRows d) t u m n sort kind of_t of_u in_m in_n same =
      record { index = refl; table = of_t ∙ sym of_u; mode = only_one m n in_m in_n }
  ways_one (Joins joins.Hashing l r) (Joins joins.Hashing a b) t u m n sort kind of_t of_u in_m in_n same =
      record { index = refl; table = of_t ∙ sym of_u; mode = hash_one q m n in_m in_n (ap (drop 1) same) }
  ways_one (Joins joins.Merging l r) (Joins joins.Merging a b) t u m n sort kind of_t of_u in_m in_n same =
      record { index = refl; table = of_t ∙ sym of_u; mode = merge_one q m n in_m in_n (ap (drop 1) same) }
  ways_one (Joins joins.Looping l r) (Joins joins.Looping a b) t u m n sort kind of_t of_u in_m in_n same =
      record { index = refl; table = of_t ∙ sym of_u; mode = loop_one m n in_m in_n (ap (drop 1) same) }
  ways_one (Groups by c) (Groups other d) t u m n sort kind of_t of_u in_m in_n same =
      record { index = refl; table = of_t ∙ sym of_u; mode = agg_one q listing m n in_m in_n (ap (drop 1) same) }
  ways_one (Reads a) (Reads b) t u m n sort kind of_t of_u in_m in_n same = absurd (omega (arith, kind))
  ways_one (Passes k c) (Passes l d) t u m n sort kind of_t of_u in_m in_n same = absurd (omega (arith, kind))
  ways_one (Joins by l r) (Joins other a b) t u m n sort kind of_t of_u in_m in_n same = absurd (omega (arith, kind))
  ways_one v w t u m n sort kind of_t of_u in_m in_n same = absurd (omega (arith, sort))

  -- ---- operators and enforcers

  operators_one : (o p : Physical) (t u : ℕ) (m n : Mode) → IsOperatorOf q o t m → IsOperatorOf q p u n
      → named_text q (named.Native o t m) ≡ named_text q (named.Native p u n) → named.Native o t m ≡ named.Native p u n
  operators_one o p t u m n in_o in_p same =
      let texts = sym (operator_is q o t m in_o) ∙ same ∙ operator_is q p u n in_p in
      let both = alike o p (sym ((is_name o).read (behind_words q (way_of o) t m)) ∙ ap kind_in texts
      ∙ (is_name p).read (behind_words q (way_of p) u n)) in
      let behind = append_cancel_left (physical_name p) (behind_words q (way_of o) t m) (behind_words q (way_of p) u n)
      (ap (λ x. x ++ behind_words q (way_of o) t m) (sym both.name) ∙ texts) in
      let one = ways_one (way_of o) (way_of p) t u m n both.sort both.way in_o.has_table in_p.has_table in_o.has_mode in_p.has_mode
      behind in
      ap (λ x. named.Native x t m) (sym (first_same o in_o.over_none) ∙ both.unplaced_one one.index ∙ first_same p in_p.over_none)
      ∙ ap (λ x. named.Native p x m) one.table ∙ ap (named.Native p u) one.mode

  enforcers_one : (a b : Enforcer) → enforcer_kind a ≡ enforcer_kind b → IsEnforcerOf q a → IsEnforcerOf q b
      → enforcer_text q a ≡ enforcer_text q b → a ≡ b
  enforcers_one enforcers.Gather enforcers.Gather kind in_a in_b same = refl
  enforcers_one enforcers.Broadcast enforcers.Broadcast kind in_a in_b same = refl
  enforcers_one (enforcers.Sort o) (enforcers.Sort p) kind in_a in_b same =
      ap enforcers.Sort (orders_one q listing o p in_a in_b (ap (drop 5) same))
  enforcers_one (enforcers.GatherMerge o) (enforcers.GatherMerge p) kind in_a in_b same =
      ap enforcers.GatherMerge (orders_one q listing o p in_a in_b (ap (drop 12) same))
  enforcers_one (enforcers.Redistribute h) (enforcers.Redistribute k) kind in_a in_b same =
      ap enforcers.Redistribute (lists_one q listing h k in_a in_b (ap (drop 13) same))
  enforcers_one a b kind in_a in_b same = absurd (omega (arith, kind))

  -- no operator has the text of an enforcer
  apart : (o : Physical) (t : ℕ) (m : Mode) (e : Enforcer) → IsOperatorOf q o t m
      → named_text q (named.Native o t m) ≡ enforcer_text q e → ⊥
  apart o t m e in_o same =
      let number : (physical_fields o).number ≡ enforcer_kind e =
      sym ((is_name o).read (behind_words q (way_of o) t m)) ∙ ap kind_in (sym (operator_is q o t m in_o) ∙ same)
      ∙ enforcer_read q e in
      let small = number_small o in
      let large = enforcer_large e in
      omega (arith, number, small, large)

  pub named_one : (a b : Named) → HasForm q a → HasForm q b → named_text q a ≡ named_text q b → a ≡ b
  named_one (named.Native o t m) (named.Native p u n) in_a in_b same = operators_one o p t u m n in_a in_b same
  named_one (named.Native o t m) (named.Enforcer e) in_a in_b same = absurd (apart o t m e in_a same)
  named_one (named.Enforcer e) (named.Native o t m) in_a in_b same = absurd (apart o t m e in_b (sym same))
  named_one (named.Enforcer a) (named.Enforcer b) in_a in_b same =
      ap named.Enforcer (enforcers_one a b (sym (enforcer_read q a) ∙ ap kind_in same ∙ enforcer_read q b) in_a in_b same)
