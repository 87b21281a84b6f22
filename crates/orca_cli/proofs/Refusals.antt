-- A text over a catalogue asks for one query, or is refused for one cause, and never both.
use Rattle.std.proofs.Common.{◌≡◌, ℕ, List, Ok, Err, sym, ap, ◌∙◌, subst, inl, inr}
use Rattle.query_core.specs.declared.catalog.Catalog.{Catalog}
use Rattle.query_core.specs.declared.options.Options.{Options}
use Rattle.query_core.specs.declared.query.Query.{Query}
use Rattle.sql_reader.specs.Faults.{IsFirst, IsReading}
use Rattle.sql_reader.specs.declared.faults.SqlFault.{SqlFault}
use Rattle.sql_reader.specs.declared.syntax.Select.{Select}
use Rattle.sql_bind.specs.Binding.{binding, IsQueryOf}
use Rattle.orca_cli.specs.Asked.{IsBoundAs, Asks, IsUnbound, IsUnnumbered, IsRefused}
use Rattle.orca_cli.specs.Texts.{sql_cause, bind_cause, props_cause}
use Rattle.orca_cli.proofs.Limits.{refused_again, within_limits, one_limit}
use Rattle.orca_cli.proofs.OneQuery.{OneLinks, AreAlike, alike_of, alike_same}

-- what the reader of queries promises: a text has one reading, or one first fault, and never both
pub record OneReading : Type 0 where
  pub reading : (text : List ℕ) (a b : Select) → IsReading text a → IsReading text b → a ≡ b
  pub fault : (text : List ℕ) (f g : SqlFault) → IsFirst text f → IsFirst text g → f ≡ g
  pub either : (text : List ℕ) (select : Select) (f : SqlFault) → IsReading text select → IsFirst text f → ⊥

module _ (one : OneReading) (catalog : Catalog) (options : Options) (text : List ℕ) where
  -- two queries that the text is bound to have the same parts
  alike : (q r : Query) → IsBoundAs catalog options text q → IsBoundAs catalog options text r → AreAlike q r
  alike q r is again =
      let select : is.select ≡ again.select = one.reading text is.select again.select is.reading again.reading in
      let read : binding again.select catalog ≡ Ok is.bound.parts =
      subst (λ s. binding s catalog ≡ Ok is.bound.parts) select is.bound.no_fault in
      let read_again : binding again.select catalog ≡ Ok again.bound.parts = again.bound.no_fault in
      let parts : is.bound.parts ≡ again.bound.parts = cc in
      alike_of again.bound.parts catalog options q r (subst (λ p. IsQueryOf p catalog options q) parts is.bound.query)
      again.bound.query

  -- the text is bound to one query
  pub one_query : OneLinks → (q r : Query) → IsBoundAs catalog options text q → IsBoundAs catalog options text r → q ≡ r
  one_query links q r is again = alike_same links q r (alike q r is again)

  -- a text that is bound isn't refused by its names
  bound_or_not : (q : Query) (cause : List ℕ) → IsBoundAs catalog options text q → IsUnbound catalog text cause → ⊥
  bound_or_not q cause is none =
      let select : is.select ≡ none.select = one.reading text is.select none.select is.reading none.reading in
      let read : binding none.select catalog ≡ Ok is.bound.parts =
      subst (λ s. binding s catalog ≡ Ok is.bound.parts) select is.bound.no_fault in
      let refused : binding none.select catalog ≡ Err none.fault = none.first in
      cc

  -- a text that asks for a query isn't refused
  pub never_refused : (q : Query) (cause : List ℕ) → Asks catalog options text q → IsRefused catalog options text cause
      → ⊥
  never_refused q cause asks (inl unread) =
      one.either text asks.bound.select unread.fault asks.bound.reading unread.first
  never_refused q cause asks (inr (inl unbound)) = bound_or_not q cause asks.bound unbound
  never_refused q cause asks (inr (inr many)) =
      within_limits q many.fault asks.within (refused_again many.query q (alike many.query q many.bound asks.bound)
      many.fault many.too_many) many.not_memory

  -- two faults of the names are the same
  one_unbound : (cause other : List ℕ) → IsUnbound catalog text cause → IsUnbound catalog text other → cause ≡ other
  one_unbound cause other is again =
      let select : is.select ≡ again.select = one.reading text is.select again.select is.reading again.reading in
      let refused : binding again.select catalog ≡ Err is.fault =
      subst (λ s. binding s catalog ≡ Err is.fault) select is.first in
      let refused_again : binding again.select catalog ≡ Err again.fault = again.first in
      let fault : is.fault ≡ again.fault = cc in
      is.caused ∙ ap bind_cause fault ∙ sym again.caused

  -- of too many lists or orders one count is told
  one_unnumbered : (cause other : List ℕ) → IsUnnumbered catalog options text cause
      → IsUnnumbered catalog options text other → cause ≡ other
  one_unnumbered cause other is again =
      let many = refused_again again.query is.query (alike again.query is.query again.bound is.bound) again.fault
      again.too_many in
      let fault : is.fault ≡ again.fault = one_limit is.query is.fault again.fault is.too_many many is.not_memory
      again.not_memory in
      is.caused ∙ ap props_cause fault ∙ sym again.caused

  -- a text has one cause
  pub one_cause : (cause other : List ℕ) → IsRefused catalog options text cause → IsRefused catalog options text other
      → cause ≡ other
  one_cause cause other (inl is) (inl again) = is.caused
      ∙ ap sql_cause (one.fault text is.fault again.fault is.first again.first) ∙ sym again.caused
  one_cause cause other (inl is) (inr (inl again)) =
      absurd (one.either text again.select is.fault again.reading is.first)
  one_cause cause other (inl is) (inr (inr again)) =
      absurd (one.either text again.bound.select is.fault again.bound.reading is.first)
  one_cause cause other (inr (inl is)) (inl again) =
      absurd (one.either text is.select again.fault is.reading again.first)
  one_cause cause other (inr (inl is)) (inr (inl again)) = one_unbound cause other is again
  one_cause cause other (inr (inl is)) (inr (inr again)) = absurd (bound_or_not again.query cause again.bound is)
  one_cause cause other (inr (inr is)) (inl again) =
      absurd (one.either text is.bound.select again.fault is.bound.reading again.first)
  one_cause cause other (inr (inr is)) (inr (inl again)) = absurd (bound_or_not is.query other is.bound again)
  one_cause cause other (inr (inr is)) (inr (inr again)) = one_unnumbered cause other is again
