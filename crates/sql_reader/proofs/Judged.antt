-- The parser's answer, judged: a query without a fault in its tokens, or the first fault of the tokens.
use Rattle.std.proofs.Common.{◌≡◌, ℕ, ◌≤◌, List, [], ◌∷◌, ◌++◌, Result, Ok, Err, inl, inr, refl, sym, ap, subst, ◌∙◌}
use Rattle.std.proofs.Common.{append_assoc, arith}
use Rattle.std.proofs.lemmas.List.{append-nil}
use Rattle.sql_reader.specs.declared.tokens.Token.{Token}
use Rattle.sql_reader.specs.declared.faults.Limit.{Limit}
use Rattle.sql_reader.specs.declared.faults.SqlFault.{SqlFault}
use Rattle.sql_reader.specs.declared.faults.SqlFault.TheVariants as faults
use Rattle.sql_reader.specs.declared.syntax.Select.{Select}
use Rattle.sql_reader.specs.Query.{IsQuery}
use Rattle.orca_base.specs.Checked.{◌>>=◌}
use Rattle.sql_reader.specs.Steps.{Step, Stopped, unexpected, too_many}
use Rattle.sql_reader.specs.Reading.{all_read, query_at, parse_at}
use Rattle.sql_reader.specs.Faults.{CanGoOn, place}
use Rattle.sql_reader.specs.Outcome.{fault_at}
use Rattle.sql_reader.proofs.Exact.{GoesOn, Found, Breaks, Overflows, Answers}
use Rattle.sql_reader.proofs.WholeQuery.{OverAny, exceeds_over, query_exact}
use Rattle.sql_reader.proofs.Prefixes.{Rising}
use Rattle.sql_reader.proofs.Parsed.{Reads, IsTokenFault, First, no_query, no_longer, full_behind, unexpected_is_first}
use Rattle.sql_reader.proofs.Parsed.{no_other, too_many_is_first}

module _ (tokens : List Token) (rest : List ℕ) (len : ℕ) where
  -- the fault is the first of the tokens, or stands at the end though bytes follow, and then the tokens have no fault
  pub data Judged (f : SqlFault) : Type 0 where
    real : IsTokenFault tokens rest len f → ((g : SqlFault) → IsTokenFault tokens rest len g → First f g) → Judged f
    past : (rest ≡ [] → ⊥) → place f ≡ len → ((g : SqlFault) → IsTokenFault tokens rest len g → ⊥) → Judged f

  abbrev pub Verdict : Result Select Stopped → Type 0
  Verdict (Ok s) = Reads tokens s
  Verdict (Err stopped) = Judged (fault_at stopped len)

  module _ (high : ℕ) (rising : Rising 0 tokens high) (below : high ≤ len) where
    all_of : (x : Select) → Found IsQuery OverAny query_at tokens x [] → Reads tokens x
    all_of x a = record {
      query = subst (λ (ts : List Token). IsQuery ts x) (sym (a.whole ∙ append-nil a.front)) a.member;
      within = λ w h. a.within w (exceeds_over w x h);
    }

    left : (x : Select) (t : Token) (others : List Token) → Found IsQuery OverAny query_at tokens x (t ∷ others)
        → Judged (faults.Grammar t.at)
    left x t others a =
        let ended : a.front ++ [] ≡ a.front = append-nil a.front in
        let whole : tokens ≡ (a.front ++ []) ++ t ∷ others = rw ended a.whole in
        let member : IsQuery ((a.front ++ []) ++ []) x = rw (append-nil (a.front ++ []), ended) a.member in
        let goes : GoesOn IsQuery OverAny a.front =
        record { more = []; value = x; member = rw ended a.member; within = a.within } in
        let not : CanGoOn (a.front ++ t ∷ []) → ⊥ = λ c.
        (let e : (a.front ++ t ∷ []) ++ c.0 ≡ a.front ++ t ∷ c.0 = append_assoc a.front (t ∷ []) c.0 in
        no_longer (a.front ++ t ∷ c.0) c.0 t x c.1 (a.local (t ∷ c.0) refl) (rw e at c.2)) in
        real (inl (a.front, t, (others, a.whole, refl), not))
        (unexpected_is_first tokens rest len high rising below a.front [] (omega arith) goes [] x member t others whole)

    ended : (a : Breaks IsQuery OverAny query_at tokens []) → query_at tokens ≡ Err (unexpected []) → (bytes : List ℕ)
        → rest ≡ bytes → Judged (faults.Grammar len)
    ended a e bytes r =
        let whole : tokens ≡ a.front ++ a.last =
        a.whole ∙ ap (λ (ts : List Token). a.front ++ ts) (append-nil a.last) in
        let member : IsQuery ((a.front ++ a.last) ++ a.more) a.value =
        rw (append_assoc a.front a.last a.more) a.member in
        by whole member bytes r
      where
        by : tokens ≡ a.front ++ a.last → IsQuery ((a.front ++ a.last) ++ a.more) a.value → (bytes : List ℕ)
            → rest ≡ bytes → Judged (faults.Grammar len)
        by whole member [] r = real (inr (r, refl, λ s q. no_query tokens [] s e q))
            (λ g h. inl (sym (no_other tokens rest len high rising below a.front a.last a.short a.goes a.more a.value
            member whole g h).1))
        by whole member (b ∷ bytes) r = past (λ k. let m : b ∷ bytes ≡ [] = sym r ∙ k in cc) refl
            (λ g h. let k = (no_other tokens rest len high rising below a.front a.last a.short a.goes a.more a.value
            member whole g h).0 in let m : b ∷ bytes ≡ [] = sym r ∙ k in cc)

    broken : (t : Token) (others : List Token) → Breaks IsQuery OverAny query_at tokens (t ∷ others)
        → Judged (faults.Grammar t.at)
    broken t others a =
        let whole : tokens ≡ (a.front ++ a.last) ++ t ∷ others =
        rw (append_assoc a.front a.last (t ∷ others)) a.whole in
        let member : IsQuery ((a.front ++ a.last) ++ a.more) a.value =
        rw (append_assoc a.front a.last a.more) a.member in
        let not : CanGoOn ((a.front ++ a.last) ++ t ∷ []) → ⊥ = λ c.
        (let e : ((a.front ++ a.last) ++ t ∷ []) ++ c.0 ≡ a.front ++ (a.last ++ t ∷ c.0) = simp append_assoc in
        no_query (a.front ++ (a.last ++ t ∷ c.0)) (t ∷ c.0) c.1 (a.local (t ∷ c.0) refl) (rw e at c.2)) in
        real (inl (a.front ++ a.last, t, (others, whole, refl), not))
        (unexpected_is_first tokens rest len high rising below a.front a.last a.short a.goes a.more a.value member t
        others whole)

    overflown : (w : Limit) (after : List Token) → Overflows IsQuery OverAny query_at w tokens after
        → Judged (fault_at (too_many w after) len)
    overflown w after a =
        let whole : tokens ≡ a.front ++ a.last ∷ a.next ∷ a.others =
        a.whole ∙ ap (λ (ts : List Token). a.front ++ a.last ∷ ts) a.rest_is in
        let behind : tokens ≡ (a.front ++ a.last ∷ []) ++ a.next ∷ a.others =
        whole ∙ sym (append_assoc a.front (a.last ∷ []) (a.next ∷ a.others)) in
        let full = full_behind (a.front ++ a.last ∷ []) w
        (λ ts. rw (append_assoc a.front (a.last ∷ []) ts) (a.full ts)) in
        let judged : Judged (faults.TooMany w a.next.at) =
        real (a.front ++ a.last ∷ [], a.next, (a.others, behind, refl), full)
        (too_many_is_first tokens rest len high rising below w a.front a.last a.goes a.next a.others a.more a.value
        a.member a.alone whole) in
        subst (λ (ts : List Token). Judged (fault_at (too_many w ts) len)) (sym a.rest_is) judged

    by_answer : (r : Step Select) → query_at tokens ≡ r → Answers IsQuery OverAny query_at tokens r
        → Verdict (r >>= all_read)
    by_answer (Ok (x, [])) e a = all_of x a
    by_answer (Ok (x, t ∷ others)) e a = left x t others a
    by_answer (Err (unexpected [])) e a = ended a e rest refl
    by_answer (Err (unexpected (t ∷ others))) e a = broken t others a
    by_answer (Err (too_many w after)) e a = overflown w after a

    pub verdict : Verdict (parse_at tokens)
    unfolding parse_at
    verdict = by_answer (query_at tokens) refl (query_exact.answers tokens)
