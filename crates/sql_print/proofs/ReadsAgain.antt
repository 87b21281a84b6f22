-- A canonical text reads as the same query, but for offsets.
use Rattle.std.proofs.Common.{◌≡◌, ℕ, ◌≤◌, List, [], length, refl, sym, ap, subst, ◌∙◌, arith}
use Rattle.std.proofs.lemmas.List.{append-nil, length-map}
use Rattle.sql_reader.specs.declared.tokens.Kind.{Kind}
use Rattle.sql_reader.specs.declared.faults.Limit.{Limit}
use Rattle.sql_reader.specs.declared.faults.Limit.TheVariants as limits
use Rattle.sql_reader.specs.declared.syntax.Select.{Select}
use Rattle.sql_reader.specs.Pieces.{Piece, Are, BeginsWithPiece}
use Rattle.sql_reader.specs.Lexing.{tokens_of, IsLexed}
use Rattle.sql_reader.specs.Faults.{most, count_of, KeepsLimits, Spells}
use Rattle.sql_reader.specs.Readable.{IsReadable}
use Rattle.sql_reader.specs.Spellable.{IsPlain}
use Rattle.sql_reader.proofs.PieceCuts.{shorter}
use Rattle.sql_print.specs.Canonical.{canonical_text}
use Rattle.sql_print.specs.Unplaced.{unplaced}
use Rattle.sql_print.proofs.CanonicalKinds.{kinds_of, query_kinds}
use Rattle.sql_print.proofs.CanonicalQueries.{query_kinds_again}
use Rattle.sql_print.proofs.Printed.{spelled, raw, calls, kinds_are, Safe, Printed, line_are}
use Rattle.sql_print.proofs.CanonicalTexts.{query_printed}

-- ---- a printed text is lexed

nothing_begins : (piece : Piece) (more : List ℕ) → BeginsWithPiece [] piece more → ⊥
nothing_begins piece more h = absurd (let k = shorter [] piece more h in omega (arith, k))

printed_lexed : (text : List ℕ) (ks : List Kind) (p : Printed Safe text ks) → IsLexed text (tokens_of 0 p.pieces) []
printed_lexed text ks p = record {
  pieces = p.pieces;
  cut = record {
    are = subst (λ (t : List ℕ). Are p.pieces t []) (append-nil (spelled p.pieces) ∙ sym p.whole)
        (line_are p.pieces [] (p.line [] (tt, tt)));
    no_more = nothing_begins;
  };
  tokens_are = refl;
}

printed_kinds : (text : List ℕ) (ks : List Kind) (p : Printed Safe text ks) → kinds_of (tokens_of 0 p.pieces) ≡ ks
printed_kinds text ks p =
    kinds_are 0 p.pieces ∙ ap calls (sym (append-nil (raw p.pieces))) ∙ p.calls_are [] tt ∙ append-nil ks

-- ---- the same limits

same_count : (w : Limit) (s t : Select) → unplaced t ≡ unplaced s → count_of w t ≡ count_of w s
same_count limits.Items s t e = let k = ap (λ (x : Select). length x.items) e in
    sym (length-map t.items _) ∙ k ∙ length-map s.items _
same_count limits.Tables s t e = let k = ap (λ (x : Select). length x.from) e in
    sym (length-map t.from _) ∙ k ∙ length-map s.from _
same_count limits.Predicates s t e = let k = ap (λ (x : Select). length x.preds) e in
    sym (length-map t.preds _) ∙ k ∙ length-map s.preds _
same_count limits.GroupBy s t e = let k = ap (λ (x : Select). length x.group_by) e in
    sym (length-map t.group_by _) ∙ k ∙ length-map s.group_by _
same_count limits.OrderBy s t e = let k = ap (λ (x : Select). length x.order_by) e in
    sym (length-map t.order_by _) ∙ k ∙ length-map s.order_by _

-- what is read keeps the limits, and so does the same but for offsets
limits_kept : (s : Select) → IsReadable s → KeepsLimits s
limits_kept s h limits.Items = h.few_items
limits_kept s h limits.Tables = h.few_tables
limits_kept s h limits.Predicates = h.few_preds
limits_kept s h limits.GroupBy = h.few_columns
limits_kept s h limits.OrderBy = h.few_keys

again_kept : (s t : Select) → IsReadable s → unplaced t ≡ unplaced s → KeepsLimits t
again_kept s t h e w = subst (λ (n : ℕ). n ≤ most w) (sym (same_count w s t e)) (limits_kept s h w)

-- ---- the canonical text of what was read

pub record ReadsAgain (s : Select) : Type 0 where
  pub again : Select
  pub spells : Spells (canonical_text s) again
  pub plain : IsPlain (canonical_text s)
  pub same : unplaced again ≡ unplaced s
  pub within : KeepsLimits again

pub reads_again : (s : Select) → IsReadable s → ReadsAgain s
reads_again s h =
    let p = query_printed s h.spellable in
    let q = query_kinds_again s (tokens_of 0 p.pieces) h.spellable
    (printed_kinds (canonical_text s) (query_kinds s) p) in
    record {
      again = q.0;
      spells = record {
        tokens = tokens_of 0 p.pieces;
        lexed = printed_lexed (canonical_text s) (query_kinds s) p;
        query = q.1;
      };
      plain = p.plain;
      same = q.2;
      within = again_kept s q.0 h q.2;
    }
