-- The endings of lines, and the text of a batch that is made of them.
use Rattle.std.proofs.Common.{◌≡◌, ℕ, suc, ◌+◌, List, [], ◌∷◌, ◌++◌, length}
use Rattle.std.proofs.Common.{map, Some, None, Vec, refl, sym, ap, ◌∙◌, arith}
use Rattle.std.proofs.Common.{append_assoc, subst}
use Rattle.std.specs.Prelude.{slice_get, vec_len}
use Rattle.std.proofs.lemmas.List.{append-nil, length-map, map-append}
use Rattle.std.proofs.lemmas.List.Concat.{flat_map-append}
use Rattle.std.specs.declared.alloc.Global.{Global}
use Rattle.batch_pool.specs.Runs.{IsRunOf}
use Rattle.batch_pool.specs.declared.places.PoolRun.{PoolRun}
use Rattle.query_core.specs.declared.catalog.Catalog.{Catalog}
use Rattle.command_line.specs.declared.settings.Settings.{Settings}
use Rattle.orca_cli.specs.Batches.{LineEnd, IsLineEnd, AreLineEnds, batch_line, query_line, texts_from, IsBatch}
use Rattle.orca_cli.specs.Lists.{lines_of, list_cause}
use Rattle.orca_cli.specs.Items.{EndsItem}
use Rattle.orca_cli.specs.Views.{bytes_of_texts, line_end, text_of}
use Rattle.orca_cli.specs.declared.ending.Ending.{Ending}
use Rattle.orca_cli.specs.declared.status.Status.TheVariants.{Planned}

-- the text of one query more is behind the others
pub texts_push : (n k : ℕ) (ends : List LineEnd) (end : LineEnd) → k ≡ n + length ends
    → texts_from n (ends ++ end ∷ []) ≡ texts_from n ends ++ (query_line k end.status ++ end.text)
texts_push n k [] end is =
    let same : n ≡ k = omega (arith, is) in
    append-nil (query_line n end.status ++ end.text) ∙ ap (λ (j : ℕ). query_line j end.status ++ end.text) same
texts_push n k (first ∷ more) end is =
    let front = query_line n first.status ++ first.text in
    ap (λ l. front ++ l) (texts_push (suc n) k more end (omega (arith, is)))
    ∙ sym (append_assoc front (texts_from (suc n) more) (query_line k end.status ++ end.text))

-- the text of one ending more is behind the others
pub endings_push : (front : List ℕ) (seen : List Ending) (ending : Ending) (k : ℕ) (old line mid new : List ℕ)
    → old ≡ front ++ texts_from 0 (map line_end seen) → k ≡ length seen → line ≡ query_line k ending.status
    → mid ≡ old ++ line → new ≡ mid ++ text_of ending
    → new ≡ front ++ texts_from 0 (map line_end (seen ++ ending ∷ []))
endings_push front seen ending k old line mid new is_old count is_line is_mid is_new =
    let ends = map line_end seen in
    let last = query_line k ending.status ++ text_of ending in
    let counted : k ≡ 0 + length ends = let long = length-map seen line_end in omega (arith, count, long) in
    is_new ∙ ap (λ b. b ++ text_of ending) (is_mid ∙ ap (λ b. b ++ line) is_old)
    ∙ ap (λ l. ((front ++ texts_from 0 ends) ++ l) ++ text_of ending) is_line
    ∙ append_assoc (front ++ texts_from 0 ends) (query_line k ending.status) (text_of ending)
    ∙ append_assoc front (texts_from 0 ends) last
    ∙ ap (λ l. front ++ l) (sym (texts_push 0 k ends (line_end ending) counted)
    ∙ ap (texts_from 0) (sym (map-append line_end seen (ending ∷ []))))

-- the bytes of one text more are behind those of the others
pub bytes_push : (texts : List (Vec ℕ Global)) (text : Vec ℕ Global)
    → bytes_of_texts (texts ++ text ∷ []) ≡ bytes_of_texts texts ++ text.items
bytes_push texts text = flat_map-append (λ (t : Vec ℕ Global). t.items) texts (text ∷ [])
    ∙ ap (λ b. bytes_of_texts texts ++ b) (append-nil text.items)

module _ (catalog : Catalog) (settings : Settings) where
  -- lines whose endings stand at their places end so
  pub ends_of_each : (lines : List (List ℕ)) (endings : List Ending) → length endings ≡ length lines
      → ((i : ℕ) (ending : Ending) → slice_get endings i ≡ Some ending → (line : List ℕ)
      → slice_get lines i ≡ Some line → IsLineEnd catalog settings line (line_end ending))
      → AreLineEnds catalog settings lines (map line_end endings)
  ends_of_each [] [] as_many each = refl
  ends_of_each [] (ending ∷ more) as_many each = absurd (omega (arith, as_many))
  ends_of_each (line ∷ lines) [] as_many each = absurd (omega (arith, as_many))
  ends_of_each (line ∷ lines) (ending ∷ endings) as_many each = (
    each 0 ending refl line refl,
    ends_of_each lines endings (omega (arith, as_many)) (λ i e here l there. each (suc i) e here l there),
  )

  -- a batch whose lines were run has their endings
  pub batch_of_run : (list : List ℕ) (lines : List (List ℕ)) (workers : ℕ) (run : PoolRun Ending) (made : Ending)
      → lines ≡ lines_of list → list_cause settings.capacity list ≡ None
      → IsRunOf (length lines) (EndsItem (record { catalog = catalog; settings = settings; lines = lines })) workers run
      → made.status ≡ Planned
      → text_of made ≡ batch_line (vec_len run.outputs) ++ texts_from 0 (map line_end run.outputs.items)
      → IsBatch catalog settings list made.status (text_of made)
  batch_of_run list lines workers run made read usable is done text =
      let as_many = is.outputs_len in
      let ok = run.outputs.ok in
      let count : vec_len run.outputs ≡ length (lines_of list) = is.outputs_len ∙ ap length read in
      record {
        done = done;
        usable = usable;
        ends = map line_end run.outputs.items;
        are_ends = subst (λ ls. AreLineEnds catalog settings ls (map line_end run.outputs.items)) read
            (ends_of_each lines run.outputs.items (omega (arith, as_many, ok)) is.outputs);
        is_text = text ∙ ap (λ (n : ℕ). batch_line n ++ texts_from 0 (map line_end run.outputs.items)) count;
      }
