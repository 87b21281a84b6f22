use Rattle.std.proofs.Common.{◌≡◌, ℕ, List, ◌<◌, ◌++◌, ◌+◌, rules, ap, sym, subst, ◌∙◌, arith, codes, drop, get_or}
use Rattle.std.proofs.Common.{length, string_bytes, true≢false}
use denote.Text.{Utf8}
use denote.Shadow.{shadow}
use Rattle.query_core.specs.Sets.{Has}
use Rattle.job_trace.specs.Groups.{tables_in}
use Rattle.job_trace.proofs.Sets.{behind, behind_nothing, behind_one, behind_other}
use Rattle.job_trace.proofs.groups.push_set.Goals as goal
use Rattle.job_trace.proofs.groups.push_set.Goals.{then-has+in_ok-push_str+in_ok-push_str-2, else-has}

-- the bytes are those of a text
abbrev IsText : List ℕ → Type 0
IsText bytes = shadow (Utf8 bytes)

-- before the first table, all are left
pub loop-place-init : goal.loop-place-init
loop-place-init c =
    let tables = tables_in c.args.set 0 c.args.query.now.tables in
    (search rules, ap (λ all. string_bytes c.args.text.now ++ all) (behind_nothing tables))

-- a table of the set is put down, and another one isn't
pub loop-place-preserved : goal.loop-place-preserved
loop-place-preserved c =
    let set = c.args.set in
    let place = c.loop-place.place in
    let tables = c.args.query.now.tables in
    let table = c.table-item.result in
    let text = string_bytes c.loop-place.text in
    let rest = tables_in set (place + 1) (drop (place + 1) tables) in
    let within : place < length tables = omega
    (arith, c.loop-place-test.true, ap length c.as_slice-table-items.ensures) in
    let is : table ≡ get_or tables place table = c.table-item.is
    ∙ ap (λ ts. get_or ts place table) c.as_slice-table-items.ensures in
    elim c.if-has.branch [
      | then-has+in_ok-push_str+in_ok-push_str-2 w ↦
          let comma : c.if-has.separator.now ≡ codes ", " = ap (λ r. r.now) w.separator-is in
          let has : Has set place = (w.if-has.ensures).0 (search rules) in
          let more : string_bytes c.if-has.text ≡ (text ++ c.loop-place.separator.now) ++ table.alias =
          ap string_bytes w.text-is ∙ cc (
            w.in_ok-push_str.ensures.bytes,
            w.in_ok-push_str-2.ensures.bytes,
            w.as_str.ensures,
          ) in
          let one = behind_one set place tables table within is text c.loop-place.separator.now
          (string_bytes c.if-has.text) has more in (
            subst IsText (sym comma) (search rules),
            ap (λ s. string_bytes c.if-has.text ++ behind s rest) comma
                ∙ sym one ∙ c.loop-place.invariant.1,
          )
      | else-has w ↦
          let same = ap (λ r. r.now) w.separator-is in
          let other = behind_other set place tables table within is
          (λ has. true≢false (sym ((w.if-has.ensures).1 has))) in (
            subst IsText (sym same) c.loop-place.invariant.0,
            ap (λ s. string_bytes s ++ behind c.if-has.separator.now rest) w.text-is
                ∙ ap (λ s. string_bytes c.loop-place.text ++ behind s rest) same
                ∙ ap (λ ts. string_bytes c.loop-place.text ++ behind c.loop-place.separator.now ts) (sym other)
                ∙ c.loop-place.invariant.1,
          )
    ]
