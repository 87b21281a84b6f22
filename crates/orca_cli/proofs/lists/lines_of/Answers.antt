use Rattle.std.proofs.Common.{◌≡◌, [], ◌∷◌, ◌-◌, ◌<◌, ◌==◌, false, length, take, drop, sym, ap, ◌∙◌, arith}
use Rattle.std.proofs.lemmas.Bool.Decides.{nat_tests}
use Rattle.std.proofs.lemmas.List.{append-nil}
use Rattle.orca_cli.specs.Lists.{lines_of}
use Rattle.orca_cli.specs.Views.{lines_read}
use Rattle.orca_cli.proofs.ListLines.{line_cut, line_last, lines_push, behind_feed}
use Rattle.orca_cli.proofs.lists.lines_of.Goals as goal

-- the line up to the first line feed is behind the others
pub loop-end-preserved : goal.loop-end-preserved
loop-end-preserved c =
    let line = c.split_at.result.0.now in
    let behind = c.split_at.result.1.now in
    let whole = c.split_at.ensures.by_index.0 in
    let cut = line_cut c.loop-end.rest.now line behind c.in-Some.end c.in-Some.ensures.0 c.in-Some.ensures.1 whole
    c.split_at.ensures.front_len in
    lines_push c.args.text.now c.loop-end.rest.now (take (length behind - 1) (drop 1 behind)) c.loop-end.lines.items _
    c.split_at.result.0
    c.loop-end.invariant c.in_ok-push.ensures.items
    (ap lines_of whole ∙ cut.lines ∙ ap (λ m. line ∷ lines_of m) (sym (behind_feed behind cut.more cut.feed)))

-- so is the last line
pub returns : goal.returns
returns c =
    let empty : (length c.loop-end.rest.now == 0) ≡ false = sym c.is_empty.ensures ∙ c.if-is_empty.false in
    let some : 0 < length c.loop-end.rest.now = grind (arith, nat_tests, empty) in
    let last = line_last c.loop-end.rest.now (λ k near is. c.in_default.ensures k (omega arith) near is) some in
    sym (lines_push c.args.text.now c.loop-end.rest.now [] c.loop-end.lines.items _ c.loop-end.rest
    c.loop-end.invariant c.in_ok-push-2.ensures.items last ∙ append-nil (lines_read c.push-2.new.self.items))
