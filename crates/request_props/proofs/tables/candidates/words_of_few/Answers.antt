use Rattle.std.proofs.Common.{subst, sym, None, Some}
use Rattle.request_props.proofs.CandidateLists.{none_yet, one_more, all_found, AreUpTo}
use Rattle.request_props.proofs.tables.candidates.words_of_few.Goals as goal

pub words-init : goal.words-init
words-init c =
    subst (AreUpTo c.args.query.now c.args.group None) (sym c.new-words.ensures)
    (none_yet c.args.query.now c.args.group)

pub words-preserved : goal.words-preserved
words-preserved c =
    let q = c.args.query.now in
    let group = c.args.group in
    subst (AreUpTo q group (Some c.in-Some.next)) (sym c.in_ok-push.ensures.ok)
    (one_more q group c.words.before c.words.words c.in-Some.next c.words.invariant
    (c.in-Some.ensures group (record { number = c.make.ensures.number; known = c.requires })))

pub returns : goal.returns
returns c =
    all_found c.args.query.now c.args.group c.words.before c.words.words c.words.invariant
    (c.in_default.ensures c.args.group (record { number = c.make.ensures.number; known = c.requires }))
