use Rattle.xform_rules.proofs.words.word_of.Goals as goal

-- the parts of a candidate fit
pub make-requires : goal.make-requires
make-requires c = c.candidates_are_known.ensures.packed c.args.query.now c.args.e c.requires
