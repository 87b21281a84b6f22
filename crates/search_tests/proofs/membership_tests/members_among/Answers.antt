use Rattle.search_tests.proofs.membership_tests.members_among.Goals as goal

-- the word is that of an expression that the group can hold
pub in_closure-is_member-requires : goal.in_closure-is_member-requires
in_closure-is_member-requires g c =
    let found = c.requires.sound c.loop-word.word-index 0 c.loop-word-test.true in (found.0, found.1, found.3)
