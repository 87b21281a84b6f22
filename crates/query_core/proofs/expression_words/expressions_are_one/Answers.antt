use Rattle.query_core.proofs.GroupLemmas.{key_one}
use Rattle.query_core.proofs.ExpressionLemmas.{word_one, word_small, word_ordered}
use Rattle.query_core.proofs.expression_words.expressions_are_one.Goals as goal

pub returns : goal.returns
returns c = record { expressions = word_one; groups = key_one; small = word_small; ordered = word_ordered }
