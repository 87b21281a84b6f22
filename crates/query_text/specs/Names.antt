-- The names of operators.
use Rattle.std.specs.Prelude.{ℕ, List, codes}
use Rattle.query_core.specs.declared.expressions.Physical.{Physical}
use Rattle.query_core.specs.declared.expressions.Physical.TheVariants as physical

-- a physical operator's name, as members and the nodes of plans are printed with it
abbrev pub physical_name : Physical → List ℕ
physical_name physical.Scan = codes "Scan"
physical_name (physical.IndexScan index) = codes "IndexScan"
physical_name (physical.Filter child) = codes "Filter"
physical_name (physical.IndexSeek index) = codes "IndexSeek"
physical_name (physical.HashJoin left right) = codes "HashJoin"
physical_name (physical.MergeJoin left right) = codes "MergeJoin"
physical_name (physical.LoopJoin left right) = codes "LoopJoin"
physical_name (physical.HashAgg child) = codes "HashAgg"
physical_name (physical.StreamAgg child) = codes "StreamAgg"
physical_name (physical.PartialAgg child) = codes "PartialAgg"
