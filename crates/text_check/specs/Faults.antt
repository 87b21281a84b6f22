-- Faults of lines, as faults of a text.
use Rattle.plan_reading.specs.declared.text.LineFault.{LineFault}
use Rattle.plan_reading.specs.declared.text.LineFault.TheVariants as lines
use Rattle.text_check.specs.declared.fault.TreeFault.{TreeFault}
use Rattle.text_check.specs.declared.fault.TreeFault.TheVariants as trees
use Rattle.text_check.specs.declared.text_fault.TextFault.{TextFault}
use Rattle.text_check.specs.declared.text_fault.TextFault.TheVariants as faults

-- a fault of the lines alone
abbrev pub told : LineFault → TextFault
told (lines.Form line) = faults.Form line
told lines.Memory = faults.Memory

-- a fault of the plan of the lines
abbrev pub told_of_tree : TreeFault → TextFault
told_of_tree (trees.Kids line) = faults.Kids line
told_of_tree trees.Memory = faults.Memory
