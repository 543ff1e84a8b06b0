use Rattle.directory_faults.specs.Walk.{Notes}
use Rattle.directory_faults.proofs.Walked.{InFront}
use Rattle.directory_faults.proofs.walk.note_tags.Given as goal

abbrev pub invariant-loop-tag : goal.invariant-loop-tag
invariant-loop-tag l = Notes (InFront l.tags l.tag-index) l.initial.walk l.walk
