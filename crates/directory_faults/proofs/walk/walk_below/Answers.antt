use Rattle.std.proofs.Common.{Contains, List, subst}
use Rattle.fileset_shapes.specs.domain_base.declared.place.Tag.{Tag}
use Rattle.directory_faults.specs.Walk.{Notes}
use Rattle.directory_faults.proofs.Walked.{below_by_children}
use Rattle.directory_faults.proofs.walk.walk_below.Goals as goal

pub returns-clause-below : goal.returns-clause-below
returns-clause-below c =
    let none = c.no_walk-walk.result in
    let first = c.note_tags.new.walk in
    let notes = subst (λ (l : List Tag). Notes (Contains l) none first) c.children_of.ensures c.in_ok-note_tags.ensures in
    below_by_children c.args.children.now c.args.dir none first c.go_on.new.walk c.no_walk-walk.ensures.none notes (c.in_ok-go_on.ensures (notes.listed c.no_walk-walk.ensures.listed)).1
