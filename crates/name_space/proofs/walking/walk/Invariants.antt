use Rattle.plain_program.specs.fileset_model.declared.fileset.FilesetSlot.{FilesetSlot}
use Rattle.name_space.specs.Names.{Names}
use Rattle.name_space.specs.Walks.{IsClear, IsWayTo}
use Rattle.name_space.proofs.walking.walk.Given as goal

abbrev pub invariant-loop-count : goal.invariant-loop-count
invariant-loop-count g l =
    IsWayTo (g.S.BitfileSet.files l.set) l.path l.count l.dir
    × ((slot : FilesetSlot) → Names (g.S.BitfileSet.files l.set) slot → IsClear slot l.path l.count)
