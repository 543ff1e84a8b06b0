use Rattle.std.proofs.Common.{◌≡◌, map, take}
use Rattle.fileset_model.specs.Apply.{original_of}
use Rattle.fileset_model.proofs.filesets.Filesets.items.Given as goal

abbrev pub invariant-loop-name : goal.invariant-loop-name
invariant-loop-name l = l.items.items ≡ map (λ e. record { fileset = e.0; original = original_of e.1.role }) (take l.name-index l.name-items)
