use Rattle.filesets_reading.specs.domain_base.declared.place.Kind.TheVariants.{Directory}
use Rattle.filesets_reading.specs.name_space.Names.{root_tag}
use Rattle.fileset_shapes.proofs.LedBy.{led_same}
use Rattle.fileset_shapes.proofs.laws.rows_lead_as_names.Goals as goal

pub returns : goal.returns
returns c = λ files rows same path. led_same files rows same (root_tag, Directory) path
