use Rattle.std.proofs.Common.{◌∷◌, ◌+◌, [], None, length, nat_lt}
use Rattle.std.specs.Option.{option_map_or}
use Rattle.name_commands.specs.domain_base.Limits.{file_bytes}
use Rattle.name_commands.specs.fileset_model.Apply.{write_quota}
use Rattle.name_commands.specs.fileset_model.Paths.{node_at, refuse_if}
use Rattle.name_commands.specs.fileset_values.declared.reply.Refusal.TheVariants.{TooFar}
use Rattle.file_commands.proofs.FileAnswers.{filing_directory}
use Rattle.file_commands.proofs.writing.write_found.Goals as goal

pub returns-in-Directory-clause-ends : goal.returns-in-Directory-clause-ends
returns-in-Directory-clause-ends c = λ all place stands p.
    let offset = c.args.offset in
    let bytes = c.args.bytes.now in
    filing_directory c.args.memory.now all place c.args.at.number c.args.at.tag c.args.at.kind p
    (λ slot. refuse_if (nat_lt file_bytes (offset + length bytes)) TooFar ∷ option_map_or (write_quota slot.tree offset bytes) (node_at slot.tree place.path) None ∷ []) c.in-Directory.is
