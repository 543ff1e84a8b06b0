use Rattle.std.proofs.Common.{◌∙◌, ◌∷◌, [], ap, sym}
use Rattle.name_commands.specs.fileset_model.Paths.{first_refusal, refuse_if}
use Rattle.name_commands.specs.fileset_values.declared.reply.Refusal.TheVariants.{IsDirectory}
use Rattle.name_commands.specs.fileset_values.declared.reply.Reply.TheVariants.{Read}
use Rattle.name_commands.specs.name_space.Names.{is_directory_kind}
use Rattle.name_commands.proofs.PlacedThere.{file_of, read_answer, read_refusal}
use Rattle.file_commands.proofs.looking.read_file.Goals as goal

pub returns-in_ok-bytes-in-File : goal.returns-in_ok-bytes-in-File
returns-in_ok-bytes-in-File c = λ all place p.
    let memory = c.args.memory.now in (
      read_refusal memory all place c.args.at.number c.args.at.tag c.args.at.kind p ∙ ap (λ k. first_refusal (refuse_if (is_directory_kind k) IsDirectory ∷ [])) c.in-File.is,
      ap Read c.from_vec.ensures
          ∙ sym (read_answer memory all place c.args.at.number c.args.at.tag c.args.at.kind p c.args.offset c.args.count (Read c.in_ok-bytes-in-File.bytes.items) (c.in_ok-bytes-in-File.ensures place.path all p.entry p.fileset (file_of memory all place c.args.at.number c.args.at.tag c.args.at.kind p))),
    )
