use Rattle.std.proofs.Common.{sym}
use Rattle.domain_changes.specs.domain_base.declared.place.Kind.TheVariants.{File}
use Rattle.name_commands.proofs.Listed.{directory_answer, stat_refusal}
use Rattle.name_commands.proofs.PlacedThere.{file_of, placed_as}
use Rattle.name_commands.proofs.listing.stat_at.Goals as goal

pub returns-in-File-clause-replies : goal.returns-in-File-clause-replies
returns-in-File-clause-replies c = λ all place p.
    let q = placed_as c.args.memory all place c.args.at.number c.args.at.tag c.args.at.kind File c.in-File.is p in
    c.stat_file-answer.ensures all place q (c.describe-what.ensures.is place.path all q.entry q.fileset (file_of c.args.memory all place c.args.at.number c.args.at.tag File q))

pub returns-in-Directory-clause-replies : goal.returns-in-Directory-clause-replies
returns-in-Directory-clause-replies c = λ all place p.
    let is = c.describe-what.ensures.is place.path all p.entry p.fileset (file_of c.args.memory all place c.args.at.number c.args.at.tag c.args.at.kind p) in (
      stat_refusal c.args.memory all place c.args.at.number c.args.at.tag c.args.at.kind p,
      sym (directory_answer c.args.memory all place c.args.at.number c.args.at.tag c.args.at.kind p c.describe-what.result is c.in-Directory.is c.count_rows-memory.result.1 (c.count_rows-memory.ensures.rows all p.entry p.fileset place.path p.has p.leads.at)),
    )
