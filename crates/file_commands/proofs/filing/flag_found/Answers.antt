use Rattle.std.proofs.Common.{[], subst}
use Rattle.name_commands.specs.domain_base.declared.place.Kind.TheVariants as kind
use Rattle.name_commands.specs.name_changes.Looking.{IsLiveIn}
use Rattle.name_commands.proofs.OfDomainMemory.SettledKept.{settled_kept}
use Rattle.file_commands.proofs.FileAnswers.{answers_flagged, as_kind, filing_directory, staged_placed}
use Rattle.name_commands.proofs.PlacedThere.{file_of}
use Rattle.file_commands.proofs.filing.flag_found.Goals as goal

pub returns-in-Directory-clause-ends : goal.returns-in-Directory-clause-ends
returns-in-Directory-clause-ends c = λ all place stands p. filing_directory c.args.memory.now all place c.args.at.number c.args.at.tag c.args.at.kind p (λ slot. []) c.in-Directory.is

pub flag_file-requires-clause-stands : goal.flag_file-requires-clause-stands
flag_file-requires-clause-stands c = staged_placed c.args.memory.now c.args.at.number c.args.at.tag c.args.at.kind c.requires.settled c.requires.placed

pub flag_file-requires-clause-file : goal.flag_file-requires-clause-file
flag_file-requires-clause-file c = subst (IsLiveIn c.args.memory.now c.args.at.number c.args.at.tag) c.in-File.is c.requires.live

pub returns-in_ok-flag_file-in-File-clause-ends : goal.returns-in_ok-flag_file-in-File-clause-ends
returns-in_ok-flag_file-in-File-clause-ends c = λ all place stands p.
    let memory = c.args.memory.now in
    let last = c.flag_file.new.memory in
    let at = c.args.at in
    let is = as_kind memory all place at.number at.tag at.kind kind.File c.in-File.is p in
    let has = file_of memory all place at.number at.tag kind.File is in
    let was = settled_kept memory all c.requires.settled stands in
    answers_flagged memory all place at.number at.tag is was last (c.in_ok-flag_file-in-File.ensures.parents place.path all is.entry is.fileset has was.parents) c.args.is_logged
    (c.in_ok-flag_file-in-File.ensures.ok place.path all is.entry is.fileset has) c.flag_file.ensures.table c.flag_file.ensures.counted
