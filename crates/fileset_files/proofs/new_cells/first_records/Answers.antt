use Rattle.std.proofs.Common.{◌∙◌, ◌<◌, ◌^◌, Some, ap, rules, subst, sym}
use Rattle.file_chains.specs.cell_records.declared.record.Record.TheVariants.{Parent}
use Rattle.file_chains.specs.Changes.{with_kind}
use Rattle.file_chains.proofs.Switched.{map_if}
use Rattle.fileset_files.specs.Creation.{AreNew}
use Rattle.file_chains.specs.cell_records.declared.record.Record.{Record}
use Rattle.std.proofs.Common.{List, ◌≡◌}
use Rattle.fileset_files.proofs.NewRecords.{AreFitting, new_directory, new_file}
use Rattle.fileset_files.proofs.new_cells.first_records.Goals as goal

pub returns-in-File : goal.returns-in-File
returns-in-File c =
    let fit : AreFitting c.args.what.now = record { uid = search rules; gid = search rules; birth = search rules } in
    new_file c.args.version c.args.what.now c.in_ok-records.records c.in_ok-records.ensures fit c.args.tag.now c.in-File.is

pub returns-in-Directory : goal.returns-in-Directory
returns-in-Directory c =
    let fit : AreFitting c.args.what.now = record { uid = search rules; gid = search rules; birth = search rules } in
    let slot : c.args.tag.now.slot < 2 ^ 32 = search rules in
    let seq : c.args.tag.now.seq < 2 ^ 16 = search rules in
    let is = new_directory c.args.version c.args.what.now c.in_ok-records.records c.in_ok-records.ensures fit c.args.tag.now c.in-Directory.is slot seq in
    let parent : Record = Parent c.args.tag.now.slot c.args.tag.now.seq in
    map_if c.put_among.result
    (λ (found : List Record) (all : found ≡ with_kind 10 (Some parent) c.as_slice.result.now).
    subst (AreNew c.args.version c.args.what.now c.args.tag.now) (sym (all ∙ ap (with_kind 10 (Some parent)) c.as_slice.ensures)) is)
    c.put_among.ensures
