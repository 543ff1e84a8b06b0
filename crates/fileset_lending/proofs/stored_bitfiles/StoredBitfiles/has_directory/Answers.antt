use Rattle.std.proofs.Common.{◌∙◌, Some, ap, sym}
use Rattle.domain_memory.proofs.OfStoredSet.StableSet.{has_set}
use Rattle.fileset_lending.specs.Shown.{shown, shown_stands}
use Rattle.fileset_lending.proofs.Looks.{is_file, is_nothing, yes_directory}
use Rattle.fileset_lending.proofs.stored_bitfiles.StoredBitfiles.has_directory.Goals as goal

pub kind_of-requires : goal.kind_of-requires
kind_of-requires g c =
    let set = c.args.self.now in
    let pages = g.M.MetaPages.pages set.parts.pages in
    has_set set.parts.files.fileset set.parts.files.tags set.parts.space set.parts.cells pages set.held

pub returns-in-Some-Directory-clause-yes : goal.returns-in-Some-Directory-clause-yes
returns-in-Some-Directory-clause-yes g c =
    let set = c.args.self.now in
    let pages = g.M.MetaPages.pages set.parts.pages in
    λ _. yes_directory (shown set.parts.files.fileset set.parts.files.tags set.parts.space set.parts.cells pages set.held) c.args.tag (ap (λ k. Some k) (sym c.in-Some-Directory.field-0-is) ∙ sym c.in-Some-Directory.is ∙ c.kind_of.ensures _ (shown_stands set.parts.files.fileset set.parts.files.tags set.parts.space set.parts.cells pages set.held))

pub returns-in-Some-File-clause-no : goal.returns-in-Some-File-clause-no
returns-in-Some-File-clause-no g c =
    let set = c.args.self.now in
    let pages = g.M.MetaPages.pages set.parts.pages in
    λ _. is_file (shown set.parts.files.fileset set.parts.files.tags set.parts.space set.parts.cells pages set.held) c.args.tag (ap (λ k. Some k) (sym c.in-Some-File.field-0-is) ∙ sym c.in-Some-File.is ∙ c.kind_of.ensures _ (shown_stands set.parts.files.fileset set.parts.files.tags set.parts.space set.parts.cells pages set.held))

pub returns-in-None-clause-no : goal.returns-in-None-clause-no
returns-in-None-clause-no g c =
    let set = c.args.self.now in
    let pages = g.M.MetaPages.pages set.parts.pages in
    λ _. is_nothing (shown set.parts.files.fileset set.parts.files.tags set.parts.space set.parts.cells pages set.held) c.args.tag (sym c.in-None.is ∙ c.kind_of.ensures _ (shown_stands set.parts.files.fileset set.parts.files.tags set.parts.space set.parts.cells pages set.held))
