use Rattle.std.proofs.Common.{◌∙◌, ◌∷◌, subst, sym}
use Rattle.file_chains.proofs.Switched.{map_if}
use Rattle.fileset_files.specs.Files.{IsLiveCell}
use Rattle.fileset_files.proofs.RemoveFile.{first_beside, room, the_first}
use Rattle.fileset_files.proofs.Truncated.{truncates}
use Rattle.file_chains.specs.domain_base.declared.place.CellAt.{CellAt}
use Rattle.file_chains.specs.metadata_cells.Chain.{LeavesOthers, is_at}
use Rattle.fileset_files.specs.Truncation.{says_truncated}
use Rattle.fileset_files.proofs.FirstTogether.{runs_kept, together_first, truncated_keeps}
use Rattle.fileset_files.proofs.bitfiles.Bitfiles.truncate.Goals as goal

pub truncate_at-requires-clause-file : goal.truncate_at-requires-clause-file
truncate_at-requires-clause-file g c =
    let pages = g.M.MetaPages.pages c.args.pages.now in
    let chains = c.requires.files.0 in
    let are = c.requires.files.1 in
    let of = the_first pages c.args.self.now.fileset c.args.self.now.tags c.args.tag chains c.in-Some.at are (subst (IsLiveCell pages (chains c.args.tag)) c.in-Some.is (c.live_cell.ensures chains are)) in
    (of.first ∷ of.rest, (of.is_at, of.file))

pub truncate_at-requires-clause-room : goal.truncate_at-requires-clause-room
truncate_at-requires-clause-room g c =
    let pages = g.M.MetaPages.pages c.args.pages.now in
    let chains = c.requires.files.0 in
    let are = c.requires.files.1 in
    room pages c.args.self.now.fileset c.args.self.now.tags c.args.tag chains c.in-Some.at are (subst (IsLiveCell pages (chains c.args.tag)) c.in-Some.is (c.live_cell.ensures chains are))

pub returns-clause-ok : goal.returns-clause-ok
returns-clause-ok g c = λ chains are.
    let pages = g.M.MetaPages.pages c.args.pages.now in
    let new = g.M.MetaPages.pages c.truncate_at.new.pages in
    let live = subst (IsLiveCell pages (chains c.args.tag)) c.in-Some.is (c.live_cell.ensures chains are) in
    let of = the_first pages c.args.self.now.fileset c.args.self.now.tags c.args.tag chains c.in-Some.at are live in
    let has = sym (c.first_record.ensures (of.first ∷ of.rest) (of.is_at, of.file)) ∙ c.in-Some-first_record.is in
    map_if c.truncate_at.result
    (λ at done. truncates pages new c.args.self.now.fileset c.args.self.now.tags c.args.tag chains c.in-Some.at are live c.args.size at c.truncate_at.ensures.others c.truncate_at.ensures.elsewhere c.in-Some-first_record.was has done)
    (c.truncate_at.ensures.ok of.first of.rest (of.is_at, of.file))

pub returns-clause-beside : goal.returns-clause-beside
returns-clause-beside g c = λ chains are.
    let pages = g.M.MetaPages.pages c.args.pages.now in
    let live = subst (IsLiveCell pages (chains c.args.tag)) c.in-Some.is (c.live_cell.ensures chains are) in
    first_beside pages c.args.self.now.fileset c.args.self.now.tags c.args.tag chains c.in-Some.at are live (g.M.MetaPages.pages c.truncate_at.new.pages) c.truncate_at.ensures.others c.truncate_at.ensures.elsewhere

pub returns-clause-together : goal.returns-clause-together
returns-clause-together g c = λ space cells chains are.
    let pages = g.M.MetaPages.pages c.args.pages.now in
    let new = g.M.MetaPages.pages c.truncate_at.new.pages in
    let live = subst (IsLiveCell pages (chains c.args.tag)) c.in-Some.is (c.live_cell.ensures chains are.files) in
    let of = the_first pages c.args.self.now.fileset c.args.self.now.tags c.args.tag chains c.in-Some.at are.files live in
    map_if c.truncate_at.result
    (λ at done. record {
      lowered = done.lowered;
      stale = done.stale;
      together = together_first pages new c.args.self.now.fileset c.args.self.now.tags c.args.tag chains space cells (says_truncated c.args.size done.lowered) are done.files of.first of.rest of.is of.file.links.stands
          (subst (λ (a : CellAt). LeavesOthers (is_at a) pages new) (sym of.is_at) c.truncate_at.ensures.others) c.truncate_at.ensures.well_formed c.truncate_at.ensures.headers
          (runs_kept (says_truncated c.args.size done.lowered) of.first of.rest (truncated_keeps pages of.first of.rest of.file c.args.size done.lowered));
    })
    (returns-clause-ok g c chains are.files)
