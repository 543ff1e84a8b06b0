use Rattle.std.proofs.Common.{List, subst, sym}
use Rattle.file_chains.specs.domain_base.declared.place.CellAt.{CellAt}
use Rattle.file_chains.specs.metadata_cells.Chain.{LeavesOthers, StandsAt, is_at}
use Rattle.fileset_files.specs.Files.{IsLiveCell}
use Rattle.fileset_files.proofs.RemoveFile.{beside, keeps_sequences, removed_files, no_live, removes, room, the_first, removed_used}
use Rattle.tag_dirs.specs.declared.dir.TagPlace.{TagPlace}
use Rattle.tag_dirs.proofs.Slots.{off_slot}
use Rattle.fileset_files.specs.Changes.{says_removed, without_chain}
use Rattle.fileset_files.specs.Together.{AreTogether}
use Rattle.fileset_files.proofs.FirstTogether.{runs_kept, together_first}
use Rattle.fileset_files.proofs.RemovedTogether.{removed_keeps, together_without}
use Rattle.fileset_files.proofs.bitfiles.Bitfiles.remove.Goals as goal

pub returns-in_default-clause-beside : goal.returns-in_default-clause-beside
returns-in_default-clause-beside g c = λ chains are.
    let pages = g.M.MetaPages.pages c.args.pages.now in
    absurd (no_live pages c.args.tag chains (c.requires.live chains are) (subst (IsLiveCell pages (chains c.args.tag)) c.in_default.is (c.live_cell.ensures chains are)))

pub set_pending-requires : goal.set_pending-requires
set_pending-requires g c =
    let pages = g.M.MetaPages.pages c.args.pages.now in
    let chains = c.requires.files.0 in
    let are = c.requires.files.1 in
    room pages c.args.self.now.fileset c.args.self.now.tags c.args.tag chains c.in-Some.at are (subst (IsLiveCell pages (chains c.args.tag)) c.in-Some.is (c.live_cell.ensures chains are))

pub drop_tag-requires-clause-directory : goal.drop_tag-requires-clause-directory
drop_tag-requires-clause-directory g c =
    let chains = c.requires.files.0 in
    let are = c.requires.files.1 in
    let pages = g.M.MetaPages.pages c.args.pages.now in
    let fileset = c.args.self.now.fileset in
    let places = c.args.self.now.tags in
    let live = subst (IsLiveCell pages (chains c.args.tag)) c.in-Some.is (c.live_cell.ensures chains are) in
    let of = the_first pages fileset places c.args.tag chains c.in-Some.at are live in
    let stands = c.in_ok-set_pending.ensures.ok of.first.cell (subst (λ (a : CellAt). StandsAt pages a of.first.cell) of.is_at of.file.links.stands) in
    let now = removed_files pages fileset places c.args.tag chains c.in-Some.at are live (g.M.MetaPages.pages c.set_pending.new.pages) stands c.set_pending.ensures.others c.set_pending.ensures.elsewhere in
    now.directory

pub drop_tag-requires-clause-used : goal.drop_tag-requires-clause-used
drop_tag-requires-clause-used g c =
    let chains = c.requires.files.0 in
    let are = c.requires.files.1 in
    let pages = g.M.MetaPages.pages c.args.pages.now in
    let fileset = c.args.self.now.fileset in
    let places = c.args.self.now.tags in
    let live = subst (IsLiveCell pages (chains c.args.tag)) c.in-Some.is (c.live_cell.ensures chains are) in
    let of = the_first pages fileset places c.args.tag chains c.in-Some.at are live in
    let stands = c.in_ok-set_pending.ensures.ok of.first.cell (subst (λ (a : CellAt). StandsAt pages a of.first.cell) of.is_at of.file.links.stands) in
    removed_used pages fileset places c.args.tag chains c.in-Some.at are live (g.M.MetaPages.pages c.set_pending.new.pages) stands c.set_pending.ensures.others c.set_pending.ensures.elsewhere

pub returns-clause-ok : goal.returns-clause-ok
returns-clause-ok g c = λ chains are.
    let pages = g.M.MetaPages.pages c.args.pages.now in
    let fileset = c.args.self.now.fileset in
    let places = c.args.self.now.tags in
    let live = subst (IsLiveCell pages (chains c.args.tag)) c.in-Some.is (c.live_cell.ensures chains are) in
    let of = the_first pages fileset places c.args.tag chains c.in-Some.at are live in
    let stands = c.in_ok-set_pending.ensures.ok of.first.cell (subst (λ (a : CellAt). StandsAt pages a of.first.cell) of.is_at of.file.links.stands) in
    removes pages fileset places c.args.tag chains c.in-Some.at are live (g.M.MetaPages.pages c.set_pending.new.pages) stands c.set_pending.ensures.others c.set_pending.ensures.elsewhere (g.M.MetaPages.pages c.drop_tag.new.pages) c.drop_tag.ensures.value

pub returns-clause-beside : goal.returns-clause-beside
returns-clause-beside g c = λ chains are.
    let pages = g.M.MetaPages.pages c.args.pages.now in
    let fileset = c.args.self.now.fileset in
    let places = c.args.self.now.tags in
    let live = subst (IsLiveCell pages (chains c.args.tag)) c.in-Some.is (c.live_cell.ensures chains are) in
    let of = the_first pages fileset places c.args.tag chains c.in-Some.at are live in
    let stands = c.in_ok-set_pending.ensures.ok of.first.cell (subst (λ (a : CellAt). StandsAt pages a of.first.cell) of.is_at of.file.links.stands) in
    beside pages fileset places c.args.tag chains c.in-Some.at are live (g.M.MetaPages.pages c.set_pending.new.pages) stands c.set_pending.ensures.others c.set_pending.ensures.elsewhere (g.M.MetaPages.pages c.drop_tag.new.pages) c.drop_tag.ensures.value

pub returns-clause-sequences : goal.returns-clause-sequences
returns-clause-sequences g c =
    let chains = c.requires.files.0 in
    let are = c.requires.files.1 in
    let pages = g.M.MetaPages.pages c.args.pages.now in
    let fileset = c.args.self.now.fileset in
    let places = c.args.self.now.tags in
    let live = subst (IsLiveCell pages (chains c.args.tag)) c.in-Some.is (c.live_cell.ensures chains are) in
    let of = the_first pages fileset places c.args.tag chains c.in-Some.at are live in
    let stands = c.in_ok-set_pending.ensures.ok of.first.cell (subst (λ (a : CellAt). StandsAt pages a of.first.cell) of.is_at of.file.links.stands) in
    keeps_sequences pages fileset places c.args.tag chains c.in-Some.at are live (g.M.MetaPages.pages c.set_pending.new.pages) stands c.set_pending.ensures.others c.set_pending.ensures.elsewhere (g.M.MetaPages.pages c.drop_tag.new.pages) c.drop_tag.ensures.value

pub returns-clause-together : goal.returns-clause-together
returns-clause-together g c = λ space cells chains are.
    let pages = g.M.MetaPages.pages c.args.pages.now in
    let mid = g.M.MetaPages.pages c.set_pending.new.pages in
    let new = g.M.MetaPages.pages c.drop_tag.new.pages in
    let fileset = c.args.self.now.fileset in
    let places = c.args.self.now.tags in
    let live = subst (IsLiveCell pages (chains c.args.tag)) c.in-Some.is (c.live_cell.ensures chains are.files) in
    let of = the_first pages fileset places c.args.tag chains c.in-Some.at are.files live in
    let stands = c.in_ok-set_pending.ensures.ok of.first.cell (subst (λ (a : CellAt). StandsAt pages a of.first.cell) of.is_at of.file.links.stands) in
    let files = removed_files pages fileset places c.args.tag chains c.in-Some.at are.files live mid stands c.set_pending.ensures.others c.set_pending.ensures.elsewhere in
    let between = together_first pages mid fileset places c.args.tag chains space cells says_removed are files of.first of.rest of.is of.file.links.stands
    (subst (λ (a : CellAt). LeavesOthers (is_at a) pages mid) (sym of.is_at) c.set_pending.ensures.others) c.set_pending.ensures.well_formed c.set_pending.ensures.headers
    (runs_kept says_removed of.first of.rest (removed_keeps pages of.first of.rest of.file)) in
    let removed = removes pages fileset places c.args.tag chains c.in-Some.at are.files live mid stands c.set_pending.ensures.others c.set_pending.ensures.elsewhere new c.drop_tag.ensures.value in
    subst (λ (ps : List TagPlace). AreTogether fileset ps space cells new (without_chain c.args.tag chains)) (sym c.drop_tag.ensures.same)
    (together_without pages mid new fileset places c.args.tag chains space cells are between.allocated removed.files (λ h none. c.drop_tag.ensures.value.elsewhere h (off_slot places c.args.tag.slot h none)))
