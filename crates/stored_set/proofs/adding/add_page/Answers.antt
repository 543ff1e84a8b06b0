use Rattle.std.proofs.Common.{◌≡◌, ◌∙◌, ◌+◌, IfErr, IsSome, IsSomeAnd, Option, None, Some, Result, Ok, Err, List, ℕ, ap, subst, sym}
use Rattle.std.specs.Result.{IsErrAnd}
use Rattle.index_pages.specs.domain_base.declared.place.CellAt.{CellAt}
use Rattle.index_pages.specs.domain_base.declared.place.Home.{Home}
use Rattle.index_pages.specs.page_store.Pages.{Pages, with_page}
use Rattle.index_pages.specs.free_cells.Cells.{Cells}
use Rattle.index_pages.specs.metadata_cells.Chain.{PlacedCell}
use Rattle.index_pages.specs.metadata_cells.CellPage.{home_of}
use Rattle.index_pages.specs.file_chains.Files.{IsFile}
use Rattle.index_pages.specs.fileset_files.Changes.{ChangesFirst}
use Rattle.index_pages.specs.fileset_files.Files.{AreFiles, IsLiveCell, attributes_of}
use Rattle.index_pages.specs.fileset_files.Together.{AreTogether}
use Rattle.index_pages.proofs.OfFilesetFiles.Live.{live_none}
use Rattle.stored_set.proofs.Lengthened.{chain_there, first_there, is_some, put_back, set_still}
use Rattle.stored_set.proofs.Live.{not_live}
use Rattle.stored_set.specs.Sets.{AddsNone, StandsAsSet}
use Rattle.stored_set.proofs.adding.add_page.Goals as goal

pub unreachable-requires : goal.unreachable-requires
unreachable-requires g c =
    let set = c.requires.set.0 in
    let was = c.requires.set.1 in
    not_live c.args.files.now.fileset c.args.files.now.tags c.args.space.now c.args.cells.now (g.M.MetaPages.pages c.args.pages.now) set was c.args.tag (is_some set c.args.tag (c.requires.directory set was)) was.chains was.stands.together.files
    (sym c.in_default.is ∙ c.attributes.ensures was.chains was.stands.together.files)

pub unreachable-requires-in_default-live_cell : goal.unreachable-requires-in_default-live_cell
unreachable-requires-in_default-live_cell g c =
    let set = c.requires.set.0 in
    let was = c.requires.set.1 in
    let pages = g.M.MetaPages.pages c.args.pages.now in
    not_live c.args.files.now.fileset c.args.files.now.tags c.args.space.now c.args.cells.now pages set was c.args.tag (is_some set c.args.tag (c.requires.directory set was)) was.chains was.stands.together.files
    (live_none attributes_of pages (was.chains c.args.tag) (subst (IsLiveCell pages (was.chains c.args.tag)) c.in_default-live_cell.is (c.live_cell.ensures was.chains was.stands.together.files)))

page_there : (pages : Pages) (chain : Option (List PlacedCell)) (at : CellAt) → IsSomeAnd chain (IsFile pages at) → IsSome (pages (home_of at))
page_there pages None at is = absurd is
page_there pages (Some cells) at is = first_there pages at cells is

pub copy_at-requires : goal.copy_at-requires
copy_at-requires g c =
    let was = c.requires.set.1 in
    let pages = g.M.MetaPages.pages c.args.pages.now in
    let at = c.in-Some-live_cell.at in
    subst (λ (h : Home). IsSome (pages h)) (sym c.home_of-home.ensures)
    (page_there pages (was.chains c.args.tag) at (chain_there pages (was.chains c.args.tag) at (subst (IsLiveCell pages (was.chains c.args.tag)) c.in-Some-live_cell.is (c.live_cell.ensures was.chains was.stands.together.files))))

pub returns-in-Err-clause-pages : goal.returns-in-Err-clause-pages
returns-in-Err-clause-pages g c =
    let was = c.requires.set.1 in
    let old = g.M.MetaPages.pages c.args.pages.now in
    let mid = g.M.MetaPages.pages c.lengthen.new.pages in
    let at = c.in-Some-live_cell.at in
    let fileset = c.args.files.now.fileset in
    let places = c.args.files.now.tags in
    let chain = was.chains c.args.tag in
    put_back chain at old mid (g.M.MetaPages.pages c.put.new.self) c.in_ok-saved.saved
    (chain_there old chain at (subst (IsLiveCell old chain) c.in-Some-live_cell.is (c.live_cell.ensures was.chains was.stands.together.files)))
    (subst (λ (ps : Pages). ChangesFirst chain ps mid) c.reserve.ensures.same (c.in-Err.ensures.first was.chains (subst (λ (ps : Pages). AreFiles fileset places ps was.chains) (sym c.reserve.ensures.same) was.stands.together.files)))
    (ap old (sym c.home_of-home.ensures) ∙ c.in_ok-saved.ensures)
    (c.put.ensures.value ∙ ap (λ (h : Home). with_page h c.in_ok-saved.saved mid) c.home_of-home.ensures)

pub returns-in-Err-clause-err : goal.returns-in-Err-clause-err
returns-in-Err-clause-err g c = λ set was.
    let old = g.M.MetaPages.pages c.args.pages.now in
    let mid = g.M.MetaPages.pages c.lengthen.new.pages in
    let at = c.in-Some-live_cell.at in
    let fileset = c.args.files.now.fileset in
    let places = c.args.files.now.tags in
    let chain = was.chains c.args.tag in
    let again = put_back chain at old mid (g.M.MetaPages.pages c.put.new.self) c.in_ok-saved.saved
    (chain_there old chain at (subst (IsLiveCell old chain) c.in-Some-live_cell.is (c.live_cell.ensures was.chains was.stands.together.files)))
    (subst (λ (ps : Pages). ChangesFirst chain ps mid) c.reserve.ensures.same (c.in-Err.ensures.first was.chains (subst (λ (ps : Pages). AreFiles fileset places ps was.chains) (sym c.reserve.ensures.same) was.stands.together.files)))
    (ap old (sym c.home_of-home.ensures) ∙ c.in_ok-saved.ensures)
    (c.put.ensures.value ∙ ap (λ (h : Home). with_page h c.in_ok-saved.saved mid) c.home_of-home.ensures) in
    let none = c.in-Err.ensures.none was.chains (subst (λ (ps : Pages). AreTogether fileset places c.args.space.now c.args.cells.now ps was.chains) (sym c.reserve.ensures.same) was.stands.together) in
    subst (λ (ps : Pages). StandsAsSet fileset places c.lengthen.new.space c.lengthen.new.cells ps set) (sym again)
    (subst (λ (x : Cells). StandsAsSet fileset places c.lengthen.new.space x old set) (sym c.in-Err.ensures.cells)
    (set_still fileset places c.args.space.now c.lengthen.new.space c.args.cells.now old set was c.args.tag c.args.page c.in-Err.fault none))
