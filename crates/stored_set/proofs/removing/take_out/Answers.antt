use Rattle.std.proofs.Common.{◌∙◌, IsSome, IsSomeAnd, Option, None, Some, List, ap, subst, sym}
use Rattle.std.proofs.lemmas.Bool.{true≢false}
use Rattle.index_pages.specs.domain_base.declared.place.CellAt.{CellAt}
use Rattle.index_pages.specs.domain_base.declared.place.Home.{Home}
use Rattle.index_pages.specs.page_store.Pages.{Pages, with_page}
use Rattle.index_pages.specs.metadata_cells.Chain.{PlacedCell}
use Rattle.index_pages.specs.metadata_cells.CellPage.{home_of}
use Rattle.index_pages.specs.file_chains.Files.{IsFile}
use Rattle.index_pages.specs.fileset_files.Changes.{ChangesBeside, ChangesFirst, with_chain}
use Rattle.index_pages.specs.fileset_files.Files.{AreFiles, IsLiveCell, attributes_of}
use Rattle.index_pages.specs.fileset_files.Together.{AreTogether}
use Rattle.index_pages.proofs.OfFilesetFiles.Live.{live_none}
use Rattle.index_pages.proofs.OfFilesetFiles.OneChain.{chain_same, same_tag_itself}
use Rattle.stored_set.proofs.Lengthened.{chain_there, first_there, put_back}
use Rattle.stored_set.proofs.TakenAway.{bare_first, both_beside, first_sequences, gone_same, still_live}
use Rattle.stored_set.proofs.removing.take_out.Goals as goal

pub unreachable-requires : goal.unreachable-requires
unreachable-requires g c =
    let (chains, are) = c.requires.files in
    let pages = g.M.MetaPages.pages c.args.pages.now in
    true≢false (sym (subst (λ o. IsSome o) (sym (live_none attributes_of pages (chains c.args.tag) (subst (IsLiveCell pages (chains c.args.tag)) c.in_default.is (c.live_cell.ensures chains are)))) (c.requires.live chains are)))

page_there : (pages : Pages) (chain : Option (List PlacedCell)) (at : CellAt) → IsSomeAnd chain (IsFile pages at) → IsSome (pages (home_of at))
page_there pages None at is = absurd is
page_there pages (Some cells) at is = first_there pages at cells is

pub copy_at-requires : goal.copy_at-requires
copy_at-requires g c =
    let (chains, are) = c.requires.files in
    let pages = g.M.MetaPages.pages c.args.pages.now in
    let at = c.in-Some.at in
    subst (λ (h : Home). IsSome (pages h)) (sym c.home_of-home.ensures)
    (page_there pages (chains c.args.tag) at (chain_there pages (chains c.args.tag) at (subst (IsLiveCell pages (chains c.args.tag)) c.in-Some.is (c.live_cell.ensures chains are))))

pub set_index-requires-clause-live : goal.set_index-requires-clause-live
set_index-requires-clause-live g c = λ chains are.
    c.requires.live chains (subst (λ (ps : Pages). AreFiles c.args.files.now.fileset c.args.files.now.tags ps chains) c.reserve.ensures.same are)

pub remove-requires-clause-files : goal.remove-requires-clause-files
remove-requires-clause-files g c =
    let (chains, are) = c.requires.files in
    (with_chain c.args.tag bare_first chains, c.in_ok-set_index.ensures.ok chains (subst (λ (ps : Pages). AreFiles c.args.files.now.fileset c.args.files.now.tags ps chains) (sym c.reserve.ensures.same) are))

pub remove-requires-clause-live : goal.remove-requires-clause-live
remove-requires-clause-live g c = λ any are_any.
    let (chains, are) = c.requires.files in
    let fileset = c.args.files.now.fileset in
    let places = c.args.files.now.tags in
    let now = c.in_ok-set_index.ensures.ok chains (subst (λ (ps : Pages). AreFiles fileset places ps chains) (sym c.reserve.ensures.same) are) in
    still_live fileset places (g.M.MetaPages.pages c.args.pages.now) (g.M.MetaPages.pages c.set_index.new.pages) chains c.args.tag are (c.requires.live chains are) now any are_any

pub returns-in-Ok-clause-ok : goal.returns-in-Ok-clause-ok
returns-in-Ok-clause-ok g c = λ chains are.
    let now = c.in_ok-set_index.ensures.ok chains (subst (λ (ps : Pages). AreFiles c.args.files.now.fileset c.args.files.now.tags ps chains) (sym c.reserve.ensures.same) are) in
    c.in-Ok.ensures.ok (with_chain c.args.tag bare_first chains) now

pub returns-in-Ok-clause-together : goal.returns-in-Ok-clause-together
returns-in-Ok-clause-together g c = λ space cells chains belong.
    let fileset = c.args.files.now.fileset in
    let places = c.args.files.now.tags in
    let tag = c.args.tag in
    let new = g.M.MetaPages.pages c.remove.new.pages in
    let said = c.in_ok-set_index.ensures.together space cells chains (subst (λ (ps : Pages). AreTogether fileset places space cells ps chains) (sym c.reserve.ensures.same) belong) in
    subst (AreTogether c.remove.new.self.fileset c.remove.new.self.tags space cells new) (gone_same tag bare_first chains) (c.in-Ok.ensures.together space cells (with_chain tag bare_first chains) said)

pub returns-in-Ok-clause-beside : goal.returns-in-Ok-clause-beside
returns-in-Ok-clause-beside g c = λ chains are.
    let fileset = c.args.files.now.fileset in
    let places = c.args.files.now.tags in
    let tag = c.args.tag in
    let old = g.M.MetaPages.pages c.args.pages.now in
    let mid = g.M.MetaPages.pages c.set_index.new.pages in
    let new = g.M.MetaPages.pages c.remove.new.pages in
    let again = subst (λ (ps : Pages). AreFiles fileset places ps chains) (sym c.reserve.ensures.same) are in
    let first = subst (λ (ps : Pages). ChangesFirst (chains tag) ps mid) c.reserve.ensures.same (c.set_index.ensures.beside chains again) in
    both_beside places (chains tag) old mid new first
    (subst (λ o. ChangesBeside places o mid new) (chain_same tag bare_first chains tag (same_tag_itself tag)) (c.remove.ensures.beside (with_chain tag bare_first chains) (c.in_ok-set_index.ensures.ok chains again)))

pub returns-in-Ok-clause-sequences : goal.returns-in-Ok-clause-sequences
returns-in-Ok-clause-sequences g c = λ slot.
    let (chains, are) = c.requires.files in
    let fileset = c.args.files.now.fileset in
    let places = c.args.files.now.tags in
    let tag = c.args.tag in
    let old = g.M.MetaPages.pages c.args.pages.now in
    let mid = g.M.MetaPages.pages c.set_index.new.pages in
    let again = subst (λ (ps : Pages). AreFiles fileset places ps chains) (sym c.reserve.ensures.same) are in
    let first = subst (λ (ps : Pages). ChangesFirst (chains tag) ps mid) c.reserve.ensures.same (c.set_index.ensures.beside chains again) in
    c.in-Ok.ensures.sequences slot ∙ first_sequences fileset places old mid chains tag are first slot

pub returns-in-Err-clause-err : goal.returns-in-Err-clause-err
returns-in-Err-clause-err g c =
    let (chains, are) = c.requires.files in
    let fileset = c.args.files.now.fileset in
    let places = c.args.files.now.tags in
    let chain = chains c.args.tag in
    let old = g.M.MetaPages.pages c.args.pages.now in
    let mid = g.M.MetaPages.pages c.set_index.new.pages in
    let at = c.in-Some.at in
    let again = subst (λ (ps : Pages). AreFiles fileset places ps chains) (sym c.reserve.ensures.same) are in
    let first = subst (λ (ps : Pages). ChangesFirst chain ps mid) c.reserve.ensures.same (c.set_index.ensures.beside chains again) in
    put_back chain at old mid (g.M.MetaPages.pages c.put.new.self) c.in_ok-saved.saved (chain_there old chain at (subst (IsLiveCell old chain) c.in-Some.is (c.live_cell.ensures chains are))) first
    (ap old (sym c.home_of-home.ensures) ∙ c.in_ok-saved.ensures)
    (c.put.ensures.value ∙ ap (λ (h : Home). with_page h c.in_ok-saved.saved (g.M.MetaPages.pages c.remove.new.pages)) c.home_of-home.ensures ∙ ap (with_page (home_of at) c.in_ok-saved.saved) c.in-Err.ensures.err)
