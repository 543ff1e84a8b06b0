use Rattle.std.proofs.Common.{◌≡◌, ◌∙◌, Some, None, ap, sym}
use Rattle.std.specs.Option.{option_and_then, option_copied, option_map}
use Rattle.index_pages.specs.page_store.Bitfiles.{shown_index}
use Rattle.stored_set.proofs.Entries.{none_shown_at, shown_same_there}
use Rattle.stored_set.proofs.Indexed.{homes_at}
use Rattle.stored_set.proofs.Sized.{page_here, the_file}
use Rattle.stored_set.proofs.indexes.index_page_of.Goals as goal

pub index_home-requires : goal.index_home-requires
index_home-requires g c =
    let set = c.requires.set.0 in
    let was = c.requires.set.1 in (
      was.indexes c.args.tag,
      homes_at c.args.files.now.fileset c.args.files.now.tags c.args.space.now c.args.cells.now (g.M.MetaPages.pages c.args.pages.now) set was c.args.tag (c.requires.directory set was) (Some c.in_ok-index.index) (sym c.in_ok-index.was ∙ c.index.ensures was.chains was.stands.together.files),
    )

pub returns-in_err-index : goal.returns-in_err-index
returns-in_err-index g c = λ set was.
    let pages = g.M.MetaPages.pages c.args.pages.now in
    let fileset = c.args.files.now.fileset in
    let places = c.args.files.now.tags in
    let space = c.args.space.now in
    let cells = c.args.cells.now in
    let directory = c.requires.directory set was in
    let at = the_file set c.args.tag directory in
    ap (λ o. option_map shown_index (option_copied o)) c.from_residual.ensures
    ∙ sym (ap (option_map shown_index) (page_here fileset places space cells pages set was c.args.tag at c.args.page
    ∙ none_shown_at pages (was.indexes c.args.tag) c.args.page (homes_at fileset places space cells pages set was c.args.tag directory None (sym c.in_err-index.was ∙ c.index.ensures was.chains was.stands.together.files))))

pub returns-in_err-index_home : goal.returns-in_err-index_home
returns-in_err-index_home g c = λ set was.
    let pages = g.M.MetaPages.pages c.args.pages.now in
    let fileset = c.args.files.now.fileset in
    let places = c.args.files.now.tags in
    let space = c.args.space.now in
    let cells = c.args.cells.now in
    let directory = c.requires.directory set was in
    let at = the_file set c.args.tag directory in
    let homes = was.indexes c.args.tag in
    let are = homes_at fileset places space cells pages set was c.args.tag directory (Some c.in_ok-index.index) (sym c.in_ok-index.was ∙ c.index.ensures was.chains was.stands.together.files) in
    ap (λ o. option_map shown_index (option_copied o)) c.from_residual-in_err-index_home.ensures
    ∙ ap (λ o. option_map shown_index (option_and_then pages o)) (sym c.in_err-index_home.was ∙ c.index_home.ensures homes are)
    ∙ shown_same_there pages (Some c.in_ok-index.index.first) homes c.args.page are ∙ sym (ap (option_map shown_index) (page_here fileset places space cells pages set was c.args.tag at c.args.page))

pub returns : goal.returns
returns g c = λ set was.
    let pages = g.M.MetaPages.pages c.args.pages.now in
    let fileset = c.args.files.now.fileset in
    let places = c.args.files.now.tags in
    let space = c.args.space.now in
    let cells = c.args.cells.now in
    let directory = c.requires.directory set was in
    let at = the_file set c.args.tag directory in
    let homes = was.indexes c.args.tag in
    let are = homes_at fileset places space cells pages set was c.args.tag directory (Some c.in_ok-index.index) (sym c.in_ok-index.was ∙ c.index.ensures was.chains was.stands.together.files) in
    ap (option_map shown_index) c.get.ensures
    ∙ ap (λ o. option_map shown_index (option_and_then pages o)) (sym c.in_ok-index_home.was ∙ c.index_home.ensures homes are)
    ∙ shown_same_there pages (Some c.in_ok-index.index.first) homes c.args.page are ∙ sym (ap (option_map shown_index) (page_here fileset places space cells pages set was c.args.tag at c.args.page))
