use Rattle.std.proofs.Common.{◌≡◌, ◌∙◌, List, [], ◌∷◌, Some, ap, subst, sym}
use Rattle.std.specs.Option.{option_and_then}
use Rattle.file_chains.specs.domain_base.declared.place.CellAt.{CellAt}
use Rattle.file_chains.specs.page_store.Pages.{Pages}
use Rattle.file_chains.specs.cell_records.declared.record.Record.{Record}
use Rattle.file_chains.specs.cell_records.Records.{Allowed}
use Rattle.file_chains.specs.metadata_cells.Chain.{PlacedCell}
use Rattle.file_chains.specs.Files.{IsFile}
use Rattle.fileset_files.specs.Files.{IsLiveCell, first_record}
use Rattle.fileset_files.specs.Index.{index_place_in, index_place_of}
use Rattle.fileset_files.proofs.Live.{live_none, live_some}
use Rattle.fileset_files.proofs.Room.{allowed_found}
use Rattle.fileset_files.proofs.bitfiles.Bitfiles.index.Goals as goal

allowed_first : (pages : Pages) (at : CellAt) (cells : List PlacedCell) (r : Record) → IsFile pages at cells → first_record 9 cells ≡ Some r → Allowed r
allowed_first pages at [] r is_file is = absurd is_file
allowed_first pages at (first ∷ rest) r is_file is = allowed_found 9 first.cell.records r is is_file.1.links.stands.is.well_formed.allowed

pub returns-in_err-at : goal.returns-in_err-at
returns-in_err-at g c = λ chains are.
    let pages = g.M.MetaPages.pages c.args.pages.now in
    c.from_residual.ensures ∙ live_none index_place_of pages (chains c.args.tag) (subst (IsLiveCell pages (chains c.args.tag)) c.in_err-at.was (c.live_cell.ensures chains are))

pub returns-in_err-first_record : goal.returns-in_err-first_record
returns-in_err-first_record g c = λ chains are.
    let pages = g.M.MetaPages.pages c.args.pages.now in
    let live = live_some index_place_of pages (chains c.args.tag) c.in_ok-at.at (subst (IsLiveCell pages (chains c.args.tag)) c.in_ok-at.was (c.live_cell.ensures chains are)) in
    c.from_residual-in_err-first_record.ensures ∙ ap (option_and_then index_place_in) (sym c.in_err-first_record.was ∙ c.first_record.ensures live.cells live.is_file) ∙ sym live.has

pub read_index-requires : goal.read_index-requires
read_index-requires g c =
    let pages = g.M.MetaPages.pages c.args.pages.now in
    let chains = c.requires.0 in
    let live = live_some index_place_of pages (chains c.args.tag) c.in_ok-at.at (subst (IsLiveCell pages (chains c.args.tag)) c.in_ok-at.was (c.live_cell.ensures chains c.requires.1)) in
    allowed_first pages c.in_ok-at.at live.cells _ live.is_file (sym (c.first_record.ensures live.cells live.is_file) ∙ c.in_ok-first_record.was)

pub returns : goal.returns
returns g c = λ chains are.
    let pages = g.M.MetaPages.pages c.args.pages.now in
    let live = live_some index_place_of pages (chains c.args.tag) c.in_ok-at.at (subst (IsLiveCell pages (chains c.args.tag)) c.in_ok-at.was (c.live_cell.ensures chains are)) in
    c.read_index.ensures ∙ ap (option_and_then index_place_in) (sym c.in_ok-first_record.was ∙ c.first_record.ensures live.cells live.is_file) ∙ sym live.has
