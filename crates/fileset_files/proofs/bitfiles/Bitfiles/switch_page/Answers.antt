use Rattle.std.proofs.Common.{List, subst}
use Rattle.file_chains.specs.metadata_cells.Chain.{PlacedCell}
use Rattle.file_chains.specs.extent_maps.declared.run.PagePlace.TheVariants.{At}
use Rattle.file_chains.proofs.OfExtentMaps.EditLemmas.{on_ok}
use Rattle.file_chains.specs.FileChanges.{LeavesOtherCells}
use Rattle.file_chains.specs.Moving.{TakesIfHolderFull}
use Rattle.file_chains.proofs.Switched.{map_if}
use Rattle.fileset_files.specs.Files.{IsLiveCell}
use Rattle.fileset_files.specs.Moves.{MovesNone}
use Rattle.fileset_files.specs.Pages.{ChangesFile}
use Rattle.fileset_files.proofs.Given.{if_chain, live_chain, map_err, map_three_err, on_tables, some_chain}
use Rattle.fileset_files.proofs.Moved.{map_two, moves, placed, there, together_unmoved}
use Rattle.fileset_files.proofs.RemoveFile.{no_live}
use Rattle.fileset_files.proofs.bitfiles.Bitfiles.switch_page.Goals as goal

pub switch_at-requires-clause-file : goal.switch_at-requires-clause-file
switch_at-requires-clause-file g c =
    let pages = g.M.MetaPages.pages c.args.pages.now in
    let chains = c.requires.together.0 in
    let live = live_chain pages c.args.tag chains c.in-Some.at (subst (IsLiveCell pages (chains c.args.tag)) c.in-Some.is (c.live_cell.ensures chains c.requires.together.1.files)) in
    (live.chain, live.is_file)

pub switch_at-requires-clause-tables : goal.switch_at-requires-clause-tables
switch_at-requires-clause-tables g c =
    let pages = g.M.MetaPages.pages c.args.pages.now in
    let chains = c.requires.together.0 in
    let live = live_chain pages c.args.tag chains c.in-Some.at (subst (IsLiveCell pages (chains c.args.tag)) c.in-Some.is (c.live_cell.ensures chains c.requires.together.1.files)) in
    on_tables pages c.args.tag chains c.in-Some.at live c.args.cells.now c.requires.together.1.on_tables

pub switch_at-requires-clause-there : goal.switch_at-requires-clause-there
switch_at-requires-clause-there g c =
    let pages = g.M.MetaPages.pages c.args.pages.now in
    let chains = c.requires.together.0 in
    let live = live_chain pages c.args.tag chains c.in-Some.at (subst (IsLiveCell pages (chains c.args.tag)) c.in-Some.is (c.live_cell.ensures chains c.requires.together.1.files)) in
    there pages c.args.tag chains c.in-Some.at live c.args.page (c.requires.moves chains c.requires.together.1).there

pub returns-in-Some-clause-ok : goal.returns-in-Some-clause-ok
returns-in-Some-clause-ok g c = λ chains are.
    let pages = g.M.MetaPages.pages c.args.pages.now in
    let new = g.M.MetaPages.pages c.switch_at.new.pages in
    let live = live_chain pages c.args.tag chains c.in-Some.at (subst (IsLiveCell pages (chains c.args.tag)) c.in-Some.is (c.live_cell.ensures chains are.files)) in
    map_two c.switch_at.result
    (λ change takes. some_chain pages c.args.tag chains c.in-Some.at live
    (ChangesFile c.args.self.now.fileset c.args.self.now.tags c.args.tag c.args.page (At c.args.home) c.args.version chains c.switch_at.new.space c.args.cells.now c.switch_at.new.cells pages new)
    (moves pages new c.args.self.now.fileset c.args.self.now.tags c.args.tag chains c.args.space.now c.switch_at.new.space c.args.cells.now c.switch_at.new.cells live.chain c.in-Some.at c.args.page c.args.home.vol c.args.home c.args.version are live.is change takes
    (c.requires.moves chains are) (c.switch_at.ensures.others live.chain live.is_file) c.switch_at.ensures.elsewhere c.switch_at.ensures.allocated))
    (c.switch_at.ensures.ok live.chain live.is_file) (c.switch_at.ensures.taken live.chain live.is_file)

pub returns-in-Some-clause-was : goal.returns-in-Some-clause-was
returns-in-Some-clause-was g c = λ chains are.
    let pages = g.M.MetaPages.pages c.args.pages.now in
    let live = live_chain pages c.args.tag chains c.in-Some.at (subst (IsLiveCell pages (chains c.args.tag)) c.in-Some.is (c.live_cell.ensures chains are.files)) in
    map_if c.switch_at.result (λ was is. placed pages c.args.tag chains c.in-Some.at live c.args.page was is) (c.switch_at.ensures.was live.chain live.is_file)

pub returns-in-Some-clause-taken : goal.returns-in-Some-clause-taken
returns-in-Some-clause-taken g c = λ chains are.
    let pages = g.M.MetaPages.pages c.args.pages.now in
    let live = live_chain pages c.args.tag chains c.in-Some.at (subst (IsLiveCell pages (chains c.args.tag)) c.in-Some.is (c.live_cell.ensures chains are.files)) in
    on_ok c.switch_at.result
    (some_chain pages c.args.tag chains c.in-Some.at live (λ (chain : List PlacedCell). TakesIfHolderFull c.args.page (At c.args.home) chain c.args.home.vol c.args.space.now c.switch_at.new.space c.args.cells.now c.switch_at.new.cells pages))
    (c.switch_at.ensures.taken live.chain live.is_file)

pub returns-in-Some-clause-err : goal.returns-in-Some-clause-err
returns-in-Some-clause-err g c = λ chains are.
    let pages = g.M.MetaPages.pages c.args.pages.now in
    let live = live_chain pages c.args.tag chains c.in-Some.at (subst (IsLiveCell pages (chains c.args.tag)) c.in-Some.is (c.live_cell.ensures chains are.files)) in
    map_err c.switch_at.result
    (λ fault none. some_chain pages c.args.tag chains c.in-Some.at live (λ (chain : List PlacedCell). MovesNone c.args.page (At c.args.home) chain c.args.space.now c.switch_at.new.space c.args.cells.now fault) none)
    (c.switch_at.ensures.err live.chain live.is_file)

pub returns-in-Some-clause-kept : goal.returns-in-Some-clause-kept
returns-in-Some-clause-kept g c = λ chains are.
    let pages = g.M.MetaPages.pages c.args.pages.now in
    let new = g.M.MetaPages.pages c.switch_at.new.pages in
    let live = live_chain pages c.args.tag chains c.in-Some.at (subst (IsLiveCell pages (chains c.args.tag)) c.in-Some.is (c.live_cell.ensures chains are.files)) in
    map_three_err c.switch_at.result
    (λ fault none cells_is pages_is. together_unmoved pages new c.args.self.now.fileset c.args.self.now.tags chains c.args.space.now c.switch_at.new.space c.args.cells.now c.switch_at.new.cells fault pages_is cells_is none.none are)
    (c.switch_at.ensures.err live.chain live.is_file) c.switch_at.ensures.cells c.switch_at.ensures.pages

pub returns-in-Some-clause-others : goal.returns-in-Some-clause-others
returns-in-Some-clause-others g c = λ chains are.
    let pages = g.M.MetaPages.pages c.args.pages.now in
    let live = live_chain pages c.args.tag chains c.in-Some.at (subst (IsLiveCell pages (chains c.args.tag)) c.in-Some.is (c.live_cell.ensures chains are.files)) in
    if_chain pages c.args.tag chains c.in-Some.at live (λ (chain : List PlacedCell). LeavesOtherCells c.args.cells.now chain pages (g.M.MetaPages.pages c.switch_at.new.pages)) (c.switch_at.ensures.others live.chain live.is_file)

pub returns-in-None-clause-err : goal.returns-in-None-clause-err
returns-in-None-clause-err g c = λ chains are.
    let pages = g.M.MetaPages.pages c.args.pages.now in
    absurd (no_live pages c.args.tag chains (c.requires.moves chains are).live (subst (IsLiveCell pages (chains c.args.tag)) c.in-None.is (c.live_cell.ensures chains are.files)))
