use Rattle.std.proofs.Common.{List, subst}
use Rattle.file_chains.specs.metadata_cells.Chain.{PlacedCell}
use Rattle.file_chains.specs.FileChanges.{LeavesOtherCells}
use Rattle.fileset_files.specs.Files.{IsLiveCell}
use Rattle.fileset_files.specs.Pages.{ChangesFile, GetsNone, TakesHome}
use Rattle.file_chains.specs.extent_maps.declared.run.PagePlace.TheVariants.{At}
use Rattle.fileset_files.proofs.Again.{gives, together_kept}
use Rattle.fileset_files.proofs.Given.{absent, if_chain, live_chain, map_err, map_three, map_three_err, not_live, on_tables, some_chain}
use Rattle.file_chains.proofs.Switched.{map_if}
use Rattle.fileset_files.proofs.bitfiles.Bitfiles.give_page.Goals as goal

pub give_at-requires-clause-file : goal.give_at-requires-clause-file
give_at-requires-clause-file g c =
    let pages = g.M.MetaPages.pages c.args.pages.now in
    let chains = c.requires.together.0 in
    let live = live_chain pages c.args.tag chains c.in-Some.at (subst (IsLiveCell pages (chains c.args.tag)) c.in-Some.is (c.live_cell.ensures chains c.requires.together.1.files)) in
    (live.chain, live.is_file)

pub give_at-requires-clause-tables : goal.give_at-requires-clause-tables
give_at-requires-clause-tables g c =
    let pages = g.M.MetaPages.pages c.args.pages.now in
    let chains = c.requires.together.0 in
    let live = live_chain pages c.args.tag chains c.in-Some.at (subst (IsLiveCell pages (chains c.args.tag)) c.in-Some.is (c.live_cell.ensures chains c.requires.together.1.files)) in
    on_tables pages c.args.tag chains c.in-Some.at live c.args.cells.now c.requires.together.1.on_tables

pub give_at-requires-clause-absent : goal.give_at-requires-clause-absent
give_at-requires-clause-absent g c =
    let pages = g.M.MetaPages.pages c.args.pages.now in
    let chains = c.requires.together.0 in
    let live = live_chain pages c.args.tag chains c.in-Some.at (subst (IsLiveCell pages (chains c.args.tag)) c.in-Some.is (c.live_cell.ensures chains c.requires.together.1.files)) in
    absent pages c.args.tag chains c.in-Some.at live c.args.page (c.requires.grows chains c.requires.together.1).absent

pub returns-in-Some-clause-ok : goal.returns-in-Some-clause-ok
returns-in-Some-clause-ok g c = λ chains are.
    let pages = g.M.MetaPages.pages c.args.pages.now in
    let new = g.M.MetaPages.pages c.give_at.new.pages in
    let live = live_chain pages c.args.tag chains c.in-Some.at (subst (IsLiveCell pages (chains c.args.tag)) c.in-Some.is (c.live_cell.ensures chains are.files)) in
    map_three c.give_at.result
    (λ home low change takes. some_chain pages c.args.tag chains c.in-Some.at live
    (ChangesFile c.args.self.now.fileset c.args.self.now.tags c.args.tag c.args.page (At home) c.args.version chains c.give_at.new.space c.args.cells.now c.give_at.new.cells pages new)
    (gives pages new c.args.self.now.fileset c.args.self.now.tags c.args.tag chains c.args.space.now c.give_at.new.space c.args.cells.now c.give_at.new.cells live.chain c.in-Some.at c.args.page c.args.prefer home c.args.version low are live.is change takes
    (c.give_at.ensures.others live.chain live.is_file) c.give_at.ensures.elsewhere c.give_at.ensures.allocated))
    c.give_at.ensures.volume (c.give_at.ensures.ok live.chain live.is_file) (c.give_at.ensures.taken live.chain live.is_file)

pub returns-in-Some-clause-taken : goal.returns-in-Some-clause-taken
returns-in-Some-clause-taken g c = λ chains are.
    let pages = g.M.MetaPages.pages c.args.pages.now in
    let live = live_chain pages c.args.tag chains c.in-Some.at (subst (IsLiveCell pages (chains c.args.tag)) c.in-Some.is (c.live_cell.ensures chains are.files)) in
    map_if c.give_at.result
    (λ home takes. some_chain pages c.args.tag chains c.in-Some.at live (λ (chain : List PlacedCell). TakesHome c.args.prefer c.args.page home chain c.args.space.now c.give_at.new.space c.args.cells.now c.give_at.new.cells pages) takes)
    (c.give_at.ensures.taken live.chain live.is_file)

pub returns-in-Some-clause-err : goal.returns-in-Some-clause-err
returns-in-Some-clause-err g c = λ chains are.
    let pages = g.M.MetaPages.pages c.args.pages.now in
    let live = live_chain pages c.args.tag chains c.in-Some.at (subst (IsLiveCell pages (chains c.args.tag)) c.in-Some.is (c.live_cell.ensures chains are.files)) in
    map_err c.give_at.result
    (λ fault none. some_chain pages c.args.tag chains c.in-Some.at live (λ (chain : List PlacedCell). GetsNone c.args.page chain c.args.space.now c.give_at.new.space c.args.cells.now fault) none)
    (c.give_at.ensures.err live.chain live.is_file)

pub returns-in-Some-clause-kept : goal.returns-in-Some-clause-kept
returns-in-Some-clause-kept g c = λ chains are.
    let pages = g.M.MetaPages.pages c.args.pages.now in
    let new = g.M.MetaPages.pages c.give_at.new.pages in
    let live = live_chain pages c.args.tag chains c.in-Some.at (subst (IsLiveCell pages (chains c.args.tag)) c.in-Some.is (c.live_cell.ensures chains are.files)) in
    map_three_err c.give_at.result
    (λ fault none cells_is pages_is. together_kept pages new c.args.self.now.fileset c.args.self.now.tags chains live.chain c.args.page c.args.space.now c.give_at.new.space c.args.cells.now c.give_at.new.cells fault pages_is cells_is none are)
    (c.give_at.ensures.err live.chain live.is_file) c.give_at.ensures.cells c.give_at.ensures.pages

pub returns-in-Some-clause-others : goal.returns-in-Some-clause-others
returns-in-Some-clause-others g c = λ chains are.
    let pages = g.M.MetaPages.pages c.args.pages.now in
    let live = live_chain pages c.args.tag chains c.in-Some.at (subst (IsLiveCell pages (chains c.args.tag)) c.in-Some.is (c.live_cell.ensures chains are.files)) in
    if_chain pages c.args.tag chains c.in-Some.at live (λ (chain : List PlacedCell). LeavesOtherCells c.args.cells.now chain pages (g.M.MetaPages.pages c.give_at.new.pages)) (c.give_at.ensures.others live.chain live.is_file)

pub returns-in-None-clause-err : goal.returns-in-None-clause-err
returns-in-None-clause-err g c = λ chains are.
    let pages = g.M.MetaPages.pages c.args.pages.now in
    absurd (not_live pages c.args.tag chains c.args.page (c.requires.grows chains are) (subst (IsLiveCell pages (chains c.args.tag)) c.in-None.is (c.live_cell.ensures chains are.files)))
