use Rattle.std.proofs.Common.{◌∙◌, ◌+◌, ◌<◌, List, Some, IfSome, Contains, length, map, take, drop, sym, ap, subst, arith}
use Rattle.std.proofs.lemmas.List.{length-map}
use Rattle.std.specs.FinMap.Entries.{put}
use Rattle.release_list.specs.metadata_cells.declared.head.CellHead.{CellHead}
use Rattle.release_list.specs.metadata_cells.CellPage.{home_of}
use Rattle.release_list.specs.metadata_cells.Chain.{LeavesOthers, PlacedCell, StandsAt, is_at, places}
use Rattle.release_list.proofs.OfMetadataCells.Frames.{stands_stays}
use Rattle.release_list.specs.file_chains.FileChanges.{AreOnTables}
use Rattle.release_list.proofs.OfFileChains.Added.{not_zeros, off_table}
use Rattle.release_list.proofs.OfFileChains.ChainChanges.{at_apart}
use Rattle.release_list.proofs.OfFileChains.FewPages.{one_changes}
use Rattle.release_list.proofs.OfFileChains.OnePage.{place_stands}
use Rattle.release_list.proofs.OfFileChains.Still.{allocated_still}
use Rattle.release_list.proofs.OfFileRelease.Stepped.{writable}
use Rattle.release_list.specs.Standing.{IsQuotas}
use Rattle.quota_book.specs.fileset_values.Orders.{owner_cmp}
use Rattle.release_list.proofs.OfFreeCells.Volumes.{map_ok}
use Rattle.quota_book.specs.QuotaCells.{Said, touched}
use Rattle.release_steps.specs.QuotaChain.{ReadCell, SetsLimits, records_for, said_in, says_of}
use Rattle.release_steps.proofs.InPlace.{set_limits_there, touched_there}
use Rattle.release_steps.proofs.PickedCell.{picked, picked_few, place_on}
use Rattle.release_steps.proofs.SaidRecords.{put_few}
use Rattle.release_steps.proofs.setting.set_in_place.Goals as goal

pub index_mut-cell-requires : goal.index_mut-cell-requires
index_mut-cell-requires g c =
    let found = c.args.found.now.items in
    omega (arith, (touched_there (map says_of found) c.args.who c.args.place c.requires.touched).0, length-map found says_of)

pub write_quota-requires-clause-place : goal.write_quota-requires-clause-place
write_quota-requires-clause-place g c =
    let pages = g.M.MetaPages.pages c.args.pages.now in
    let chain = c.requires.quotas.0 in
    let cell = c.index_mut-cell.result.now in
    let p = picked pages c.args.first.now chain c.args.found.now.items c.args.who cell c.args.place c.requires.quotas.1 (c.requires.read chain c.requires.quotas.1) c.requires.touched c.index_mut-cell.ensures.value in
    place_stands pages cell.at p.c.cell p.stands

pub write_quota-requires-clause-next : goal.write_quota-requires-clause-next
write_quota-requires-clause-next g c =
    let pages = g.M.MetaPages.pages c.args.pages.now in
    let chain = c.requires.quotas.0 in
    let cell = c.index_mut-cell.result.now in
    let p = picked pages c.args.first.now chain c.args.found.now.items c.args.who cell c.args.place c.requires.quotas.1 (c.requires.read chain c.requires.quotas.1) c.requires.touched c.index_mut-cell.ensures.value in
    subst (λ (h : CellHead). IfSome h.next (λ at. at.cell < 28)) (ap (λ (r : ReadCell). r.head) p.read) (writable pages cell.at p.c.cell p.stands).next

pub write_quota-requires-clause-few : goal.write_quota-requires-clause-few
write_quota-requires-clause-few g c =
    let pages = g.M.MetaPages.pages c.args.pages.now in
    let chain = c.requires.quotas.0 in
    let cell = c.index_mut-cell.result.now in
    let p = picked pages c.args.first.now chain c.args.found.now.items c.args.who cell c.args.place c.requires.quotas.1 (c.requires.read chain c.requires.quotas.1) c.requires.touched c.index_mut-cell.ensures.value in
    let few = picked_few pages cell.at p.c.cell cell.said.items p.stands p.quota (ap (λ (r : ReadCell). r.said) p.read) in
    omega (arith, put_few c.args.who c.args.limits cell.said.items cell.sorted few p.room, ap length (c.deref.ensures.value ∙ c.in_ok-put.ensures.ok))

pub returns-clause-ok : goal.returns-clause-ok
returns-clause-ok g c = λ chain cells fileset is on.
    let old = g.M.MetaPages.pages c.args.pages.now in
    let new = g.M.MetaPages.pages c.write_quota.new.pages in
    let start = c.args.first.now in
    let who = c.args.who in
    let limits = c.args.limits in
    let k = c.args.place in
    let cell = c.index_mut-cell.result.now in
    let p = picked old start chain c.args.found.now.items who cell k is (c.requires.read chain is) c.requires.touched c.index_mut-cell.ensures.value in
    let front = take k chain in
    let rest = drop (k + 1) chain in
    let put_said = c.deref.ensures.value ∙ c.in_ok-put.ensures.ok in
    map_ok (λ stands.
    let there = subst (λ (said : Said). StandsAt new cell.at (record { head = cell.head; records = records_for said })) put_said stands in
    subst (λ (cs : List PlacedCell). SetsLimits fileset who limits start cs cells cells old new) (sym p.is)
    (set_limits_there old new start front p.c rest (subst (IsQuotas old start) p.is is) who limits c.requires.named
    (subst (λ (r : ReadCell). StandsAt new r.at (record { head = r.head; records = records_for (put owner_cmp who limits r.said) })) (sym p.read) there)
    (subst (λ (r : ReadCell). LeavesOthers (is_at r.at) old new) (sym p.read) c.write_quota.ensures.others)
    (ap (λ (cs : List PlacedCell). touched (said_in cs) who) (sym p.is) ∙ p.touches ∙ ap Some (sym p.long)) fileset cells (subst (AreOnTables cells) p.is on)))
    c.write_quota.result c.write_quota.ensures.ok

pub returns-clause-others : goal.returns-clause-others
returns-clause-others g c = λ chain cells is q standing stood on apart.
    let old = g.M.MetaPages.pages c.args.pages.now in
    let new = g.M.MetaPages.pages c.write_quota.new.pages in
    let cell = c.index_mut-cell.result.now in
    let p = picked old c.args.first.now chain c.args.found.now.items c.args.who cell c.args.place is (c.requires.read chain is) c.requires.touched c.index_mut-cell.ensures.value in
    stands_stays old new (is_at cell.at) c.write_quota.ensures.others q standing (at_apart cell.at q (λ same. apart (subst (Contains (places chain)) same p.inside))) stood

pub returns-clause-elsewhere : goal.returns-clause-elsewhere
returns-clause-elsewhere g c = λ chain cells is on h out.
    let old = g.M.MetaPages.pages c.args.pages.now in
    let cell = c.index_mut-cell.result.now in
    let p = picked old c.args.first.now chain c.args.found.now.items c.args.who cell c.args.place is (c.requires.read chain is) c.requires.touched c.index_mut-cell.ensures.value in
    c.write_quota.ensures.elsewhere h (off_table cells cell.at h (place_on cells chain cell.at on p.inside) out)

pub returns-clause-few : goal.returns-clause-few
returns-clause-few g c =
    one_changes (g.M.MetaPages.pages c.args.pages.now) (g.M.MetaPages.pages c.write_quota.new.pages) (home_of c.index_mut-cell.result.now.at) c.write_quota.ensures.elsewhere

pub returns-clause-allocated : goal.returns-clause-allocated
returns-clause-allocated g c = λ space cells allocated.
    let old = g.M.MetaPages.pages c.args.pages.now in
    let new = g.M.MetaPages.pages c.write_quota.new.pages in
    let chain = c.requires.quotas.0 in
    let cell = c.index_mut-cell.result.now in
    let p = picked old c.args.first.now chain c.args.found.now.items c.args.who cell c.args.place c.requires.quotas.1 (c.requires.read chain c.requires.quotas.1) c.requires.touched c.index_mut-cell.ensures.value in
    allocated_still space cells old new allocated c.write_quota.ensures.well_formed c.write_quota.ensures.headers (is_at cell.at) c.write_quota.ensures.others
    (λ q free. at_apart cell.at q (λ same. not_zeros old q cell.at p.c.cell (allocated.belong.zeros q free) p.stands (sym same)))
