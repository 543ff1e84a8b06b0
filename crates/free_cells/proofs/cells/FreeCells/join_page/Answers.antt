use Rattle.std.proofs.Common.{◌<◌, ◌∙◌, ◌&&◌, ◌||◌, ◌++◌, ◌∷◌, [], OnOk, set, length, ap, sym, subst, arith}
use Rattle.std.specs.List.{Contains}
use Rattle.metadata_cells.specs.CellPage.{is_free_in}
use Rattle.free_cells.specs.VolumeTable.{AreOn, VolumeIs, VolumeTable, is_among, is_free_there}
use Rattle.free_cells.specs.Cells.{Cells, Holds, is_closed, is_free, is_on, kept_of, volume_of, with_page_last}
use Rattle.free_cells.proofs.Volumes.{map_ok, none_fresh, page_joined, volume_read}
use Rattle.free_cells.proofs.cells.FreeCells.join_page.Goals as goal

pub add_page-requires-clause-fresh : goal.add_page-requires-clause-fresh
add_page-requires-clause-fresh c =
    let read = volume_read c.self.inside.volumes.items c.index.result c.args.home.now.vol c.index_mut.result.now (omega (arith, c.self.invariant)) c.index.ensures.value c.index_mut.ensures.value
    ∙ ap (λ (cells : Cells). volume_of cells c.args.home.now.vol) c.self.view_is in
    none_fresh c.index_mut.result.now c.args.home.now.page (subst AreOn (sym read) c.requires.others) (subst (λ (v : VolumeTable). ¬ Contains v.table c.args.home.now.page) (sym read) c.requires.fresh)

pub add_page-requires-clause-others : goal.add_page-requires-clause-others
add_page-requires-clause-others c =
    let read = volume_read c.self.inside.volumes.items c.index.result c.args.home.now.vol c.index_mut.result.now (omega (arith, c.self.invariant)) c.index.ensures.value c.index_mut.ensures.value
    ∙ ap (λ (cells : Cells). volume_of cells c.args.home.now.vol) c.self.view_is in
    subst AreOn (sym read) c.requires.others

pub returns-clause-ok : goal.returns-clause-ok
returns-clause-ok c =
    let items = c.self.inside.volumes.items in
    let home = c.args.home.now in
    let page = c.args.page.now in
    let v = c.add_page.new.self in
    let within : c.index.result < length items = omega (arith, c.self.invariant) in
    let read = volume_read items c.index.result home.vol c.index_mut.result.now within c.index.ensures.value c.index_mut.ensures.value in
    subst (λ (cells : Cells). OnOk c.add_page.result (Holds (with_page_last home cells) (is_closed cells) (λ at. is_free cells at || (is_on home at && is_free_in page at.cell)) (kept_of cells) (set items c.index.result v))) c.self.view_is
    (map_ok (λ is. page_joined items c.index.result home page v within c.index.ensures.value is) c.add_page.result
    (subst (λ (was : VolumeTable). OnOk c.add_page.result (VolumeIs (was.table ++ home.page ∷ []) was.is_closed (λ g. is_among was.free g || is_free_there home.page page g) was.kept v)) read c.add_page.ensures.ok))
