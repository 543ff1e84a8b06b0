use Rattle.std.proofs.Common.{◌≡◌, ◌⊎◌, ◌↔◌, ℕ, List, length, refl, subst, arith}
use Rattle.std.proofs.lemmas.Option.{slice_get_read}
use Rattle.page_faults.specs.domain_base.declared.place.Home.{Home}
use Rattle.page_faults.specs.sorted_sets.Members.{IsIn}
use Rattle.page_faults.specs.page_ways.Frame.{frame_in}
use Rattle.directory_faults.proofs.Inserted.{all_in, none_in, one_in}
use Rattle.index_row_faults.specs.Keys.{keys_in}
use Rattle.index_row_faults.specs.Totals.{IsIndexRead, IsWrongBy}
use Rattle.index_row_faults.specs.declared.there.IndexThere.{IndexThere}
use Rattle.index_row_faults.proofs.AllWrong.{all_wrong}
use Rattle.index_row_faults.proofs.Items.{so_all, so_more}
use Rattle.index_row_faults.proofs.wrong.insert_wrong_indexes.Goals as goal

pub loop-index-init : goal.loop-index-init
loop-index-init g c =
    let pages = g.M.MetaPages.pages c.args.pages.now in
    let frame = frame_in c.args.frame.now in (
      none_in c.args.indexes.now (λ (index : IndexThere) home. IsWrongBy pages frame (keys_in c.in_ok-keys.keys index.tag) index home) (IsIn c.insert_undue_indexes.new.found),
      λ k index below there. absurd (omega (arith, below)),
    )

pub loop-index-preserved : goal.loop-index-preserved
loop-index-preserved g c =
    let pages = g.M.MetaPages.pages c.args.pages.now in
    let frame = frame_in c.args.frame.now in
    let indexes = c.args.indexes.now in
    let number = c.loop-index.index-index in
    let index = c.index-item.result in
    let there = slice_get_read indexes (length indexes) number index refl c.loop-index-test.true c.index-item.is in
    let told = subst (λ (keys : List (ℕ × ℕ)). (home : Home) → IsIn c.insert_of_index.new.found home ↔ (IsIn c.loop-index.found home ⊎ IsWrongBy pages frame keys index home)) c.keys_of.ensures c.in_ok-insert_of_index.ensures.told in (
      one_in indexes (λ (index : IndexThere) home. IsWrongBy pages frame (keys_in c.in_ok-keys.keys index.tag) index home) (IsIn c.insert_undue_indexes.new.found) (IsIn c.loop-index.found) (IsIn c.insert_of_index.new.found) number index there
          c.loop-index.invariant.0 told,
      so_more (λ (index : IndexThere). IsIndexRead pages frame index.first) indexes number index there c.in_ok-insert_of_index.ensures.read c.loop-index.invariant.1,
    )

pub returns : goal.returns
returns g c table number files are_files are_rows are_indexes =
    let pages = g.M.MetaPages.pages c.args.pages.now in
    let frame = frame_in c.args.frame.now in
    let indexes = c.args.indexes.now in
    let keys = c.in_ok-keys.keys in
    let count = c.loop-index.index-index in
    let undue = c.in_ok-insert_undue_indexes.ensures pages table number are_indexes in
    let said = all_in indexes (λ (index : IndexThere) home. IsWrongBy pages frame (keys_in keys index.tag) index home) (IsIn c.insert_undue_indexes.new.found) (IsIn c.loop-index.found) count c.loop-index-test.false c.loop-index.invariant.0 in
    let read = so_all (λ (index : IndexThere). IsIndexRead pages frame index.first) indexes count c.loop-index-test.false c.loop-index.invariant.1 in
    all_wrong pages frame table number files c.args.rows.now are_files are_rows keys c.in_ok-keys.ensures indexes are_indexes read (IsIn c.args.found.now) (IsIn c.insert_undue_indexes.new.found) (IsIn c.loop-index.found) undue said
