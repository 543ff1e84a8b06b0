use Rattle.std.proofs.Common.{ℕ}
use Rattle.page_faults.specs.sorted_sets.Members.{IsIn}
use Rattle.page_faults.specs.page_ways.Frame.{frame_in}
use Rattle.directory_faults.proofs.Inserted.{AreIn}
use Rattle.index_row_faults.specs.Keys.{keys_in}
use Rattle.index_row_faults.specs.Totals.{IsIndexRead, IsWrongBy}
use Rattle.index_row_faults.specs.declared.there.IndexThere.{IndexThere}
use Rattle.index_row_faults.proofs.Items.{AreSo}
use Rattle.index_row_faults.proofs.wrong.insert_wrong_indexes.Given as goal

abbrev pub invariant-loop-index : goal.invariant-loop-index
invariant-loop-index g l =
    AreIn l.indexes (λ (index : IndexThere) home. IsWrongBy (g.M.MetaPages.pages l.pages) (frame_in l.frame) (keys_in l.keys index.tag) index home) (IsIn l.initial.found) (IsIn l.found) l.index-index
    × AreSo (λ (index : IndexThere). IsIndexRead (g.M.MetaPages.pages l.pages) (frame_in l.frame) index.first) l.indexes l.index-index
