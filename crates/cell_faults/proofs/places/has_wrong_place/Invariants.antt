use Rattle.page_ways.specs.Frame.{frame_in}
use Rattle.cell_faults.proofs.WrongPlace.{AreGoodPlaces}
use Rattle.cell_faults.proofs.places.has_wrong_place.Given as goal

abbrev pub invariant-loop-cell : goal.invariant-loop-cell
invariant-loop-cell g l = AreGoodPlaces (g.M.MetaPages.pages l.pages) (frame_in l.frame) l.table l.home l.cell
