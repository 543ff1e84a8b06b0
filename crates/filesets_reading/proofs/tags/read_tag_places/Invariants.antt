use Rattle.filesets_reading.specs.Good.{frame_at}
use Rattle.filesets_reading.proofs.TagPlaces.{TagWalk}
use Rattle.filesets_reading.proofs.tags.read_tag_places.Given as goal

abbrev pub invariant-loop : goal.invariant-loop
invariant-loop g l = TagWalk (g.M.MetaPages.pages l.pages) (frame_at l.anchor l.fn.version) l.first l.places.items l.home
