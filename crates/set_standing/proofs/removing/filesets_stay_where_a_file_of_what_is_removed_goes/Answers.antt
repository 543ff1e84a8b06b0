use Rattle.set_standing.proofs.SlotLeft.{alone_left, marked_left, parents_left, sound_left, stands_left}
use Rattle.set_standing.proofs.removing.filesets_stay_where_a_file_of_what_is_removed_goes.Goals as goal

pub returns : goal.returns
returns c = record {
  stands = stands_left;
  alone = alone_left;
  sound = sound_left;
  marked = marked_left;
  parents = parents_left;
}
