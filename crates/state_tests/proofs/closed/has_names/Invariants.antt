use Rattle.memory_disk.specs.Memory.{memory_disk}
use Rattle.client_commands.specs.page_ways.Frame.{frame_in}
use Rattle.client_commands.specs.staged_pages.Store.{before_of}
use Rattle.state_tests.proofs.closed.has_names.Given as goal

abbrev pub ghosts-names_kept : goal.ghosts-names_kept
ghosts-names_kept a = record {
  pages = before_of a.attached.memory.pages;
  frame = frame_in a.attached.memory.frame;
  sizes = (memory_disk a.attached.rack).sizes;
}
