use Rattle.release_steps.specs.page_store.Homes.{pages_of}
use Rattle.file_world.specs.IndexPageWorlds.{IsIndexOn}
use Rattle.file_tables.proofs.index_lines.answer_all.Given as goal

abbrev pub invariant-loop-line : goal.invariant-loop-line
invariant-loop-line l = IsIndexOn (pages_of l.world.pages.entries.items) l.world.space l.world.first
