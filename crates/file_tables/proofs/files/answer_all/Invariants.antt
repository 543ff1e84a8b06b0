use Rattle.file_world.specs.Worlds.{IsWorld}
use Rattle.file_tables.proofs.files.answer_all.Given as goal

abbrev pub invariant-loop-line : goal.invariant-loop-line
invariant-loop-line l = IsWorld l.world
