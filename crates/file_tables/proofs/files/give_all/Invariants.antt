use Rattle.file_world.specs.Worlds.{IsWorld}
use Rattle.file_tables.proofs.files.give_all.Given as goal

abbrev pub invariant-loop-number : goal.invariant-loop-number
invariant-loop-number l = IsWorld l.world
