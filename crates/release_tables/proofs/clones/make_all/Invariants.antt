use Rattle.file_world.specs.Worlds.{IsWorld}
use Rattle.release_tables.proofs.clones.make_all.Given as goal

abbrev pub invariant-loop : goal.invariant-loop
invariant-loop l = IsWorld l.world
