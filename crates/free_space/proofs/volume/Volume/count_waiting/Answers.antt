use Rattle.std.proofs.Common.{arith}
use Rattle.free_space.proofs.StaysSound.{waiting_used, used_pages}
use Rattle.free_space.proofs.volume.Volume.count_waiting.Goals as goal

pub overflow_cast-result : goal.overflow_cast-result
overflow_cast-result c = omega (arith, waiting_used c.self.invariant.sound, used_pages c.self.invariant.sound, c.self.invariant.sound.limit)

pub returns-clause-bound : goal.returns-clause-bound
returns-clause-bound c = omega (arith, waiting_used c.self.invariant.sound, used_pages c.self.invariant.sound, c.self.invariant.sound.limit)
