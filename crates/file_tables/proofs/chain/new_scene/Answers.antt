use Rattle.std.proofs.Common.{[], refl}
use Rattle.file_tables.proofs.Answered.{if_ok}
use Rattle.file_tables.proofs.chain.new_scene.Goals as goal

pub returns : goal.returns
returns c = if_ok c.new_world.result (λ world together. record { allocated = together.1.allocated; chain = []; is = refl; on_tables = tt }) c.new_world.ensures.together
