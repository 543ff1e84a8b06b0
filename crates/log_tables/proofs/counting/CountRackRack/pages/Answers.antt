use Rattle.std.proofs.Common.{◌∙◌, ap}
use Rattle.memory_disk.specs.Memory.{memory_disk}
use Rattle.log_tables.specs.Untold.{unfolded}
use Rattle.log_tables.proofs.UntoldCalls.{pages-unfolded}
use Rattle.log_tables.proofs.counting.CountRackRack.pages.Goals as goal

pub returns : goal.returns
returns c =
    c.saturating_mul.ensures ∙ ap (unfolded c.args.self.now.fold) c.pages.ensures ∙ pages-unfolded c.args.self.now.fold (memory_disk c.args.self.now.rack).sizes c.args.vol
