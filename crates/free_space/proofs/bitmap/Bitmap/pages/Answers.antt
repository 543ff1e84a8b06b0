use Rattle.std.proofs.Common.{ap, ◌∙◌}
use Rattle.std.specs.FinSet.{contains}
use Rattle.free_space.specs.VolumePages.{VolumePages}
use Rattle.free_space.proofs.Used.{used_within}
use Rattle.free_space.proofs.bitmap.Bitmap.pages.Goals as goal

pub returns-clause-within : goal.returns-clause-within
returns-clause-within c p used =
    used_within c.self.inside.bytes.items c.self.inside.pages p (ap (λ (m : VolumePages). contains m.used p) c.self.view_is ∙ used)
