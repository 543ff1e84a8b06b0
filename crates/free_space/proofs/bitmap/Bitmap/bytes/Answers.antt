use Rattle.std.proofs.Common.{sym, subst}
use Rattle.free_space.specs.VolumePages.{VolumePages}
use Rattle.free_space.specs.Bits.{ShowsMap}
use Rattle.free_space.proofs.Used.{viewed_map}
use Rattle.free_space.proofs.FirstRuns.{shows_map}
use Rattle.free_space.proofs.bitmap.Bitmap.bytes.Goals as goal

pub returns : goal.returns
returns c =
    subst (λ (m : VolumePages). ShowsMap m c.as_slice.result.now) c.self.view_is
    (subst (λ bytes. ShowsMap (viewed_map c.self.inside.bytes.items c.self.inside.pages) bytes) (sym c.as_slice.ensures.value) (shows_map c.self.invariant))
