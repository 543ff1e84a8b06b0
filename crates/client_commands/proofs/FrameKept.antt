-- The anchor and version with which a domain was opened are its own.
use Rattle.std.proofs.Common.{◌≡◌, ap}
use Rattle.std.proofs.Math.Logic.{∥∥₁_map}
use Rattle.file_commands.specs.domain_layout.Reached.{Frame}
use Rattle.file_commands.specs.page_ways.Frame.{frame_in}
use Rattle.file_commands.specs.page_ways.contracts.frame.DomainFrame as frame
use Rattle.file_commands.specs.page_ways.declared.frame.DomainFrame.{DomainFrame}
use Rattle.file_commands.proofs.OfStoredSet.Stable.{equal}

pub frame_is : (f : DomainFrame) (g : Frame) → ∥ frame_in f ≡ g ∥₁ → frame_in f ≡ g
frame_is f g held = ap frame_in (equal frame.the_row.coded f (record { anchor = g.anchor; version = g.version }) (∥∥₁_map held (λ is i. record { anchor = (is i).anchor; version = (is i).version })))
