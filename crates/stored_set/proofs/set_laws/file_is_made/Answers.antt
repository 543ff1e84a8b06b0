use Rattle.stored_set.proofs.Made.{made}
use Rattle.stored_set.proofs.set_laws.file_is_made.Goals as goal

pub returns : goal.returns
returns c = λ fileset prefer places places_now space space_now cells cells_now old new chains indexes files tag version what was creates takes beside.
    made fileset prefer places places_now space space_now cells cells_now old new chains indexes files was tag version what creates takes beside
