-- A rack of files tells nothing.
use Rattle.std.proofs.Common.{◌≡◌, false, true}

pub tells_none : false ≡ true → ⊥
tells_none told = cc
