use Rattle.std.proofs.Common.{refl}
use Rattle.name_space.proofs.RenameChecks.{way_refused}
use Rattle.name_space.proofs.Spots.{has_names}
use Rattle.name_space.proofs.rename.rename_at.Goals as goal

pub walk-requires-clause-names : goal.walk-requires-clause-names
walk-requires-clause-names g c = has_names (g.S.BitfileSet.files c.args.set.now) c.requires.names

pub returns-in-Err-walk-clause-err : goal.returns-in-Err-walk-clause-err
returns-in-Err-walk-clause-err g c = (
  refl,
  λ slot original.
      let old = g.S.BitfileSet.files c.args.set.now in
      way_refused old slot original c.args.path.now c.args.to.now c.in-Err-walk.refusal (c.in-Ok.ensures slot original).0 (c.in-Err-walk.ensures slot original.names),
)
