use Rattle.name_space.proofs.LeafChecks.{directory_gone}
use Rattle.name_space.proofs.unlink.rmdir_at.Goals as goal

pub returns-in-Ok-clause-ok : goal.returns-in-Ok-clause-ok
returns-in-Ok-clause-ok g c = λ slot original.
    let old = g.S.BitfileSet.files c.args.set.now in
    let new = g.S.BitfileSet.files c.take_path.new.set in
    directory_gone old new slot original c.args.path.now c.in-Ok.directory.tag c.in-Ok.directory.gone (c.in-Ok.ensures.ok slot original)
