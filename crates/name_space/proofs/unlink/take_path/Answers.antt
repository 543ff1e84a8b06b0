use Rattle.std.proofs.Common.{◌≡◌, subst}
use Rattle.name_space.specs.Changes.{TakesName, taking_checks}
use Rattle.name_space.proofs.Faults.{faulted, unrefused}
use Rattle.name_space.proofs.Spots.{spot_facts}
use Rattle.name_space.proofs.Taken.{removes}
use Rattle.name_space.proofs.unlink.take_path.Goals as goal

pub take_name-requires-clause-there : goal.take_name-requires-clause-there
take_name-requires-clause-there g c =
    let old = g.S.BitfileSet.files c.args.set.now in
    (spot_facts old c.requires.names (taking_checks c.args.of c.args.path.now) c.args.path.now c.requires.some c.in-Ok.spot c.in-Ok.ensures.spot).2

pub returns-in-Ok-take_name-clause-ok : goal.returns-in-Ok-take_name-clause-ok
returns-in-Ok-take_name-clause-ok g c = λ slot original.
    let old = g.S.BitfileSet.files c.args.set.now in
    let new = g.S.BitfileSet.files c.take_name.new.set in
    let path = c.args.path.now in
    let spot = c.in-Ok.spot in
    let at = c.in-Ok.ensures.spot slot original in
    removes old new slot original path c.requires.some spot.dir at.1 spot.tag spot.kind at.2 c.in-Ok.ensures.bare (g.met.S.BitfileSet.sound c.args.set.now spot.tag) c.in-Ok-take_name.gone
    (subst (λ n. TakesName spot.dir n spot.tag old new c.in-Ok-take_name.gone) c.last_name.ensures c.in-Ok-take_name.ensures.ok)
    (taking_checks c.args.of path) at.0

pub returns-in-Err-take_name-clause-err : goal.returns-in-Err-take_name-clause-err
returns-in-Err-take_name-clause-err g c =
    faulted (taking_checks c.args.of c.args.path.now) (g.S.BitfileSet.files c.args.set.now) (g.S.BitfileSet.files c.take_name.new.set) (g.S.BitfileSet.missed c.args.set.now) (g.S.BitfileSet.missed c.take_name.new.set) c.in-Err-take_name.fault c.from.result c.from.ensures c.in-Err-take_name.ensures.no_page
    (λ slot original. (c.in-Ok.ensures.spot slot original).0)

pub returns-in-Err-take_name-clause-refused : goal.returns-in-Err-take_name-clause-refused
returns-in-Err-take_name-clause-refused g c = unrefused (c.take_name.new.set ≡ c.args.set.now) c.in-Err-take_name.fault c.from.result c.from.ensures
