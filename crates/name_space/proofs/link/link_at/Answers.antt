use Rattle.std.proofs.Common.{◌≡◌, is_some, ap, subst}
use Rattle.plain_program.specs.domain_base.declared.place.Kind.TheVariants.{File}
use Rattle.plain_program.specs.fileset_model.Apply.{link_checks}
use Rattle.name_space.specs.Changes.{AddsLink}
use Rattle.name_space.proofs.Faults.{faulted, unrefused}
use Rattle.name_space.proofs.LinkedNames.{links}
use Rattle.name_space.proofs.Originals.{is_in}
use Rattle.name_space.proofs.link.link_at.Goals as goal

pub add_link-requires-clause-there : goal.add_link-requires-clause-there
add_link-requires-clause-there g c =
    let old = g.S.BitfileSet.files c.args.set.now in
    let has = c.requires.names in
    let at = c.in-Ok.ensures has.0 has.1 in
    ap is_some (is_in old has.0 has.1.names has.1.role c.args.path.now c.in-Ok.place.tag File at.1).there

pub returns-in-Ok-add_link-clause-ok : goal.returns-in-Ok-add_link-clause-ok
returns-in-Ok-add_link-clause-ok g c = λ slot original.
    let old = g.S.BitfileSet.files c.args.set.now in
    let new = g.S.BitfileSet.files c.add_link.new.set in
    links old new slot original c.args.path.now c.args.to.now c.requires.some_to c.in-Ok.place (c.in-Ok.ensures slot original)
    (subst (λ n. AddsLink c.in-Ok.place n old new) c.last_name.ensures c.in-Ok-add_link.ensures.ok)

pub returns-in-Err-add_link-clause-err : goal.returns-in-Err-add_link-clause-err
returns-in-Err-add_link-clause-err g c =
    faulted (link_checks c.args.path.now c.args.to.now) (g.S.BitfileSet.files c.args.set.now) (g.S.BitfileSet.files c.add_link.new.set) (g.S.BitfileSet.missed c.args.set.now) (g.S.BitfileSet.missed c.add_link.new.set) c.in-Err-add_link.fault c.from.result c.from.ensures c.in-Err-add_link.ensures.no_page
    (λ slot original. (c.in-Ok.ensures slot original).0)

pub returns-in-Err-add_link-clause-refused : goal.returns-in-Err-add_link-clause-refused
returns-in-Err-add_link-clause-refused g c = unrefused (c.add_link.new.set ≡ c.args.set.now) c.in-Err-add_link.fault c.from.result c.from.ensures
