use Rattle.std.proofs.Common.{◌∙◌, ap, sym}
use Rattle.plain_program.specs.domain_base.declared.place.Kind.TheVariants.{Directory}
use Rattle.name_space.specs.Names.{root_tag}
use Rattle.name_space.proofs.Ways.{has_kind, has_none, refusal_there, root_refusal, root_way}
use Rattle.name_space.proofs.walking.start.Goals as goal

pub returns-in-Some : goal.returns-in-Some
returns-in-Some g c = λ slot names.
    let files = g.S.BitfileSet.files c.args.set.now in
    let has = has_kind (files root_tag) c.in-Some.field-0 (sym c.kind_of.ensures ∙ c.in-Some.is) in
    (root_refusal files slot names ∙ ap (refusal_there Directory) has.1, root_way files slot names c.args.path.now has.0 has.1)

pub returns-in-None : goal.returns-in-None
returns-in-None g c = λ slot names.
    let files = g.S.BitfileSet.files c.args.set.now in
    root_refusal files slot names ∙ ap (refusal_there Directory) (has_none (files root_tag) (sym c.kind_of.ensures ∙ c.in-None.is))
