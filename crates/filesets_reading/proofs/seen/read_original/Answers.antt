use Rattle.std.proofs.Common.{◌∙◌, None, refl, sym, subst}
use Rattle.filesets_reading.specs.Seen.{IsSeenThere}
use Rattle.filesets_reading.proofs.Originals.{keep_there, none_there, original_there}
use Rattle.filesets_reading.proofs.seen.read_original.Goals as goal

pub returns-in_default-clause-seen : goal.returns-in_default-clause-seen
returns-in_default-clause-seen g c = λ chains are.
    subst (λ o. IsSeenThere o None) (sym (none_there (chains c.args.tag) (sym (c.attributes.ensures chains are) ∙ c.in_default.is))) refl

pub unreachable-requires : goal.unreachable-requires
unreachable-requires g c =
    let chains = c.requires.0 in
    keep_there (chains c.args.tag) _ (sym (c.attributes.ensures chains c.requires.1) ∙ c.in-Some.is) (sym (c.keep.ensures chains c.requires.1) ∙ c.in_default-keep.is)

pub returns-clause-seen : goal.returns-clause-seen
returns-clause-seen g c = λ chains are.
    original_there (chains c.args.tag) _ c.in-Some-keep.keep c.in_ok-map.map (sym (c.attributes.ensures chains are) ∙ c.in-Some.is) (sym (c.keep.ensures chains are) ∙ c.in-Some-keep.is) (c.in_ok-map.ensures chains are) c.in_ok-homes.ensures.homes
