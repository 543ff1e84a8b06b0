use Rattle.std.proofs.Common.{◌≡◌, ◌∙◌, ◌/◌, Some, List, sym, ap, refl, arith}
use Rattle.tag_dirs.specs.declared.dir.TagPlace.{TagPlace}
use Rattle.tag_dirs.specs.Directory.{number_with}
use Rattle.tag_dirs.proofs.Places.{number_within, unnumbered}
use Rattle.tag_dirs.proofs.dir.TagDir.change.Goals as goal

pub returns-in_default-clause-missing : goal.returns-in_default-clause-missing
returns-in_default-clause-missing g c = λ no. (unnumbered c.args.self.now (c.args.slot / 1022) (sym c.number_of.ensures ∙ c.in_default.is), refl)

pub index_mut-requires : goal.index_mut-requires
index_mut-requires g c =
    let places = c.self.inside.places.items in
    let index = c.args.slot / 1022 in
    let at : number_with places index ≡ Some c.in-Some.number = ap (λ (ps : List TagPlace). number_with ps index) c.self.view_is ∙ sym c.number_of.ensures ∙ c.in-Some.is in
    omega (arith, number_within places index c.in-Some.number at, c.self.invariant.guessed)
