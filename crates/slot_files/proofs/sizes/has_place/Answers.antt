use Rattle.std.proofs.Common.{◌≡◌, ◌∙◌, false, true, IsSome, refl, sym, ap, subst}
use Rattle.index_row_faults.specs.extent_maps.Runs.{home_at}
use Rattle.slot_files.specs.Said.{place_there}
use Rattle.slot_files.proofs.sizes.has_place.Goals as goal

no_bool : {P : Type 0} → false ≡ true → P
no_bool is = absurd (cc)

pub returns-in-At : goal.returns-in-At
returns-in-At c = ((λ so. subst (λ p. IsSome (home_at p)) (ap place_there (sym c.in-At.is) ∙ c.place_in.ensures) refl), (λ some. refl))

pub returns-in-Hole : goal.returns-in-Hole
returns-in-Hole c = ((λ so. no_bool so), (λ some. subst (λ p. IsSome (home_at p)) (sym c.place_in.ensures ∙ ap place_there c.in-Hole.is) some))

pub returns-in-Absent : goal.returns-in-Absent
returns-in-Absent c = ((λ so. no_bool so), (λ some. subst (λ p. IsSome (home_at p)) (sym c.place_in.ensures ∙ ap place_there c.in-Absent.is) some))
