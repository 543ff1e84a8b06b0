-- No entry of a domain in which each file stands alone gives a clone's file.
use Rattle.std.proofs.Common.{◌≡◌, Option, Some, None, IsSomeAnd, refl, subst}
use Rattle.standing_laws.specs.domain_base.declared.place.CellAt.{CellAt}
use Rattle.standing_laws.specs.release_list.Standing.{Files}
use Rattle.standing_laws.specs.domain_standing.Chains.{IndexesAt}
use Rattle.standing_laws.specs.domain_standing.Domain.{DomainNow, all_of}
use Rattle.standing_laws.specs.domain_standing.Sources.{StandAlone}
use Rattle.standing_laws.specs.Leads.{StandsBelow}
use Rattle.standing_laws.proofs.SourcesSaid.{files_alone}
use Rattle.release_laws.proofs.SeenTrimmed.{GiveNone}

pub gives_none : (d : DomainNow) (files : Files) (indexes : IndexesAt) → StandsBelow d files indexes → StandAlone d → GiveNone (all_of d files)
gives_none d files indexes below alone e inside = by_clone e.clone refl
  where
    by_clone : (o : Option CellAt) → e.clone ≡ o → o ≡ None
    by_clone None none = refl
    by_clone (Some c) some = absurd (subst (λ o. IsSomeAnd o (λ source. source.at ≡ e.at)) (files_alone d files indexes below alone c) ((below.chains.well.listed.each e inside).given c some))
