-- What rules ask of a domain where some files' indexes are left out, and where none are.
use Rattle.std.proofs.Common.{◌≡◌, ◌⊎◌, inl, inr, ℕ, List, Option, IsSomeAnd, Contains, sym, subst, ⊎_elim}
use Rattle.domain_standing.specs.domain_base.declared.place.CellAt.{CellAt}
use Rattle.domain_standing.specs.domain_base.declared.place.Home.{Home}
use Rattle.domain_standing.specs.directory_pages.Index.{IsIndexPage}
use Rattle.domain_standing.specs.release_list.Standing.{Files}
use Rattle.domain_standing.specs.Chains.{IndexesAt}
use Rattle.domain_standing.specs.Domain.{DomainNow}
use Rattle.standing_laws.specs.Sound.{StandsSound, StandsSoundBut}

-- no file
abbrev pub NoFile : CellAt → Type 0
NoFile at = ⊥

module _ (d : DomainNow) (files : Files) (indexes : IndexesAt) where
  pub sound_but : (apart : CellAt → Type 0) → StandsSound d files indexes → StandsSoundBut apart d files indexes
  sound_but apart sound = record { within = sound.within; laters = sound.laters; good = λ at home inside. inr (sound.good at home inside) }

  -- it is wholly so where those that are left out are good too
  pub sound_whole : (apart : CellAt → Type 0) → StandsSoundBut apart d files indexes → ((at : CellAt) (home : Home) → apart at → Contains (indexes at) home → IsSomeAnd (d.pages home) IsIndexPage)
      → StandsSound d files indexes
  sound_whole apart sound good = record {
    within = sound.within;
    laters = sound.laters;
    good = λ at home inside. ⊎_elim (λ out. good at home out inside) (λ is. is) (sound.good at home inside);
  }

  pub sound_none : StandsSoundBut NoFile d files indexes → StandsSound d files indexes
  sound_none sound = sound_whole NoFile sound (λ at home none inside. absurd none)

  -- more may be left out
  pub sound_more : (apart more : CellAt → Type 0) → ((at : CellAt) → apart at → more at) → StandsSoundBut apart d files indexes → StandsSoundBut more d files indexes
  sound_more apart more grows sound = record {
    within = sound.within;
    laters = sound.laters;
    good = λ at home inside. ⊎_elim (λ out. inl (grows at out)) (λ is. inr is) (sound.good at home inside);
  }

-- a page that is left out, or good, is so where it has the bytes that it had
pub good_by : (out : Type 0) (was is : Option (List ℕ)) → is ≡ was → out ⊎ IsSomeAnd was IsIndexPage → out ⊎ IsSomeAnd is IsIndexPage
good_by out was is same had = ⊎_elim (λ o. inl o) (λ good. inr (subst (λ o. IsSomeAnd o IsIndexPage) (sym same) good)) had
