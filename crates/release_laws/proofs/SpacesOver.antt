-- What was kept of free space is what it was after steps.
use Rattle.std.proofs.Common.{◌≡◌, ◌∙◌, ℕ, List, [], ◌∷◌, Option, Some, None, refl, sym, ap, subst, ⊎_elim}
use Rattle.standing_laws.specs.domain_base.declared.place.CellAt.{CellAt}
use Rattle.standing_laws.specs.domain_base.declared.place.Home.{Home}
use Rattle.standing_laws.specs.domain_base.declared.version.Version.{Version}
use Rattle.standing_laws.specs.metadata_cells.Chain.{PlacedCell}
use Rattle.standing_laws.specs.extent_maps.declared.run.PagePlace.TheVariants.{Absent, At}
use Rattle.standing_laws.specs.file_chains.Files.{places_of}
use Rattle.standing_laws.specs.free_space.declared.waiting.PageUse.{PageUse}
use Rattle.standing_laws.specs.free_space.Spaces.{Spaces, kept_spaces}
use Rattle.standing_laws.proofs.OfFreeSpace.Kept.{kept-with_waiting}
use Rattle.standing_laws.specs.file_release.declared.reader.Reader.{Reader}
use Rattle.standing_laws.specs.file_release.Releases.{with_given}
use Rattle.standing_laws.specs.file_release.Sharing.{IsReader}
use Rattle.standing_laws.specs.release_list.Standing.{Files}
use Rattle.standing_laws.specs.release_list.Steps.{IsGiven, IsWell, LetsPages, Now, Step, Steps, file_ends, more, none, pages_go, quota_goes, reading_ends, tag_page_goes, trim_ends}
use Rattle.standing_laws.proofs.OfReleaseSteps.Fits.{Fits, well_fits}
use Rattle.standing_laws.proofs.OfReleaseSteps.DeferredLaws.{fits_step}
use Rattle.standing_laws.proofs.OfReleaseSteps.Narrower.{in_last}
use Rattle.release_laws.proofs.SeenTrimmed.{GiveNone, alone_step}

given_kept : (kind : PageUse) (group : ℕ) (homes : List Home) (space : Spaces) → kept_spaces (with_given kind group homes space) ≡ kept_spaces space
given_kept kind group [] space = refl
given_kept kind group (home ∷ homes) space =
    kept-with_waiting (record { page = home.page; kind = kind; group = group }) (with_given kind group homes space) home.vol ∙ given_kept kind group homes space

absent_at : (home : Home) → Absent ≡ At home → ⊥
absent_at home e = cc

no_reader : (files : Files) (clone : Option CellAt) (reader : Option Reader) (own : List PlacedCell) → clone ≡ None → IsGiven files clone reader own → reader ≡ None
no_reader files None None own alone given = refl
no_reader files None (Some reader) own alone given = absurd given
no_reader files (Some clone) reader own alone given = absurd (let e : Some clone ≡ None = alone in absurd (cc))

module _ (group : ℕ) (version : Version) (old new : Now) (alone : GiveNone old) where
  lets_kept : LetsPages group version old new → kept_spaces new.space ≡ kept_spaces old.space
  lets_kept s =
      ap kept_spaces s.releases.given.is ∙ given_kept _ group s.releases.given.homes s.releases.space_between
      ∙ ⊎_elim
      (λ same. ap kept_spaces same.0)
      (λ t. absurd (absent_at t.home (sym (ap (λ (cs : List PlacedCell). places_of cs t.page) (subst (λ o. IsReader new.pages o s.releases.own_now) (no_reader old.files s.entry.clone s.reader s.own (alone s.entry (in_last old.list s.front s.entry s.last)) s.given) s.releases.again.reads)) ∙ t.is)))
      s.releases.taken

  pub space_step : Step group version old new → kept_spaces new.space ≡ kept_spaces old.space
  space_step (pages_go s) = lets_kept s
  space_step (quota_goes s) = ap kept_spaces s.same_space
  space_step (trim_ends s) = ap kept_spaces s.same_space
  space_step (reading_ends s) = ap kept_spaces s.same_space
  space_step (file_ends s) = ap kept_spaces s.same_space
  space_step (tag_page_goes s) = ap kept_spaces s.takes.waits ∙ kept-with_waiting _ old.space s.takes.home.vol

record SpaceStill (first now : Now) : Type 0 where
  fits : Fits now
  alone : GiveNone now
  same : kept_spaces now.space ≡ kept_spaces first.space

space_still : (group : ℕ) (version : Version) (first : Now) (count : ℕ) (last : Now) → IsWell first → Steps group version first count last → GiveNone first → (a : CellAt) → SpaceStill first last
space_still group version first count last well steps alone a =
    elim steps as (λ count last steps. SpaceStill first last) [
      | none ↦ record { fits = well_fits first well; alone = alone; same = refl }
      | more n between last (steps → was) step ↦ record {
        fits = fits_step group version between last was.fits step;
        alone = alone_step group version between last was.fits 0 a was.alone step;
        same = space_step group version between last was.alone step ∙ was.same;
      }
    ]

pub space_over : (group : ℕ) (version : Version) (first : Now) (count : ℕ) (last : Now) → IsWell first → Steps group version first count last → GiveNone first → kept_spaces last.space ≡ kept_spaces first.space
space_over group version first count last well steps alone = (space_still group version first count last well steps alone (record { vol = 0; page = 0; cell = 0 })).same

-- no entry gives a clone's file after them either
pub alone_over : (group : ℕ) (version : Version) (first : Now) (count : ℕ) (last : Now) → IsWell first → Steps group version first count last → GiveNone first → GiveNone last
alone_over group version first count last well steps alone = (space_still group version first count last well steps alone (record { vol = 0; page = 0; cell = 0 })).alone
