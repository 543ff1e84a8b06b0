-- Pages that belong to an owner are held, and those that may be taken belong to none.
use Rattle.std.proofs.Common.{◌≡◌, ◌∙◌, ℕ, ◌<◌, ◌≤◌, Bool, true, false, List, [], Option, Some, None, IsSomeAnd, refl, sym, ap, subst, arith, ⊎_elim}
use Rattle.std.proofs.lemmas.Bool.{cases_Bool}
use Rattle.std.specs.FinSet.{contains}
use Rattle.fileset_shapes.specs.domain_base.declared.place.Home.{Home}
use Rattle.fileset_shapes.specs.page_store.Pages.{Pages}
use Rattle.fileset_shapes.specs.log_ring.Homes.{IsMember, member_of}
use Rattle.fileset_shapes.specs.free_space.Spaces.{CanTake, IsHeld, Spaces, volume_of}
use Rattle.fileset_shapes.specs.free_space.VolumeSpace.{IsFreePage, VolumeSpace, is_among}
use Rattle.fileset_shapes.specs.domain_layout.Layout.{Layout}
use Rattle.fileset_shapes.specs.domain_layout.Owners.{IsOwned, frame_of}
use Rattle.fileset_shapes.specs.domain_layout.Reached.{IsWithin}
use Rattle.domain_standing.specs.Space.{IsOpen, IsSpaceAt, IsSpaceOf, IsVolumeSpace}

-- a page that may be taken stands on an open member, and belongs to no owner
pub record IsTakeable (pages : Pages) (layout : Layout) (vol page : ℕ) : Type 0 where
  pub member : IsMember layout.anchor vol
  pub opened : IsOpen layout.anchor vol
  pub within : page < (member_of layout.anchor vol).pages
  pub unowned : ¬ IsOwned pages layout (record { vol = vol; page = page })

module _ (pages : Pages) (layout : Layout) (space : Spaces) (is : IsSpaceOf pages layout space) where
  held_in : (home : Home) → IsWithin (frame_of layout) home → ¬ ¬ IsOwned pages layout home
      → (v : VolumeSpace) → IsVolumeSpace pages layout home.vol v → (contains v.used home.page ≡ true) × (is_among v.waiting home.page ≡ false)
  held_in home within owned v of = (
    ⊎_elim (λ used. used)
        (λ unused. absurd (owned ((of.free home.page (subst (λ n. home.page < n) (sym of.count) within.1)).0 unused)))
        (cases_Bool (contains v.used home.page)),
    ap (λ waiting. is_among waiting home.page) of.settled,
  )

  -- a page of a member that belongs to an owner is used, and does not wait
  pub held : (home : Home) → IsWithin (frame_of layout) home → ¬ ¬ IsOwned pages layout home → IsHeld space home.vol home.page
  held home within owned = by_volume (volume_of space home.vol) (is home.vol within.0.first)
    where
      by_volume : (o : Option VolumeSpace) → IsSpaceAt pages layout home.vol o → IsSomeAnd o (λ v. (contains v.used home.page ≡ true) × (is_among v.waiting home.page ≡ false))
      by_volume None none = absurd (none within.0)
      by_volume (Some v) of = held_in home within owned v of.1

  pub takeable : (vol page : ℕ) → 1 ≤ vol → CanTake space vol page → IsTakeable pages layout vol page
  takeable vol page first can = by_volume (volume_of space vol) (is vol first) can
    where
      by_volume : (o : Option VolumeSpace) → IsSpaceAt pages layout vol o → IsSomeAnd o (λ v. (v.is_open ≡ true) × IsFreePage v page) → IsTakeable pages layout vol page
      by_volume None none can = absurd can
      by_volume (Some v) of can = record {
        member = of.0;
        opened = of.1.opened.0 can.0;
        within = subst (λ n. page < n) of.1.count can.1.within;
        unowned = (of.1.free page can.1.within).0 can.1.unused;
      }
