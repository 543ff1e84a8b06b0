-- For what the pages of a domain that was just made are held.
use Rattle.std.proofs.Common.{◌≡◌, ◌∙◌, ℕ, true, false, List, [], Option, Some, None, refl, sym, ap}
use Rattle.fileset_shapes.specs.domain_base.declared.place.Home.{Home}
use Rattle.fileset_shapes.specs.tag_dirs.Directory.{has_home}
use Rattle.fileset_shapes.specs.tag_dirs.declared.dir.TagPlace.{TagPlace}
use Rattle.fileset_shapes.specs.extent_maps.declared.run.PagePlace.TheVariants.{Absent, At}
use Rattle.fileset_shapes.specs.free_space.Spaces.{volume_of}
use Rattle.fileset_shapes.specs.free_space.VolumeSpace.{VolumeSpace, is_among, is_waiting}
use Rattle.domain_standing.specs.Space.{IsSpaceAt, IsSpaceOf, IsVolumeSpace}
use Rattle.fileset_shapes.specs.domain_layout.Layout.{IsLayout}
use Rattle.fileset_shapes.specs.domain_layout.Owners.{BelongsTo, IsOwned, IsOwnedOnce, Owner}
use Rattle.domain_standing.proofs.NewTables.{no_extent_page, no_index_page}
use Rattle.fileset_shapes.specs.domain_layout.NewDomain.{IsNew}
use Rattle.domain_standing.specs.Chains.{no_files, no_indexes}
use Rattle.domain_standing.specs.Domain.{DomainNow, layout_of}
use Rattle.domain_standing.specs.Holders.{AreHeldAt, AreHeldOn, Holder, Holds, HoldsOwned, IsUnheld}

abbrev owner_of : Holder → Owner
owner_of Holder.of_volume = Owner.of_volume
owner_of Holder.of_log = Owner.of_log
owner_of Holder.of_table = Owner.of_table
owner_of Holder.of_cells = Owner.of_cells
owner_of (Holder.of_tags number) = Owner.of_tags number
owner_of (Holder.of_index at place) = Owner.of_index at place
owner_of (Holder.of_file at page) = Owner.of_file at page

abbrev holder_of : Owner → Holder
holder_of Owner.of_volume = Holder.of_volume
holder_of Owner.of_log = Holder.of_log
holder_of Owner.of_table = Holder.of_table
holder_of Owner.of_cells = Holder.of_cells
holder_of (Owner.of_tags number) = Holder.of_tags number
holder_of (Owner.of_index at place) = Holder.of_index at place
holder_of (Owner.of_file at page) = Holder.of_file at page

back : (holder : Holder) → holder_of (owner_of holder) ≡ holder
back Holder.of_volume = refl
back Holder.of_log = refl
back Holder.of_table = refl
back Holder.of_cells = refl
back (Holder.of_tags number) = refl
back (Holder.of_index at place) = refl
back (Holder.of_file at page) = refl

module _ (d : DomainNow) (new : IsNew d.pages d.frame) (laid : IsLayout d.pages (layout_of d)) (untagged : (number : ℕ) → d.tags number ≡ []) where
  no_tags : (number : ℕ) (home : Home) → ¬ has_home (d.tags number) home ≡ true
  no_tags number home has =
      let e : false ≡ true = sym (ap (λ (places : List TagPlace). has_home places home) (untagged number)) ∙ has in
      absurd (cc)

  belongs : (holder : Holder) (home : Home) → Holds d no_files no_indexes holder home → BelongsTo d.pages (layout_of d) (owner_of holder) home
  belongs Holder.of_volume home is = is
  belongs Holder.of_log home is = is
  belongs Holder.of_table home is = is
  belongs Holder.of_cells home is = is
  belongs (Holder.of_tags number) home is = absurd (no_tags number home is)
  belongs (Holder.of_index at place) home is = let e : None ≡ Some home = is in absurd (cc)
  belongs (Holder.of_file at page) home is = let e : Absent ≡ At home = is in absurd (cc)

  held : (owner : Owner) (home : Home) → BelongsTo d.pages (layout_of d) owner home → Holds d no_files no_indexes (holder_of owner) home
  held Owner.of_volume home is = is
  held Owner.of_log home is = is
  held Owner.of_table home is = is
  held Owner.of_cells home is = is
  held (Owner.of_tags number) home is = absurd (no_tags number home is.has)
  held (Owner.of_index at place) home is = absurd (no_index_page d.pages (layout_of d) new laid at place home is)
  held (Owner.of_file at page) home is = absurd (no_extent_page d.pages (layout_of d) new laid at page home is)

  unheld : (home : Home) → ¬ IsOwned d.pages (layout_of d) home → IsUnheld d no_files no_indexes home
  unheld home none holder is = none (owner_of holder, belongs holder home is)

  unowned : (home : Home) → IsUnheld d no_files no_indexes home → ¬ IsOwned d.pages (layout_of d) home
  unowned home none (owner, is) = none (holder_of owner) (held owner home is)

  none_waits : (space : VolumeSpace) (page : ℕ) → space.waiting ≡ [] → is_waiting space page ≡ false
  none_waits space page settled = ap (λ waiting. is_among waiting page) settled

  held_on : (vol : ℕ) (space : VolumeSpace) → IsVolumeSpace d.pages (layout_of d) vol space → AreHeldOn d no_files no_indexes vol space
  held_on vol space is = record {
    count = is.count;
    opened = is.opened;
    free = λ page within. (
      (λ unused. (unheld (record { vol = vol; page = page }) ((is.free page within).0 unused), none_waits space page is.settled)),
      (λ none. (is.free page within).1 (unowned (record { vol = vol; page = page }) none.0)),
    );
    waits = λ page waits. let e : false ≡ true = sym (none_waits space page is.settled) ∙ waits in absurd (cc);
  }

  held_at : (vol : ℕ) (o : Option VolumeSpace) → IsSpaceAt d.pages (layout_of d) vol o → AreHeldAt d no_files no_indexes vol o
  held_at vol None is = is
  held_at vol (Some space) is = (is.0, held_on vol space is.1)

  pub holds_owned : IsOwnedOnce d.pages (layout_of d) → IsSpaceOf d.pages (layout_of d) d.space → HoldsOwned d no_files no_indexes
  holds_owned once is = record {
    once = λ home one other in_one in_other.
        sym (back one) ∙ ap holder_of (once home (owner_of one) (owner_of other) (belongs one home in_one) (belongs other home in_other)) ∙ back other;
    spaces = λ vol first. held_at vol (volume_of d.space vol) (is vol first);
  }
