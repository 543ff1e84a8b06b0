-- Where no rule is broken, a bit is 1 exactly where the page belongs to an owner.
use Rattle.std.proofs.Common.{◌≡◌, ◌∙◌, ◌⊎◌, inl, inr, ℕ, ◌+◌, ◌*◌, ◌/◌, ◌%◌, ◌<◌, ◌≤◌, ◌↔◌, Bool, true, false, List, [], Option, Some, None, IsSome, refl, sym, ap, subst, arith, ⊎_elim}
use Rattle.std.proofs.lemmas.Bool.{cases_Bool, eq-eqb, eqb-true}
use Rattle.std.specs.FinSet.{contains}
use Rattle.std.specs.Option.{option_map_or}
use Rattle.fileset_shapes.specs.domain_base.Version.{bitmap_pages, most_pages}
use Rattle.fileset_shapes.specs.domain_base.declared.version.Version.{Version}
use Rattle.fileset_shapes.specs.domain_base.declared.version.Version.TheVariants.{Four, Three}
use Rattle.fileset_shapes.specs.domain_base.declared.place.Home.{Home}
use Rattle.fileset_shapes.specs.page_store.Pages.{Pages}
use Rattle.fileset_shapes.specs.free_space.Bits.{is_set}
use Rattle.fileset_shapes.specs.log_ring.Homes.{IsMember, member_of}
use Rattle.fileset_shapes.specs.free_space.Spaces.{Spaces, volume_of}
use Rattle.fileset_shapes.specs.free_space.VolumeSpace.{VolumeSpace}
use Rattle.fileset_shapes.specs.domain_layout.Faults.{HasNoFault}
use Rattle.fileset_shapes.specs.domain_layout.Layout.{IsLayout, Layout}
use Rattle.fileset_shapes.specs.domain_layout.Owners.{IsOwned, frame_of}
use Rattle.fileset_shapes.proofs.OfDomainLayout.OwnedOnce.{no_files}
use Rattle.domain_standing.specs.Marks.{HasBitmaps, IsMarked, IsMarkedAt, IsMarkedVolume}
use Rattle.fileset_shapes.specs.free_cells.Marks.{bitmap_home, is_marked}
use Rattle.domain_standing.specs.Space.{AreFew, IsSpaceAt, IsSpaceOf, IsVolumeSpace}

true_false : {P : Type 0} → true ≡ false → P
true_false is = absurd (cc)

module _ (pages : Pages) (layout : Layout) (laid : IsLayout pages layout) (none : HasNoFault pages (frame_of layout)) (few : AreFew layout) (there : HasBitmaps pages (frame_of layout)) where
  -- a page of a member, and its place in the bitmap
  module _ (vol page : ℕ) (member : IsMember layout.anchor vol) (within : page < (member_of layout.anchor vol).pages) where
    abbrev here : Home
    here = record { vol = vol; page = page }

    parted : page ≡ 65536 * (page / 65536) + page % 65536
    parted = omega arith

    number_within : page / 65536 < bitmap_pages layout.version (member_of layout.anchor vol).pages
    number_within = by_version layout.version (few vol member)
      where
        by_version : (version : Version) → (member_of layout.anchor vol).pages ≤ most_pages version → page / 65536 < bitmap_pages version (member_of layout.anchor vol).pages
        by_version Three most = omega (arith, within, most)
        by_version Four most = omega (arith, within)

    right : (bytes : List ℕ) → pages (bitmap_home vol page) ≡ Some bytes
        → ¬ ¬ ((is_set bytes (page % 65536) ≡ true) ↔ (IsOwned pages layout here ⊎ ((member_of layout.anchor vol).pages ≤ page)))
    right bytes at wrong =
        no_files pages layout laid none (record { code = 8; home = bitmap_home vol page }) (
          layout,
          refl,
          laid,
          inr (inl (
            refl,
            record {
              member = member;
              number = page / 65536;
              within = number_within;
              at = refl;
              bytes = bytes;
              there = at;
              bit = page % 65536;
              some = omega arith;
              wrong = subst (λ p. ¬ ((is_set bytes (page % 65536) ≡ true) ↔ (IsOwned pages layout (record { vol = vol; page = p }) ⊎ ((member_of layout.anchor vol).pages ≤ p)))) parted wrong;
            },
          )),
        )

    free_by : (bytes : List ℕ) → pages (bitmap_home vol page) ≡ Some bytes → (is_set bytes (page % 65536) ≡ false) ↔ ¬ IsOwned pages layout here
    free_by bytes at = (
      (λ clear owned. right bytes at (λ both. true_false (sym (both.1 (inl owned)) ∙ clear))),
      (λ unowned. ⊎_elim (λ set. absurd (right bytes at (λ both. ⊎_elim unowned (λ past. omega (arith, past, within)) (both.0 set)))) (λ clear. clear) (cases_Bool (is_set bytes (page % 65536)))),
    )

    marked_free : (is_marked pages vol page ≡ false) ↔ ¬ IsOwned pages layout here
    marked_free = by_page (pages (bitmap_home vol page)) refl (there vol page member within)
      where
        by_page : (o : Option (List ℕ)) → pages (bitmap_home vol page) ≡ o → IsSome o → (option_map_or (λ bytes. is_set bytes (page % 65536)) o false ≡ false) ↔ ¬ IsOwned pages layout here
        by_page None none_there is = true_false (sym is)
        by_page (Some bytes) at is = free_by bytes at

  space_at : (vol : ℕ) (o : Option VolumeSpace) → IsMarkedAt pages (frame_of layout) vol o → IsSpaceAt pages layout vol o
  space_at vol None none = none
  space_at vol (Some space) (member, marked) = (
    member,
    record {
      count = marked.count;
      opened = (
        (λ is. eqb-true (member_of layout.anchor vol).state 1 (sym marked.opened ∙ is)),
        (λ one. marked.opened ∙ eq-eqb (member_of layout.anchor vol).state 1 one),
      );
      free = λ page within.
          let right = marked_free vol page member (subst (λ n. page < n) marked.count within) in
          ((λ unused. right.0 (sym (marked.used page within) ∙ unused)), (λ unowned. marked.used page within ∙ right.1 unowned));
      settled = marked.settled;
    },
  )

  pub marked_space : (space : Spaces) → IsMarked pages (frame_of layout) space → IsSpaceOf pages layout space
  marked_space space marked vol first = space_at vol (volume_of space vol) (marked vol first)
