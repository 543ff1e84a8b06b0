-- The bitmap of a domain that was just made.
use Rattle.std.proofs.Common.{◌≡◌, ◌∙◌, inr, ℕ, ◌*◌, ◌/◌, ◌%◌, ◌<◌, ◌≤◌, true, false, List, Option, Some, None, IsSome, IsSomeAnd, refl, sym, ap, subst, arith}
use Rattle.std.specs.Prelude.{◌↔◌}
use Rattle.std.specs.FinSet.{contains}
use Rattle.std.specs.Option.{option_map_or}
use Rattle.standing_laws.specs.domain_base.Version.{bitmap_pages, most_pages}
use Rattle.standing_laws.specs.domain_base.declared.version.Version.{Version}
use Rattle.standing_laws.specs.domain_base.declared.version.Version.TheVariants.{Three, Four}
use Rattle.standing_laws.specs.page_store.Pages.{Pages}
use Rattle.standing_laws.specs.free_space.Bits.{is_set}
use Rattle.standing_laws.specs.log_ring.Homes.{IsMember, member_of}
use Rattle.standing_laws.specs.free_space.Spaces.{IsHeld, Spaces, volume_of}
use Rattle.standing_laws.specs.free_space.VolumeSpace.{VolumeSpace, is_among}
use Rattle.standing_laws.specs.domain_standing.Marks.{HasBitmaps, IsMarked, IsMarkedAt}
use Rattle.standing_laws.specs.free_cells.Marks.{bitmap_home, is_marked}
use Rattle.standing_laws.specs.domain_layout.Reached.{Frame}
use Rattle.standing_laws.specs.domain_layout.NewDomain.{IsNew, IsNewBitmap, size_of}

-- a page of a volume has its bit on a page of the bitmap
in_bitmap : (version : Version) (pages page : ℕ) → pages ≤ most_pages version → page < pages → page / 65536 < bitmap_pages version pages
in_bitmap Three pages page most within = omega (arith, most, within)
in_bitmap Four pages page most within = omega (arith, within)

is_there : (o : Option (List ℕ)) (P : List ℕ → Type 0) → IsSomeAnd o P → IsSome o
is_there None P is = absurd is
is_there (Some page) P is = refl

module _ (pages : Pages) (frame : Frame) (new : IsNew pages frame) (most : size_of frame ≤ most_pages frame.version) where
  bitmap_there : (page : ℕ) → page / 65536 < bitmap_pages frame.version (size_of frame) → IsSomeAnd (pages (bitmap_home 1 page)) (IsNewBitmap frame (page / 65536))
  bitmap_there page within = new.bitmap (page / 65536) within

  pub has_bitmaps : HasBitmaps pages frame
  has_bitmaps vol page member within =
      let one = new.anchor.alone vol member in
      subst (λ v. IsSome (pages (bitmap_home v page))) (sym one)
      (is_there (pages (bitmap_home 1 page)) (IsNewBitmap frame (page / 65536)) (bitmap_there page (in_bitmap frame.version (size_of frame) page most (subst (λ v. page < (member_of frame.anchor v).pages) one within))))

  set_behind : (page : ℕ) (o : Option (List ℕ)) → size_of frame ≤ page → IsSomeAnd o (IsNewBitmap frame (page / 65536)) → option_map_or (λ bytes. is_set bytes (page % 65536)) o false ≡ true
  set_behind page None behind is = absurd is
  set_behind page (Some bytes) behind is = (is.bits (page % 65536) (omega arith)).1 (inr (omega (arith, behind)))

  pub marked_behind : (vol page : ℕ) → IsMember frame.anchor vol → (member_of frame.anchor vol).pages ≤ page
      → page < 65536 * bitmap_pages frame.version (member_of frame.anchor vol).pages → is_marked pages vol page ≡ true
  marked_behind vol page member behind within =
      let one = new.anchor.alone vol member in
      let far : size_of frame ≤ page = subst (λ v. (member_of frame.anchor v).pages ≤ page) one behind in
      let low : page < 65536 * bitmap_pages frame.version (size_of frame) = subst (λ v. page < 65536 * bitmap_pages frame.version (member_of frame.anchor v).pages) one within in
      subst (λ v. is_marked pages v page ≡ true) (sym one) (set_behind page (pages (bitmap_home 1 page)) far (bitmap_there page (omega (arith, low))))

  held_at : (vol page : ℕ) (o : Option VolumeSpace) → IsMarkedAt pages frame vol o → page < (member_of frame.anchor vol).pages → IsMember frame.anchor vol
      → (is_marked pages vol page ≡ true) ↔ IsSomeAnd o (λ v. (contains v.used page ≡ true) × (is_among v.waiting page ≡ false))
  held_at vol page None none within member = absurd (none member)
  held_at vol page (Some v) is within member =
      let used : contains v.used page ≡ is_marked pages vol page = is.1.used page (subst (λ n. page < n) (sym is.1.count) within) in
      ((λ marked. (used ∙ marked, ap (λ waiting. is_among waiting page) is.1.settled)), (λ held. sym used ∙ held.0))

  pub marked_held : (space : Spaces) → IsMarked pages frame space → (vol page : ℕ) → IsMember frame.anchor vol → page < (member_of frame.anchor vol).pages
      → (is_marked pages vol page ≡ true) ↔ IsHeld space vol page
  marked_held space marked vol page member within = held_at vol page (volume_of space vol) (marked vol member.first) within member
