-- What pages are held for once an owner's limits are set in a slot's fileset.
use Rattle.std.proofs.Common.{◌≡◌, ◌∙◌, ◌⊎◌, ⊎_elim, inl, inr, ℕ, ◌≤◌, ◌<◌, Bool, true, false, List, Option, Some, None, IsSomeAnd, Contains, refl, sym, ap, subst, arith}
use Rattle.std.proofs.lemmas.Bool.{both_ways}
use Rattle.std.specs.Option.{option_map_or}
use Rattle.std.specs.FinSet.{contains}
use Rattle.domain_standing.specs.domain_base.declared.place.CellAt.{CellAt}
use Rattle.domain_standing.specs.domain_base.declared.place.Home.{Home}
use Rattle.domain_standing.specs.log_ring.Homes.{IsLogPage, IsMember, member_of}
use Rattle.domain_standing.specs.metadata_cells.Chain.{PlacedCell}
use Rattle.domain_standing.specs.extent_maps.declared.run.PagePlace.TheVariants.{Absent}
use Rattle.domain_standing.specs.tag_dirs.declared.dir.TagPlace.{TagPlace}
use Rattle.domain_standing.specs.tag_dirs.Directory.{has_home}
use Rattle.domain_standing.specs.free_cells.Cells.{Cells, table_of}
use Rattle.domain_standing.specs.free_space.VolumeSpace.{VolumeSpace, is_among, is_waiting}
use Rattle.domain_standing.specs.free_space.Spaces.{IsHeld, volume_of}
use Rattle.domain_standing.specs.file_chains.Files.{places_of}
use Rattle.domain_standing.proofs.OfFileChains.Allocated.{there_is}
use Rattle.domain_standing.specs.quota_book.QuotaCells.{touched}
use Rattle.domain_standing.specs.release_list.Standing.{Files, place_in}
use Rattle.domain_standing.proofs.OfReleaseList.Standings.{place_by, quota_place, same_or_not}
use Rattle.domain_standing.specs.release_steps.QuotaChain.{TakesIfUntouched, said_in}
use Rattle.domain_standing.proofs.OfReleaseSteps.AllWell.{tables_grow}
use Rattle.domain_standing.specs.domain_layout.Reached.{Frame, first_cells}
use Rattle.domain_standing.specs.Space.{IsOpen}
use Rattle.domain_standing.specs.Chains.{IndexesAt}
use Rattle.domain_standing.specs.Domain.{DomainNow, all_of}
use Rattle.domain_standing.specs.Holders.{AreHeldAt, AreHeldOn, Holder, Holds, HoldsOwned, IsUnheld}
use Rattle.domain_standing.specs.Holders.Holder.{of_cells, of_file, of_index, of_log, of_table, of_tags, of_volume}
use Rattle.standing_laws.specs.Leads.{StandsBelow}
use Rattle.standing_laws.specs.SetsQuota.{SetsQuota}
use Rattle.standing_laws.proofs.HeldHolders.{MayTake}
use Rattle.standing_laws.proofs.HeldSpaces.{SpacesGrow, ThereGrows, VolumeGrows, one_new, one_spaces, spaces_same}
use Rattle.standing_laws.proofs.QuotaSlots.{other, there, was_quotas}
use Rattle.standing_laws.proofs.TablesTaken.{unheld_taken}

module _ (number : ℕ) (d now : DomainNow) (files files_now : Files) (indexes : IndexesAt) (below : StandsBelow d files indexes) (s : SetsQuota number d now files files_now) where
  abbrev Was : Holder → Home → Type 0
  Was = Holds d files indexes

  abbrev Is : Holder → Home → Type 0
  Is = Holds now files_now indexes

  -- no page of a file stands elsewhere, for quota cells have none
  place_same : (at : CellAt) (p : ℕ) → place_in files_now at p ≡ place_in files at p
  place_same at p = ⊎_elim
      (λ same.
      ap (λ (a : CellAt). place_in files_now a p) same
      ∙ place_by files_now s.sets.start s.sets.sets.after p (there number d now files files_now indexes below s) ∙ quota_place now.pages s.sets.start s.sets.sets.after s.sets.sets.is p
      ∙ sym (ap (λ (a : CellAt). place_in files a p) same ∙ was_absent (files s.sets.start) refl))
      (λ apart. ap (λ (o : Option (List PlacedCell)). option_map_or (λ cs. places_of cs p) o Absent) (other number d now files files_now indexes below s at apart))
      (same_or_not at s.sets.start)
    where
      was_absent : (o : Option (List PlacedCell)) → files s.sets.start ≡ o → place_in files s.sets.start p ≡ Absent
      was_absent None none = ap (λ (o : Option (List PlacedCell)). option_map_or (λ cs. places_of cs p) o Absent) none
      was_absent (Some cs) some = place_by files s.sets.start cs p some ∙ quota_place d.pages s.sets.start cs (was_quotas number d now files files_now indexes below s cs some) p

  member_now : (vol : ℕ) → IsMember d.frame.anchor vol → IsMember now.frame.anchor vol
  member_now vol member = subst (λ (f : Frame). IsMember f.anchor vol) (sym s.frame) member

  member_was : (vol : ℕ) → IsMember now.frame.anchor vol → IsMember d.frame.anchor vol
  member_was vol member = subst (λ (f : Frame). IsMember f.anchor vol) s.frame member

  table_back : (o : Option ℕ) → TakesIfUntouched o s.prefer d.space now.space d.cells now.cells d.pages → (vol p : ℕ) → 1 ≤ vol → Contains (table_of now.cells vol) p
      → Contains (table_of d.cells vol) p ⊎ MayTake d.space (record { vol = vol; page = p })
  table_back (Some k) same vol p low on = inl (subst (λ (c : Cells). Contains (table_of c vol) p) same.1 on)
  table_back None one vol p low on = ⊎_elim (λ was. inl was) (λ can. inr (low, can)) (one_new s.prefer d.space now.space d.cells now.cells d.pages one vol p on)

  -- what is held for something was, or it is a page of cells that could be taken
  back : (h : Holder) (home : Home) → Is h home → Was h home ⊎ ((h ≡ of_cells) × MayTake d.space home)
  back of_volume home held = inl (subst (λ (f : Frame). IsMember f.anchor home.vol × (home.page < first_cells f home.vol)) s.frame held)
  back of_log home held = inl (subst (λ (f : Frame). IsLogPage f.anchor home) s.frame held)
  back of_table home held = inl (subst (λ (f : Frame). f.anchor.table ≡ Some home) s.frame held)
  back of_cells home held = ⊎_elim
      (λ was. inl (member_was home.vol held.0, was))
      (λ can. inr (refl, can))
      (table_back (touched (said_in s.sets.chain) s.who) s.sets.taken home.vol home.page held.0.first held.1)
  back (of_tags n) home held = inl (ap (λ (t : ℕ → List TagPlace). has_home (t n) home) (sym s.tags) ∙ held)
  back (of_index at place) home held = inl held
  back (of_file at page) home held = inl (sym (place_same at page) ∙ held)

  still : (h : Holder) (home : Home) → Was h home → Is h home
  still of_volume home held = subst (λ (f : Frame). IsMember f.anchor home.vol × (home.page < first_cells f home.vol)) (sym s.frame) held
  still of_log home held = subst (λ (f : Frame). IsLogPage f.anchor home) (sym s.frame) held
  still of_table home held = subst (λ (f : Frame). f.anchor.table ≡ Some home) (sym s.frame) held
  still of_cells home held = (
    member_now home.vol held.0,
    tables_grow number s.prefer s.who s.limits s.entry.quota (all_of d files) (all_of now files_now) s.sets (touched (said_in s.sets.chain) s.who) s.sets.taken home.vol home.page held.1,
  )
  still (of_tags n) home held = ap (λ (t : ℕ → List TagPlace). has_home (t n) home) s.tags ∙ held
  still (of_index at place) home held = held
  still (of_file at page) home held = place_same at page ∙ held

  free_unheld : (home : Home) → MayTake d.space home → IsUnheld d files indexes home
  free_unheld home can = unheld_taken d files indexes below.owned home can.0 can.1

  once : (home : Home) (one two : Holder) → Is one home → Is two home → one ≡ two
  once home one two a b = ⊎_elim
      (λ was_a. ⊎_elim
      (λ was_b. below.owned.once home one two was_a was_b)
      (λ more. absurd (free_unheld home more.1 one was_a))
      (back two home b))
      (λ more. ⊎_elim
      (λ was_b. absurd (free_unheld home more.1 two was_b))
      (λ also. more.0 ∙ sym also.0)
      (back two home b))
      (back one home a)

  -- what is held for something is held in free space, or was held for it
  held_or_was : (h : Holder) (home : Home) → Is h home → IsHeld now.space home.vol home.page ⊎ Was h home
  held_or_was h home held = ⊎_elim
      (λ was. inr was)
      (λ more. inl (on_table (subst (λ (x : Holder). Is x home) more.0 held)))
      (back h home held)
    where
      on_table : Is of_cells home → IsHeld now.space home.vol home.page
      on_table on =
          subst (IsHeld now.space home.vol) (there_is (table_of now.cells home.vol) on.1.0 0 home.page on.1.1 ∙ on.1.2) (s.sets.allocated.held home.vol on.1.0 on.0.first on.1.1)

  -- ---- free space

  abbrev OnTable : Home → Type 0
  OnTable home = Contains (table_of now.cells home.vol) home.page

  grow_by : (o : Option ℕ) → TakesIfUntouched o s.prefer d.space now.space d.cells now.cells d.pages → SpacesGrow OnTable d.space now.space
  grow_by (Some k) same = spaces_same OnTable d.space now.space same.0
  grow_by None one = one_spaces s.prefer d.space now.space d.cells now.cells d.pages one OnTable (λ home on. on)

  module _ (vol : ℕ) (v w : VolumeSpace) (at_vol : volume_of now.space vol ≡ Some w) (member : IsMember d.frame.anchor vol) (held : AreHeldOn d files indexes vol v) (grows : VolumeGrows vol OnTable v w) where
    abbrev at : ℕ → Home
    at page = record { vol = vol; page = page }

    held_is : (page : ℕ) → IsHeld now.space vol page → (contains w.used page ≡ true) × (is_waiting w page ≡ false)
    held_is page is = subst (λ (o : Option VolumeSpace). IsSomeAnd o (λ x. (contains x.used page ≡ true) × (is_waiting x page ≡ false))) at_vol is

    waits_was : (page : ℕ) → is_waiting w page ≡ is_waiting v page
    waits_was page = ap (λ ws. is_among ws page) grows.waiting

    unused_was : (page : ℕ) → contains w.used page ≡ false → contains v.used page ≡ false
    unused_was page unused = by_used (contains v.used page) refl
      where
        by_used : (b : Bool) → contains v.used page ≡ b → b ≡ false
        by_used true used = absurd (both_ways (contains w.used page) unused (grows.stays page used))
        by_used false used = refl

    free_then : (page : ℕ) → page < w.pages → contains w.used page ≡ false → IsUnheld now files_now indexes (at page) × (is_waiting w page ≡ false)
    free_then page within unused =
        let before : page < v.pages = (let p = grows.pages in omega (arith, within, p)) in
        let was = (held.free page before).0 (unused_was page unused) in (
          (λ h is. ⊎_elim (λ now_held. both_ways (contains w.used page) unused (held_is page now_held).0) (λ was_held. was.0 h was_held) (held_or_was h (at page) is)),
          waits_was page ∙ was.1,
        )

    then_free : (page : ℕ) → page < w.pages → IsUnheld now files_now indexes (at page) × (is_waiting w page ≡ false) → contains w.used page ≡ false
    then_free page within is = by_used (contains w.used page) refl
      where
        before : page < v.pages
        before = let p = grows.pages in omega (arith, within, p)

        was_unused : contains v.used page ≡ false
        was_unused = (held.free page before).1 ((λ h was. is.0 h (still h (at page) was)), sym (waits_was page) ∙ is.1)

        by_used : (b : Bool) → contains w.used page ≡ b → b ≡ false
        by_used true used = absurd (⊎_elim (λ was. both_ways (contains v.used page) was_unused was) (λ taken. is.0 of_cells (member_now vol member, taken)) (grows.only page used))
        by_used false used = refl

    still_held : AreHeldOn now files_now indexes vol w
    still_held = record {
      count = grows.pages ∙ held.count ∙ ap (λ (f : Frame). (member_of f.anchor vol).pages) (sym s.frame);
      opened = (
        (λ is. subst (λ (f : Frame). IsOpen f.anchor vol) (sym s.frame) (held.opened.0 (sym grows.opened ∙ is))),
        (λ is. grows.opened ∙ held.opened.1 (subst (λ (f : Frame). IsOpen f.anchor vol) s.frame is)),
      );
      free = λ page within. (free_then page within, then_free page within);
      waits = λ page waiting h is. ⊎_elim
          (λ now_held. both_ways (is_waiting w page) (held_is page now_held).1 waiting)
          (λ was_held. held.waits page (sym (waits_was page) ∙ waiting) h was_held)
          (held_or_was h (at page) is);
    }

  spaces : (vol : ℕ) → 1 ≤ vol → AreHeldAt now files_now indexes vol (volume_of now.space vol)
  spaces vol low = by_volumes (volume_of d.space vol) (volume_of now.space vol) refl (below.owned.spaces vol low) (grow_by (touched (said_in s.sets.chain) s.who) s.sets.taken vol low)
    where
      by_volumes : (a b : Option VolumeSpace) → volume_of now.space vol ≡ b → AreHeldAt d files indexes vol a → ThereGrows vol OnTable a b → AreHeldAt now files_now indexes vol b
      by_volumes None None at_vol none grows = λ is. none (member_was vol is)
      by_volumes None (Some w) at_vol none grows = absurd grows
      by_volumes (Some v) None at_vol held grows = absurd grows
      by_volumes (Some v) (Some w) at_vol held grows = (member_now vol held.0, still_held vol v w at_vol held.0 held.1 grows)

  pub owned_still : HoldsOwned now files_now indexes
  owned_still = record { once = once; spaces = spaces }
