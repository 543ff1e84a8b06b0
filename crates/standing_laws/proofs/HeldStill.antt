-- Each page is held for one thing alone after a call, and what is held for nothing is free or waits.
use Rattle.std.proofs.Common.{◌≡◌, ◌∙◌, ◌⊎◌, ⊎_elim, inl, inr, ℕ, ◌≤◌, ◌<◌, ◌==◌, Bool, true, false, List, Option, Some, None, IsSomeAnd, refl, sym, ap, subst, arith, eqb-true}
use Rattle.std.proofs.lemmas.Bool.{both_ways, eq-eqb, true≢false}
use Rattle.std.specs.FinSet.{contains}
use Rattle.domain_standing.specs.domain_base.declared.place.CellAt.{CellAt}
use Rattle.domain_standing.specs.domain_base.declared.place.Home.{Home}
use Rattle.domain_standing.specs.domain_base.declared.place.Tag.{Tag}
use Rattle.domain_standing.specs.log_ring.Homes.{IsLogPage, IsMember, member_of}
use Rattle.domain_standing.specs.tag_dirs.declared.dir.TagPlace.{TagPlace}
use Rattle.domain_standing.specs.tag_dirs.Directory.{has_home}
use Rattle.domain_standing.specs.free_cells.Cells.{table_of}
use Rattle.domain_standing.specs.free_space.VolumeSpace.{IsFreePage, VolumeSpace, is_among, is_waiting}
use Rattle.domain_standing.specs.free_space.Spaces.{IsHeld, volume_of}
use Rattle.domain_standing.proofs.OfFileChains.Allocated.{there_is}
use Rattle.domain_standing.specs.fileset_files.Files.{Chains}
use Rattle.domain_standing.specs.release_list.Standing.{Files}
use Rattle.domain_standing.specs.release_steps.Calls.{FilesetNow, StandsWell}
use Rattle.domain_standing.proofs.OfReleaseSteps.CallTables.{call_places, call_tables}
use Rattle.domain_standing.proofs.OfReleaseSteps.CallsWell.{stands_call}
use Rattle.domain_standing.specs.domain_layout.Reached.{Frame, first_cells}
use Rattle.domain_standing.specs.Space.{IsOpen}
use Rattle.domain_standing.specs.Chains.{IndexesAt}
use Rattle.domain_standing.specs.Domain.{DomainNow}
use Rattle.domain_standing.specs.Holders.{AreHeldAt, AreHeldOn, Holder, Holds, HoldsOwned, IsUnheld}
use Rattle.domain_standing.specs.Holders.Holder.{of_cells, of_file, of_index, of_log, of_table, of_tags, of_volume}
use Rattle.standing_laws.specs.Leads.{LeadsOn, StandsBelow, fileset_now}
use Rattle.standing_laws.proofs.HeldHolders.{IsOfFile, MayTake, placed, spaces_grow, table_back, tags_back}
use Rattle.standing_laws.proofs.HeldSpaces.{ThereGrows, VolumeGrows}

-- what a call on a tag of a slot may give more pages to
abbrev may_grow : ℕ → Holder → Bool
may_grow number of_volume = false
may_grow number of_log = false
may_grow number of_table = false
may_grow number of_cells = true
may_grow number (of_tags n) = n == number
may_grow number (of_index at place) = false
may_grow number (of_file at page) = true

module _ (number : ℕ) (tag : Tag) (d now : DomainNow) (chains chains_now : Chains) (files files_now : Files) (indexes : IndexesAt) (below : StandsBelow d files indexes)
    (leads : LeadsOn number tag d now chains chains_now files files_now)
  where
    abbrev old : FilesetNow
    old = fileset_now d number chains files

    abbrev new : FilesetNow
    new = fileset_now now number chains_now files_now

    stood : StandsWell number new
    stood = stands_call number d.frame.version tag old new leads.well leads.call

    abbrev Was : Holder → Home → Type 0
    Was = Holds d files indexes

    abbrev Is : Holder → Home → Type 0
    Is = Holds now files_now indexes

    -- ---- holders that get no page

    tags_there : (n : ℕ) → (n == number) ≡ false → now.tags n ≡ d.tags n
    tags_there n apart = leads.tags n (λ same. both_ways (n == number) apart (eq-eqb n number same))

    same_back : (h : Holder) (home : Home) → may_grow number h ≡ false → Is h home → Was h home
    same_back of_volume home none is = subst (λ (f : Frame). IsMember f.anchor home.vol × (home.page < first_cells f home.vol)) leads.frame is
    same_back of_log home none is = subst (λ (f : Frame). IsLogPage f.anchor home) leads.frame is
    same_back of_table home none is = subst (λ (f : Frame). f.anchor.table ≡ Some home) leads.frame is
    same_back of_cells home none is = absurd (true≢false none)
    same_back (of_tags n) home none is = ap (λ (ps : List TagPlace). has_home ps home) (sym (tags_there n none)) ∙ is
    same_back (of_index at place) home none is = is
    same_back (of_file at page) home none is = absurd (true≢false none)

    same_on : (h : Holder) (home : Home) → may_grow number h ≡ false → Was h home → Is h home
    same_on of_volume home none is = subst (λ (f : Frame). IsMember f.anchor home.vol × (home.page < first_cells f home.vol)) (sym leads.frame) is
    same_on of_log home none is = subst (λ (f : Frame). IsLogPage f.anchor home) (sym leads.frame) is
    same_on of_table home none is = subst (λ (f : Frame). f.anchor.table ≡ Some home) (sym leads.frame) is
    same_on of_cells home none is = absurd (true≢false none)
    same_on (of_tags n) home none is = ap (λ (ps : List TagPlace). has_home ps home) (tags_there n none) ∙ is
    same_on (of_index at place) home none is = is
    same_on (of_file at page) home none is = absurd (true≢false none)

    -- ---- holders that may get one

    -- which they are
    data Grower : Holder → Type 0 where
      cells : Grower of_cells
      tags : Grower (of_tags number)
      file : (at : CellAt) (page : ℕ) → Grower (of_file at page)

    grower : (h : Holder) → may_grow number h ≡ true → Grower h
    grower of_volume some = absurd (true≢false (sym some))
    grower of_log some = absurd (true≢false (sym some))
    grower of_table some = absurd (true≢false (sym some))
    grower of_cells some = cells
    grower (of_tags n) some = subst (λ (m : ℕ). Grower (of_tags m)) (sym (eqb-true n number some)) tags
    grower (of_index at place) some = absurd (true≢false (sym some))
    grower (of_file at page) some = file at page

    member_now : (vol : ℕ) → IsMember d.frame.anchor vol → IsMember now.frame.anchor vol
    member_now vol is = subst (λ (f : Frame). IsMember f.anchor vol) (sym leads.frame) is

    member_was : (vol : ℕ) → IsMember now.frame.anchor vol → IsMember d.frame.anchor vol
    member_was vol is = subst (λ (f : Frame). IsMember f.anchor vol) leads.frame is

    grown_back : (h : Holder) (home : Home) → Grower h → Is h home → Was h home ⊎ MayTake d.space home
    grown_back _ home cells is = ⊎_elim
        (λ was. inl (member_was home.vol is.0, was))
        (λ can. inr (is.0.first, can))
        (table_back number d.frame.version tag old new leads.well leads.call d.table.made leads.may home is.0.first is.1)
    grown_back _ home tags is = tags_back number d.frame.version tag old new leads.well leads.call d.table.made leads.may home is
    grown_back _ home (file at page) is = (placed number d.frame.version tag old new leads.well leads.call d.table.made leads.may).back at page home is

    grown_on : (h : Holder) (home : Home) → Grower h → Was h home → Is h home
    grown_on _ home cells was = (member_now home.vol was.0, call_tables number d.frame.version tag old new leads.call home.vol home.page was.1)
    grown_on _ home tags was = call_places number d.frame.version tag old new leads.call home was
    grown_on _ home (file at page) was = (placed number d.frame.version tag old new leads.well leads.call d.table.made leads.may).on at page home was

    grown_held : (h : Holder) (home : Home) → Grower h → Is h home → IsHeld now.space home.vol home.page
    grown_held _ home cells is =
        subst (IsHeld now.space home.vol) (there_is (table_of now.cells home.vol) is.1.0 0 home.page is.1.1 ∙ is.1.2) (stood.together.allocated.held home.vol is.1.0 is.0.first is.1.1)
    grown_held _ home tags is = (stood.together.tag_pages home is).held
    grown_held _ home (file at page) is = (stood.well.together.held at page home is).held

    -- no two of them hold one page
    grown_once : (a b : Holder) (home : Home) → Grower a → Grower b → Is a home → Is b home → a ≡ b
    grown_once _ _ home cells cells one other = refl
    grown_once _ _ home cells tags one other = absurd ((stood.together.tag_pages home other).off_table one.1)
    grown_once _ _ home cells (file at page) one other = absurd ((stood.well.together.held at page home other).off_table one.1)
    grown_once _ _ home tags cells one other = absurd ((stood.together.tag_pages home one).off_table other.1)
    grown_once _ _ home tags tags one other = refl
    grown_once _ _ home tags (file at page) one other = absurd (true≢false (sym one ∙ stood.among.no_tags at page home other))
    grown_once _ _ home (file at page) cells one other = absurd ((stood.well.together.held at page home one).off_table other.1)
    grown_once _ _ home (file at page) tags one other = absurd (true≢false (sym other ∙ stood.among.no_tags at page home one))
    grown_once _ _ home (file at page) (file at2 page2) one other =
        let same = stood.well.together.once at at2 page page2 home one other in
        λ i. of_file (same.0 i) (same.1 i)

    -- ---- all of them

    -- a page that may be taken is held for nothing
    free_unheld : (home : Home) → MayTake d.space home → IsUnheld d files indexes home
    free_unheld home can = by_volume (volume_of d.space home.vol) (below.owned.spaces home.vol can.0) can.1
      where
        by_volume : (o : Option VolumeSpace) → AreHeldAt d files indexes home.vol o → IsSomeAnd o (λ v. (v.is_open ≡ true) × IsFreePage v home.page) → IsUnheld d files indexes home
        by_volume None held free = absurd free
        by_volume (Some v) held free = ((held.1.free home.page free.1.within).0 free.1.unused).0

    once : (home : Home) (one other : Holder) → Is one home → Is other home → one ≡ other
    once home one other a b = by_tests (may_grow number one) (may_grow number other) refl refl
      where
        by_tests : (x y : Bool) → may_grow number one ≡ x → may_grow number other ≡ y → one ≡ other
        by_tests true true x y = grown_once one other home (grower one x) (grower other y) a b
        by_tests true false x y = ⊎_elim
            (λ was. below.owned.once home one other was (same_back other home y b))
            (λ free. absurd (free_unheld home free other (same_back other home y b)))
            (grown_back one home (grower one x) a)
        by_tests false true x y = ⊎_elim
            (λ was. below.owned.once home one other (same_back one home x a) was)
            (λ free. absurd (free_unheld home free one (same_back one home x a)))
            (grown_back other home (grower other y) b)
        by_tests false false x y = below.owned.once home one other (same_back one home x a) (same_back other home y b)

    still : (h : Holder) (home : Home) → Was h home → Is h home
    still h home was = by_test (may_grow number h) refl
      where
        by_test : (x : Bool) → may_grow number h ≡ x → Is h home
        by_test true some = grown_on h home (grower h some) was
        by_test false none = same_on h home none was

    -- what is held for something is held in free space, or was held for it
    held_or_was : (h : Holder) (home : Home) → Is h home → IsHeld now.space home.vol home.page ⊎ Was h home
    held_or_was h home is = by_test (may_grow number h) refl
      where
        by_test : (x : Bool) → may_grow number h ≡ x → IsHeld now.space home.vol home.page ⊎ Was h home
        by_test true some = inl (grown_held h home (grower h some) is)
        by_test false none = inr (same_back h home none is)

    -- ---- free space

    module _ (vol : ℕ) (v w : VolumeSpace) (there : volume_of now.space vol ≡ Some w) (member : IsMember d.frame.anchor vol) (held : AreHeldOn d files indexes vol v)
        (grows : VolumeGrows vol (IsOfFile number d.frame.version tag old new leads.well leads.call d.table.made leads.may) v w)
      where
        abbrev at : ℕ → Home
        at page = record { vol = vol; page = page }

        held_is : (page : ℕ) → IsHeld now.space vol page → (contains w.used page ≡ true) × (is_waiting w page ≡ false)
        held_is page is = subst (λ (o : Option VolumeSpace). IsSomeAnd o (λ x. (contains x.used page ≡ true) × (is_waiting x page ≡ false))) there is

        waits_was : (page : ℕ) → is_waiting w page ≡ is_waiting v page
        waits_was page = ap (λ ws. is_among ws page) grows.waiting

        unused_was : (page : ℕ) → contains w.used page ≡ false → contains v.used page ≡ false
        unused_was page unused = by_used (contains v.used page) refl
          where
            by_used : (b : Bool) → contains v.used page ≡ b → b ≡ false
            by_used true used = absurd (both_ways (contains w.used page) unused (grows.stays page used))
            by_used false used = refl

        -- what is taken is held for something
        taken_held : (page : ℕ) → IsOfFile number d.frame.version tag old new leads.well leads.call d.table.made leads.may (at page) → IsUnheld now files_now indexes (at page) → ⊥
        taken_held page taken unheld = ⊎_elim
            (λ has. unheld (of_file has.at has.page) has.there)
            (λ other. ⊎_elim
            (λ on. unheld of_cells (member_now vol member, on))
            (λ has. unheld (of_tags number) has)
            other)
            taken

        free_then : (page : ℕ) → page < w.pages → contains w.used page ≡ false → IsUnheld now files_now indexes (at page) × (is_waiting w page ≡ false)
        free_then page within unused =
            let before : page < v.pages = (let p = grows.pages in omega (arith, within, p)) in
            let was = (held.free page before).0 (unused_was page unused) in (
              (λ h is. ⊎_elim (λ now_held. both_ways (contains w.used page) unused (held_is page now_held).0) (λ was_held. was.0 h was_held) (held_or_was h (at page) is)),
              waits_was page ∙ was.1,
            )

        then_free : (page : ℕ) → page < w.pages → IsUnheld now files_now indexes (at page) × (is_waiting w page ≡ false) → contains w.used page ≡ false
        then_free page within is = by_used (contains w.used page) refl
          where
            before : page < v.pages
            before = let p = grows.pages in omega (arith, within, p)

            was_unused : contains v.used page ≡ false
            was_unused = (held.free page before).1 ((λ h was. is.0 h (still h (at page) was)), sym (waits_was page) ∙ is.1)

            by_used : (b : Bool) → contains w.used page ≡ b → b ≡ false
            by_used true used = absurd (⊎_elim (λ was. both_ways (contains v.used page) was_unused was) (λ taken. taken_held page taken is.0) (grows.only page used))
            by_used false used = refl

        still_held : AreHeldOn now files_now indexes vol w
        still_held = record {
          count = grows.pages ∙ held.count ∙ ap (λ (f : Frame). (member_of f.anchor vol).pages) (sym leads.frame);
          opened = (
            (λ is. subst (λ (f : Frame). IsOpen f.anchor vol) (sym leads.frame) (held.opened.0 (sym grows.opened ∙ is))),
            (λ is. grows.opened ∙ held.opened.1 (subst (λ (f : Frame). IsOpen f.anchor vol) leads.frame is)),
          );
          free = λ page within. (free_then page within, then_free page within);
          waits = λ page waiting h is. ⊎_elim
              (λ now_held. both_ways (is_waiting w page) (held_is page now_held).1 waiting)
              (λ was_held. held.waits page (sym (waits_was page) ∙ waiting) h was_held)
              (held_or_was h (at page) is);
        }

    spaces : (vol : ℕ) → 1 ≤ vol → AreHeldAt now files_now indexes vol (volume_of now.space vol)
    spaces vol low =
        by_volumes (volume_of d.space vol) (volume_of now.space vol) refl (below.owned.spaces vol low) (spaces_grow number d.frame.version tag old new leads.well leads.call d.table.made leads.may vol low)
      where
        by_volumes : (a b : Option VolumeSpace) → volume_of now.space vol ≡ b → AreHeldAt d files indexes vol a
            → ThereGrows vol (IsOfFile number d.frame.version tag old new leads.well leads.call d.table.made leads.may) a b → AreHeldAt now files_now indexes vol b
        by_volumes None None there none grows = λ is. none (member_was vol is)
        by_volumes None (Some w) there none grows = absurd grows
        by_volumes (Some v) None there held grows = absurd grows
        by_volumes (Some v) (Some w) there held grows = (member_now vol held.0, still_held vol v w there held.0 held.1 grows)

    pub owned_still : HoldsOwned now files_now indexes
    owned_still = record { once = once; spaces = spaces }
