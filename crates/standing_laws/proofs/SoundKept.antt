-- A domain is as rules ask beside where tables of cells and pages of indexes are as they were, and pages that tags get are members'.
use Rattle.std.proofs.Common.{◌≡◌, ◌⊎◌, ℕ, ◌<◌, true, List, Option, Some, None, IsSomeAnd, Contains, refl, sym, subst, ⊎_elim}
use Rattle.domain_standing.specs.domain_base.declared.place.CellAt.{CellAt}
use Rattle.domain_standing.specs.domain_base.declared.place.Home.{Home}
use Rattle.domain_standing.specs.log_ring.Homes.{IsMember}
use Rattle.domain_standing.specs.metadata_cells.Cell.{Cell}
use Rattle.domain_standing.specs.metadata_cells.CellPage.{home_of}
use Rattle.domain_standing.specs.metadata_cells.declared.head.CellKind.TheVariants.{Chain}
use Rattle.domain_standing.specs.tag_dirs.Directory.{has_home}
use Rattle.domain_standing.specs.directory_pages.Index.{IsIndexPage}
use Rattle.domain_standing.specs.free_cells.Cells.{table_of}
use Rattle.domain_standing.specs.free_space.Spaces.{volume_of}
use Rattle.domain_standing.specs.free_space.VolumeSpace.{IsFreePage, VolumeSpace}
use Rattle.domain_standing.proofs.OfFilesetFiles.Created.{stands_by_page}
use Rattle.domain_standing.specs.release_list.Standing.{Files}
use Rattle.domain_standing.specs.domain_layout.CellRules.{is_chain_records}
use Rattle.domain_standing.specs.domain_layout.Owners.{IsOnTable}
use Rattle.domain_standing.specs.domain_layout.Reached.{Frame, IsWithin}
use Rattle.domain_standing.specs.Chains.{IndexesAt}
use Rattle.domain_standing.specs.Domain.{DomainNow, layout_of}
use Rattle.domain_standing.specs.Holders.{AreHeldAt, Holder, Holds, HoldsOwned}
use Rattle.domain_standing.specs.Holders.Holder.{of_cells, of_file, of_index, of_log, of_table, of_tags, of_volume}
use Rattle.standing_laws.proofs.HeldHolders.{MayTake}
use Rattle.standing_laws.specs.Sound.{StandsSound, StandsSoundBut}
use Rattle.standing_laws.proofs.SoundParted.{NoFile, good_by, sound_but, sound_none}
use Rattle.standing_laws.proofs.HomeLists.{in_get}

-- a page that may be taken is one of a member's
pub can_within : (d : DomainNow) (files : Files) (indexes : IndexesAt) → HoldsOwned d files indexes → (home : Home) → MayTake d.space home → IsWithin d.frame home
can_within d files indexes owned home can = by_volume (volume_of d.space home.vol) (owned.spaces home.vol can.0) can.1
  where
    by_volume : (o : Option VolumeSpace) → AreHeldAt d files indexes home.vol o → IsSomeAnd o (λ v. (v.is_open ≡ true) × IsFreePage v home.page) → IsWithin d.frame home
    by_volume None at free = absurd free
    by_volume (Some space) at free = (at.0, subst (λ n. home.page < n) at.1.count free.1.within)

module _ (d now : DomainNow) (files : Files) (indexes : IndexesAt) (apart : CellAt → Type 0) (sound : StandsSoundBut apart d files indexes) (frame : now.frame ≡ d.frame) (tables : (vol : ℕ) → table_of now.cells vol ≡ table_of d.cells vol)
    (tags : (n : ℕ) (home : Home) → has_home (now.tags n) home ≡ true → (has_home (d.tags n) home ≡ true) ⊎ IsWithin d.frame home)
    (on_cells : (home : Home) → Holds d files indexes of_cells home → now.pages home ≡ d.pages home)
    (on_index : (at : CellAt) (k : ℕ) (home : Home) → Holds d files indexes (of_index at k) home → now.pages home ≡ d.pages home)
  where
    in_now : (home : Home) → IsWithin d.frame home → IsWithin now.frame home
    in_now home is = subst (λ (f : Frame). IsWithin f home) (sym frame) is

    member_was : (vol : ℕ) → IsMember now.frame.anchor vol → IsMember d.frame.anchor vol
    member_was vol is = subst (λ (f : Frame). IsMember f.anchor vol) frame is

    table_was : (vol page : ℕ) → Contains (table_of now.cells vol) page → Contains (table_of d.cells vol) page
    table_was vol page on = subst (λ (t : List ℕ). Contains t page) (tables vol) on

    within : (home : Home) (holder : Holder) → ¬ holder ≡ of_volume → ¬ holder ≡ of_log → Holds now files indexes holder home → IsWithin now.frame home
    within home of_volume no_volume no_log held = absurd (no_volume refl)
    within home of_log no_volume no_log held = absurd (no_log refl)
    within home of_table no_volume no_log held = in_now home (sound.within home of_table no_volume no_log (subst (λ (f : Frame). f.anchor.table ≡ Some home) frame held))
    within home of_cells no_volume no_log held = in_now home (sound.within home of_cells no_volume no_log (member_was home.vol held.0, table_was home.vol home.page held.1))
    within home (of_tags n) no_volume no_log held = ⊎_elim (λ was. in_now home (sound.within home (of_tags n) no_volume no_log was)) (λ new. in_now home new) (tags n home held)
    within home (of_index at k) no_volume no_log held = in_now home (sound.within home (of_index at k) no_volume no_log held)
    within home (of_file at page) no_volume no_log held = in_now home (sound.within home (of_file at page) no_volume no_log held)

    laters : (at : CellAt) (cell : Cell) → IsOnTable now.pages (layout_of now) at cell → cell.head.kind ≡ Chain → is_chain_records cell.records ≡ true
    laters at cell on kind =
        let member = member_was at.vol on.member in
        let table = table_was at.vol at.page on.table in
        sound.laters at cell (record { member = member; table = table; stands = stands_by_page now.pages d.pages at cell (sym (on_cells (home_of at) (member, table))) on.stands }) kind

    good : (at : CellAt) (home : Home) → Contains (indexes at) home → apart at ⊎ IsSomeAnd (now.pages home) IsIndexPage
    good at home among =
        let k = in_get (indexes at) home among in
        good_by (apart at) (d.pages home) (now.pages home) (on_index at k.0 home k.1) (sound.good at home among)

    pub but_kept : StandsSoundBut apart now files indexes
    but_kept = record { within = within; laters = laters; good = good }

pub sound_kept : (d now : DomainNow) (files : Files) (indexes : IndexesAt) → StandsSound d files indexes → now.frame ≡ d.frame → ((vol : ℕ) → table_of now.cells vol ≡ table_of d.cells vol)
    → ((n : ℕ) (home : Home) → has_home (now.tags n) home ≡ true → (has_home (d.tags n) home ≡ true) ⊎ IsWithin d.frame home)
    → ((home : Home) → Holds d files indexes of_cells home → now.pages home ≡ d.pages home)
    → ((at : CellAt) (k : ℕ) (home : Home) → Holds d files indexes (of_index at k) home → now.pages home ≡ d.pages home) → StandsSound now files indexes
sound_kept d now files indexes sound frame tables tags on_cells on_index =
    sound_none now files indexes (but_kept d now files indexes NoFile (sound_but d files indexes NoFile sound) frame tables tags on_cells on_index)
