-- A bit of a bitmap says still what it said, where the first pages of volumes are as they were.
use Rattle.std.proofs.Common.{◌≡◌, ◌∙◌, ⊎_elim, ℕ, ◌*◌, ◌/◌, ◌%◌, ◌<◌, ◌≤◌, false, List, Option, Some, is_some, sym, ap, subst, arith}
use Rattle.std.proofs.lemmas.Bool.{cases_Bool}
use Rattle.std.specs.Option.{option_map_or}
use Rattle.domain_standing.specs.domain_base.Version.{bitmap_pages, most_pages}
use Rattle.domain_standing.specs.domain_base.declared.place.Home.{Home}
use Rattle.domain_standing.specs.domain_base.declared.version.Version.{Version}
use Rattle.domain_standing.specs.domain_base.declared.version.Version.TheVariants.{Three, Four}
use Rattle.domain_standing.specs.tag_dirs.Directory.{has_home}
use Rattle.domain_standing.specs.log_ring.Homes.{IsMember, member_of}
use Rattle.domain_standing.specs.free_space.Bits.{is_set}
use Rattle.domain_standing.specs.free_space.Spaces.{Spaces}
use Rattle.domain_standing.specs.fileset_files.Creation.{LeavesBeside}
use Rattle.domain_standing.specs.fileset_table.declared.slot.FilesetEntry.{FilesetEntry}
use Rattle.domain_standing.specs.release_list.Standing.{Files}
use Rattle.domain_standing.specs.domain_layout.Reached.{Frame, first_cells}
use Rattle.domain_standing.specs.free_cells.Marks.{bitmap_home, is_marked}
use Rattle.domain_standing.specs.Chains.{IndexesAt}
use Rattle.domain_standing.specs.Domain.{DomainNow}
use Rattle.domain_standing.specs.Holders.{Holds}
use Rattle.domain_standing.specs.Holders.Holder.{of_cells, of_table, of_tags, of_volume}
use Rattle.domain_standing.specs.Standing.{IsMarkedBut}
use Rattle.domain_standing.specs.Tables.{StandTables}
use Rattle.standing_laws.specs.GoingFileset.{BeginsToGo}
use Rattle.standing_laws.specs.Leads.{StandsBelow}
use Rattle.standing_laws.specs.NewFileset.{JoinsEmpty}
use Rattle.standing_laws.specs.OtherPages.{KeepsVolumes}
use Rattle.standing_laws.proofs.TablesTaken.{unheld_taken}

on_bitmap : (version : Version) (pages page : ℕ) → pages ≤ most_pages version → page < pages → page / 65536 < bitmap_pages version pages
on_bitmap Three pages page most within = omega (arith, most, within)
on_bitmap Four pages page most within = omega (arith, within)

behind_bitmap : (count page : ℕ) → page < 65536 * count → page / 65536 < count
behind_bitmap count page within = omega (arith, within)

module _ (d now : DomainNow) (tables : StandTables d) (frame : now.frame ≡ d.frame) (keeps : KeepsVolumes d now) where
  bitmap_same : (vol page : ℕ) → IsMember d.frame.anchor vol → page / 65536 < bitmap_pages d.frame.version (member_of d.frame.anchor vol).pages → now.pages (bitmap_home vol page) ≡ d.pages (bitmap_home vol page)
  bitmap_same vol page member within = keeps (bitmap_home vol page) member (omega (arith, within))

  marked_same : (vol page : ℕ) → IsMember d.frame.anchor vol → page / 65536 < bitmap_pages d.frame.version (member_of d.frame.anchor vol).pages → is_marked now.pages vol page ≡ is_marked d.pages vol page
  marked_same vol page member within = ap (λ (o : Option (List ℕ)). option_map_or (λ bytes. is_set bytes (page % 65536)) o false) (bitmap_same vol page member within)

  inside : (vol page : ℕ) → IsMember d.frame.anchor vol → page < (member_of d.frame.anchor vol).pages → page / 65536 < bitmap_pages d.frame.version (member_of d.frame.anchor vol).pages
  inside vol page member within = on_bitmap d.frame.version (member_of d.frame.anchor vol).pages page (tables.few vol member) within

  pub bits_stay : (space : Spaces) → IsMarkedBut (record d { space = space }) → IsMarkedBut (record now { space = space })
  bits_stay space was = subst (λ (f : Frame). IsMarkedBut (record now { frame = f; space = space })) (sym frame) here
    where
      here : IsMarkedBut (record now { frame = d.frame; space = space })
      here = record {
        there = λ vol page member within. ap is_some (bitmap_same vol page member (inside vol page member within)) ∙ was.there vol page member within;
        bits = λ vol page member within.
            let same = marked_same vol page member (inside vol page member within) in
            let said = was.bits vol page member within in
            ((λ marked. said.0 (sym same ∙ marked)), (λ held. same ∙ said.1 held));
        behind = λ vol page member far within.
            marked_same vol page member (behind_bitmap (bitmap_pages d.frame.version (member_of d.frame.anchor vol).pages) page within) ∙ was.behind vol page member far within;
      }

-- ---- where a fileset begins, and begins to go

module _ (number : ℕ) (entry : FilesetEntry) (d now : DomainNow) (files : Files) (indexes : IndexesAt) (below : StandsBelow d files indexes) where
  no_table : (home : Home) → Holds d files indexes of_volume home → ¬ d.frame.anchor.table ≡ Some home
  no_table home held at = differ (below.owned.once home of_volume of_table held at)
    where
      differ : of_volume ≡ of_table → ⊥
      differ e = cc

  pub bits_begun : JoinsEmpty number entry d now → (space : Spaces) → IsMarkedBut (record d { space = space }) → IsMarkedBut (record now { space = space })
  bits_begun s = bits_stay d now below.tables s.frame keeps
    where
      keeps : KeepsVolumes d now
      keeps home member first = s.others home (no_table home (member, first))
          (λ e. unheld_taken d files indexes below.owned entry.first_tag s.low s.free of_volume (subst (Holds d files indexes of_volume) e (member, first)))

  pub bits_went : BeginsToGo number entry d now → (space : Spaces) → IsMarkedBut (record d { space = space }) → IsMarkedBut (record now { space = space })
  bits_went s = bits_stay d now below.tables (ap (λ (x : DomainNow). x.frame) s.same) keeps
    where
      keeps : KeepsVolumes d now
      keeps home member first = s.others home (no_table home (member, first))

-- ---- where tables of cells change, and a tag directory

module _ (number : ℕ) (d now : DomainNow) (files : Files) (indexes : IndexesAt) (tables : StandTables d) (after : StandsBelow now files indexes) (frame : now.frame ≡ d.frame) (beside : LeavesBeside now.cells (now.tags number) d.pages now.pages) where
  held_now : (home : Home) → IsMember d.frame.anchor home.vol → home.page < first_cells d.frame home.vol → Holds now files indexes of_volume home
  held_now home member first = subst (λ (f : Frame). IsMember f.anchor home.vol × (home.page < first_cells f home.vol)) (sym frame) (member, first)

  no_cells : of_volume ≡ of_cells → ⊥
  no_cells e = cc

  no_tags : of_volume ≡ of_tags number → ⊥
  no_tags e = cc

  keeps_beside : KeepsVolumes d now
  keeps_beside home member first = beside home
      (λ on. no_cells (after.owned.once home of_volume of_cells (held_now home member first) (subst (λ (f : Frame). IsMember f.anchor home.vol) (sym frame) member, on)))
      (⊎_elim
      (λ has. absurd (no_tags (after.owned.once home of_volume (of_tags number) (held_now home member first) has)))
      (λ other. other)
      (cases_Bool (has_home (now.tags number) home)))

  pub bits_beside : (space : Spaces) → IsMarkedBut (record d { space = space }) → IsMarkedBut (record now { space = space })
  bits_beside = bits_stay d now tables frame keeps_beside
