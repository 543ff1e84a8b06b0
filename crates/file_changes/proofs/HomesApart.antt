-- The homes of a file's pages: each is one of a member's, and of one page alone.
use Rattle.std.proofs.Common.{◌≡◌, ◌∙◌, ◌<◌, ℕ, IsSomeAnd, List, [], ◌∷◌, Option, Some, None, sym, ap, refl}
use Rattle.std.specs.FinMap.{get}
use Rattle.std.specs.Option.{option_map_or}
use Rattle.domain_memory.specs.domain_base.declared.place.CellAt.{CellAt}
use Rattle.domain_memory.specs.domain_base.declared.place.Home.{Home}
use Rattle.domain_memory.specs.domain_base.declared.place.Tag.{Tag}
use Rattle.domain_memory.specs.metadata_cells.Chain.{PlacedCell}
use Rattle.domain_memory.specs.extent_maps.declared.run.PagePlace.TheVariants.{Absent, At}
use Rattle.domain_memory.specs.file_chains.Files.{places_of}
use Rattle.domain_memory.specs.fileset_files.Files.{Chains, place_at}
use Rattle.domain_memory.proofs.OfFilesetFiles.Created.{one_chains}
use Rattle.domain_memory.specs.fileset_model.Filesets.{FilesetMap}
use Rattle.domain_memory.specs.fileset_values.Orders.{Path}
use Rattle.domain_memory.specs.fileset_model.declared.fileset.FilesetSlot.{FilesetSlot}
use Rattle.domain_memory.specs.fileset_table.declared.slot.FilesetEntry.{FilesetEntry}
use Rattle.domain_memory.specs.legal_histories.State.{MemberMap}
use Rattle.domain_memory.specs.release_list.Standing.{place_in}
use Rattle.set_standing.specs.Around.{StandsAround}
use Rattle.domain_memory.specs.domain_standing.Domain.{DomainNow}
use Rattle.domain_memory.specs.domain_standing.Holders.{Holder}
use Rattle.domain_memory.specs.page_ways.Frame.{frame_in}
use Rattle.domain_memory.specs.Staged.{staged_in}
use Rattle.domain_memory.specs.declared.memory.DomainMemory.{DomainMemory}
use Rattle.file_changes.proofs.Changed.{around_file}
use Rattle.file_changes.specs.Extents.{HasMembers}
use Rattle.file_changes.specs.Stages.{AreFilesIn, HasFile}

module _ (memory : DomainMemory) (number : ℕ) (tag : Tag) (path : Path) (all : FilesetMap) (entry : FilesetEntry) (fileset : FilesetSlot) (has : HasFile memory number tag path all entry fileset) (chains : Chains) (are : AreFilesIn memory number chains) where
  abbrev d : DomainNow
  d = staged_in memory

  abbrev around : StandsAround number d
  around = around_file memory number tag path all entry fileset has

  -- the page is one of the file's that begins at a cell
  record IsOneOf (page : ℕ) (home : Home) : Type 0 where
    pub at : CellAt
    pub there : place_in around.files at page ≡ At home

  same : chains tag ≡ around.chains tag
  same = one_chains d.pages number (d.tags number) chains around.chains are around.well.together.files tag

  one_of : (page : ℕ) (home : Home) → place_at chains tag page ≡ At home → IsOneOf page home
  one_of page home there = by_chain (around.chains tag) refl
    where
      here : option_map_or (λ cells. places_of cells page) (around.chains tag) Absent ≡ At home
      here = ap (λ (o : Option (List PlacedCell)). option_map_or (λ cells. places_of cells page) o Absent) (sym same) ∙ there

      by_chain : (o : Option (List PlacedCell)) → around.chains tag ≡ o → IsOneOf page home
      by_chain None is = absurd (let e : Absent ≡ At home = ap (λ (o : Option (List PlacedCell)). option_map_or (λ cells. places_of cells page) o Absent) (sym is) ∙ here in cc)
      by_chain (Some []) is = absurd (let e : Absent ≡ At home = ap (λ (o : Option (List PlacedCell)). option_map_or (λ cells. places_of cells page) o Absent) (sym is) ∙ here in cc)
      by_chain (Some (first ∷ rest)) is = record {
        at = first.at;
        there =
            let begins = rw is at (around.well.among.same tag) in
            ap (λ (o : Option (List PlacedCell)). option_map_or (λ cells. places_of cells page) o Absent) (begins ∙ sym is) ∙ here;
      }

  pub home_once : (p q : ℕ) (home : Home) → place_at chains tag p ≡ At home → place_at chains tag q ≡ At home → p ≡ q
  home_once p q home one other =
      let a = one_of p home one in
      let b = one_of q home other in
      (around.well.well.together.once a.at b.at p q home a.there b.there).1

  pub home_within : (members : MemberMap) → HasMembers (frame_in memory.frame) members → (page : ℕ) (home : Home) → place_at chains tag page ≡ At home → IsSomeAnd (get members home.vol) (λ member. home.page < member.pages)
  home_within members within page home there =
      let a = one_of page home there in
      within home (around.sound.within home (Holder.of_file a.at page) (λ e. cc) (λ e. cc) a.there)
