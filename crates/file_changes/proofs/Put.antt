-- Memory in which other bytes stand on a page of a file.
use Rattle.std.proofs.Common.{◌≡◌, ◌∙◌, ◌<◌, ℕ, List, [], Option, Some, IfSome, length, refl, sym, ap, subst}
use Rattle.std.specs.Option.{option_and_then, unwrap_or}
use Rattle.domain_memory.specs.domain_base.Limits.{file_pages, page_bytes}
use Rattle.domain_memory.specs.domain_base.declared.place.Home.{Home}
use Rattle.domain_memory.specs.domain_base.declared.place.Kind.TheVariants.{File}
use Rattle.domain_memory.specs.domain_base.declared.place.Tag.{Tag}
use Rattle.domain_memory.specs.page_store.Pages.{with_page as page_put}
use Rattle.domain_memory.specs.extent_maps.declared.run.PagePlace.TheVariants.{At}
use Rattle.domain_memory.specs.free_space.Spaces.{kept_spaces, volume_of}
use Rattle.domain_memory.specs.fileset_files.Files.{Chains, place_at}
use Rattle.domain_memory.specs.fileset_files.State.{FileState, state_of}
use Rattle.domain_memory.proofs.OfStoredSet.Written.{at_home, away}
use Rattle.domain_memory.specs.fileset_model.Filesets.{FilesetMap}
use Rattle.domain_memory.specs.fileset_values.Orders.{Path}
use Rattle.domain_memory.specs.fileset_model.declared.fileset.FilesetSlot.{FilesetSlot}
use Rattle.domain_memory.specs.fileset_model.declared.node.Node.{Node}
use Rattle.domain_memory.specs.fileset_table.declared.slot.FilesetEntry.{FilesetEntry}
use Rattle.domain_memory.specs.staged_pages.Store.{pages_of}
use Rattle.domain_memory.specs.domain_layout.Filled.{IsFilled}
use Rattle.set_standing.specs.Nodes.{AgreeBut, seen_of, with_page}
use Rattle.set_standing.proofs.Changed.{written}
use Rattle.domain_memory.specs.domain_standing.Domain.{DomainNow}
use Rattle.domain_memory.specs.domain_standing.Standing.{HaveParents}
use Rattle.domain_memory.specs.standing_laws.Leads.{IsLiveOf}
use Rattle.set_standing.specs.Around.{StandsAround}
use Rattle.set_standing.specs.Beside.{ChangesOneFile}
use Rattle.set_standing.proofs.FileCalls.{put_again}
use Rattle.domain_memory.specs.Staged.{staged_in}
use Rattle.domain_memory.specs.declared.memory.DomainMemory.{DomainMemory}
use Rattle.file_changes.proofs.Changed.{around_file, changed_staged, parents_stay, placed_seen, still_fits}
use Rattle.file_changes.proofs.Seen.{bytes_follow, kept_live, pages_whole, place_live, seen_live, with_pages}
use Rattle.file_changes.proofs.Turns.{kept_home, page_keeps}
use Rattle.file_changes.proofs.Opened.{still_open}
use Rattle.file_changes.specs.Reading.{KeepsOpen}
use Rattle.file_changes.specs.Stages.{AreFilesIn, HasFile, HasPage, IsFileIn, StandsChanged}

module _ (old new : DomainMemory) (same : new ≡ record old { pages = new.pages }) (number : ℕ) (tag : Tag) (page : ℕ) (bytes : List ℕ) (file : IsFileIn old number tag) (page_there : HasPage old number tag page) (small : page < file_pages)
    (home : Home) (is_home : (chains : Chains) → AreFilesIn old number chains → place_at chains tag page ≡ At home) (put : pages_of new.pages ≡ page_put home bytes (pages_of old.pages))
    (path : Path) (all : FilesetMap) (entry : FilesetEntry) (fileset : FilesetSlot) (has : HasFile old number tag path all entry fileset)
  where
    abbrev d : DomainNow
    d = staged_in old

    abbrev now : DomainNow
    now = staged_in new

    abbrev around : StandsAround number d
    around = around_file old number tag path all entry fileset has

    abbrev chains : Chains
    chains = around.chains

    live : IsLiveOf File (chains tag)
    live = file chains around.well.together.files

    at : place_at chains tag page ≡ At home
    at = is_home chains around.well.together.files

    changes : ChangesOneFile number tag (λ (s : FileState). s) (λ k. k ≡ page) chains d now
    changes = put_again number tag page d now around (ap staged_in same) (bytes_follow old new) live (λ h other. away d.pages now.pages home bytes put h (λ e. other (at ∙ ap At (sym e))))

    stands : now.pages home ≡ Some bytes
    stands = at_home d.pages now.pages home bytes put

    bytes_there : now.contents home ≡ bytes
    bytes_there = ap (λ (o : Option (List ℕ)). unwrap_or o []) stands

    whole : length bytes ≡ page_bytes
    whole = subst (λ o. IfSome o (λ page. length page ≡ page_bytes)) stands (pages_whole new home)

    turns : (state : FileState) → option_and_then state_of (chains tag) ≡ Some state → (node : Node) → IsFilled d.contents (seen_of state) node → IsFilled now.contents (seen_of state) (with_page page bytes node)
    turns state is_state node filled =
        subst (λ (b : List ℕ). IsFilled now.contents (seen_of state) (with_page page b node)) bytes_there
        (written d.contents now.contents (seen_of state) page home node
        (kept_home state page home (kept_live chains tag live state is_state page (page_there chains around.well.together.files).kept) (place_live chains tag live state is_state page ∙ at)) agree filled)
      where
        agree : AgreeBut page d.contents now.contents (seen_of state)
        agree q h other there = sym (changes.bytes.own q h other (placed_seen chains tag (seen_of state) (seen_live chains tag live state is_state) q h there))

    pub page_put_there : StandsChanged path (with_page page bytes) all entry fileset new
    page_put_there = changed_staged old number tag path all entry fileset has new (ap (λ (m : DomainMemory). m.list) same) (still_fits old number tag path all entry fileset has new (with_pages old new same)) (λ vol. ap (λ (m : DomainMemory). volume_of (kept_spaces m.space) vol) same) (λ (s : FileState). s) (λ k. k ≡ page) changes (with_page page bytes) (page_keeps page bytes small whole) live (λ state is_state. refl) turns

    pub put_parents : HaveParents d → HaveParents now
    put_parents = parents_stay old number tag path all entry fileset has new (λ (s : FileState). s) (λ k. k ≡ page) changes

    pub put_open : KeepsOpen number tag old new
    put_open = still_open old new number tag (λ (s : FileState). s) (λ k. k ≡ page) chains around.well.together.files live changes (λ state. refl) (λ state q solid. solid)
