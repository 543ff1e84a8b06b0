-- Whose the chains of a domain are after a call on a tag, and what of them is on the list.
use Rattle.std.proofs.Common.{◌≡◌, ◌∙◌, ◌⊎◌, ◌==◌, ℕ, suc, true, false, List, [], ◌∷◌, Option, Some, None, IfSome, IsSomeAnd, Contains, inl, inr, is_some, slice_get, refl, sym, ap, subst, eqb-true, ⊎_elim}
use Rattle.std.proofs.lemmas.Bool.{both_ways, cases_Bool, eq-eqb, true≢false}
use Rattle.std.specs.Option.{option_and_then}
use Rattle.domain_standing.specs.domain_base.declared.place.CellAt.{CellAt}
use Rattle.domain_standing.specs.domain_base.declared.place.Home.{Home}
use Rattle.domain_standing.specs.domain_base.declared.place.Tag.{Tag}
use Rattle.domain_standing.specs.page_store.Bitfiles.{same_tag}
use Rattle.domain_standing.specs.page_store.Pages.{Pages}
use Rattle.domain_standing.specs.metadata_cells.Chain.{PlacedCell}
use Rattle.domain_standing.specs.tag_dirs.declared.dir.TagPlace.{TagPlace}
use Rattle.domain_standing.specs.tag_dirs.Directory.{cell_of}
use Rattle.domain_standing.specs.file_chains.Files.{IsFile}
use Rattle.domain_standing.specs.fileset_files.Files.{AreFiles, Chains, LeadsToFile}
use Rattle.domain_standing.specs.fileset_files.Shown.{index_in, index_of}
use Rattle.domain_standing.proofs.OfFilesetFiles.OneFile.{tags_same}
use Rattle.domain_standing.proofs.OfFilesetFiles.Tags.{cell_same, pages_same}
use Rattle.domain_standing.specs.index_pages.Homes.{AreIndexHomes, IsIndexPage, next_at}
use Rattle.domain_standing.specs.tag_dirs.TagPage.{next_of}
use Rattle.domain_standing.specs.fileset_table.Table.{Table}
use Rattle.domain_standing.specs.fileset_table.declared.slot.SlotItem.{SlotItem}
use Rattle.domain_standing.specs.release_list.Listed.{left_of}
use Rattle.domain_standing.specs.release_list.Listing.{Listing}
use Rattle.domain_standing.specs.release_list.Standing.{Files}
use Rattle.domain_standing.proofs.OfReleaseList.Spread.{none_not, some_same}
use Rattle.domain_standing.proofs.OfReleaseList.Standings.{same_or_not}
use Rattle.domain_standing.specs.release_steps.Calls.{FilesetNow, Refuses}
use Rattle.domain_standing.specs.release_steps.Links.{homes_of}
use Rattle.domain_standing.specs.release_steps.Tags.{start_of}
use Rattle.domain_standing.proofs.OfReleaseSteps.Listing.{list_call}
use Rattle.domain_standing.proofs.OfReleaseSteps.TagCalls.{same_call}
use Rattle.domain_standing.proofs.OfReleaseSteps.Tags.{IsNamed, file_start, named}
use Rattle.domain_standing.specs.domain_layout.Layout.{AreTagPlaces, first_tag_of}
use Rattle.domain_standing.specs.domain_layout.TagRules.{quota_of}
use Rattle.domain_standing.specs.Chains.{HasEmptyTags, IndexesAt, IsOnList, IsQuotaOf, IsQuotaToGo, IsRemoved, IsSomebodys, IsTagged, IsToDo, StandsInSlot}
use Rattle.domain_standing.specs.Domain.{DomainNow}
use Rattle.domain_standing.specs.Holders.Holder.{of_index}
use Rattle.standing_laws.specs.Leads.{LeadsOn, StandsBelow, fileset_now}
use Rattle.standing_laws.proofs.ChainsGoOn.{ChainGoesOn, FileGoesOn}
use Rattle.standing_laws.proofs.ChainsStand.{chain_goes, other_now, there_now, was_there}
use Rattle.standing_laws.proofs.TablesStand.{other_tag_page, together_now}
use Rattle.standing_laws.proofs.TablesTaken.{page_stays}

-- a tag that names a file leads to where it begins
pub leads_there : (fileset : ℕ) (places : List TagPlace) (pages : Pages) (chains : Chains) → AreFiles fileset places pages chains → (t : Tag) (cs : List PlacedCell) (at : CellAt) → chains t ≡ Some cs → start_of cs ≡ Some at → cell_of pages places t ≡ Some at
leads_there fileset places pages chains are t cs at is start =
    by_cell (cell_of pages places t) refl (subst (λ o. IfSome o (LeadsToFile fileset places pages t)) is (are.some t)).leads
  where
    by_cell : (o : Option CellAt) → cell_of pages places t ≡ o → IsSomeAnd o (λ a. IsFile pages a cs) → cell_of pages places t ≡ Some at
    by_cell None there leads = absurd leads
    by_cell (Some a) there leads = there ∙ ap Some (file_start pages a at cs leads start)

-- an index whose pages stay
index_same : (old new : Pages) (o : Option Home) (homes : List Home) → ((k : ℕ) (home : Home) → slice_get homes k ≡ Some home → new home ≡ old home) → AreIndexHomes old o homes → AreIndexHomes new o homes
index_same old new None [] same are = are
index_same old new None (home ∷ more) same are = are
index_same old new (Some first) [] same are = are
index_same old new (Some first) (home ∷ more) same are = (
  are.0,
  subst (λ o. IsSomeAnd o IsIndexPage) (sym (same 0 home refl)) are.1,
  index_same old new (next_at new home) more (λ k h there. same (suc k) h there) (subst (λ o. AreIndexHomes old o more) (sym (ap (option_and_then next_of) (same 0 home refl))) are.2),
)

module _ (number : ℕ) (tag : Tag) (d now : DomainNow) (chains chains_now : Chains) (files files_now : Files) (indexes : IndexesAt) (below : StandsBelow d files indexes) (s : LeadsOn number tag d now chains chains_now files files_now) where
  abbrev was : FilesetNow
  was = fileset_now d number chains files

  abbrev is : FilesetNow
  is = fileset_now now number chains_now files_now

  goes : Refuses was is ⊎ ChainGoesOn tag was is
  goes = chain_goes number tag d now chains chains_now files files_now indexes below s

  module _ (g : ChainGoesOn tag was is) where
    there : files_now g.start ≡ Some g.after
    there = there_now number tag d now chains chains_now files files_now indexes below s g

    other : (at : CellAt) → ¬ at ≡ g.start → files_now at ≡ files at
    other = other_now number tag d now chains chains_now files files_now indexes below s g

    began : (cs : List PlacedCell) → FileGoesOn tag was g.start cs g.after → files g.start ≡ Some cs
    began = was_there number tag d now chains chains_now files files_now indexes below s g

  -- ---- what the table of filesets says

  pub quota_now : (n : ℕ) (at : CellAt) → IsQuotaOf d n at → IsQuotaOf now n at
  quota_now n at quota = subst (λ (t : Table). option_and_then quota_of (slice_get t.slots n) ≡ Some at) (sym s.table) quota

  pub quota_was : (n : ℕ) (at : CellAt) → IsQuotaOf now n at → IsQuotaOf d n at
  quota_was n at quota = subst (λ (t : Table). option_and_then quota_of (slice_get t.slots n) ≡ Some at) s.table quota

  removed_now : (n : ℕ) → IsRemoved (slice_get d.table.slots n) → IsRemoved (slice_get now.table.slots n)
  removed_now n removed = subst (λ (t : Table). IsRemoved (slice_get t.slots n)) (sym s.table) removed

  pub list_same : now.list ≡ d.list
  list_same = list_call number d.frame.version tag was is s.call

  -- ---- tags of other slots

  pub cell_stays : (n : ℕ) → ¬ n ≡ number → (t : Tag) → cell_of now.pages (now.tags n) t ≡ cell_of d.pages (d.tags n) t
  cell_stays n differ t = ap (λ (ps : List TagPlace). cell_of now.pages ps t) (s.tags n differ) ∙ by_item (slice_get d.table.slots n) refl
    where
      nothing : d.tags n ≡ [] → cell_of now.pages (d.tags n) t ≡ cell_of d.pages (d.tags n) t
      nothing none = ap (λ (ps : List TagPlace). cell_of now.pages ps t) none ∙ sym (ap (λ (ps : List TagPlace). cell_of d.pages ps t) none)

      by_first : (o : Option Home) → AreTagPlaces d.pages o (d.tags n) → cell_of now.pages (d.tags n) t ≡ cell_of d.pages (d.tags n) t
      by_first None none = nothing none
      by_first (Some first) are =
          cell_same d.pages now.pages (d.tags n) are.directory
          (pages_same d.pages now.pages (d.tags n) (other_tag_page number tag d now chains chains_now files files_now indexes below s n differ)) t

      by_item : (o : Option SlotItem) → slice_get d.table.slots n ≡ o → cell_of now.pages (d.tags n) t ≡ cell_of d.pages (d.tags n) t
      by_item None at = nothing (subst (λ o. StandsInSlot d files n (option_and_then first_tag_of o)) at (below.chains.slots n))
      by_item (Some item) at = by_first (first_tag_of item) (below.tables.laid.tags n item at)

  pub number_or_not : (n : ℕ) → (n ≡ number) ⊎ (¬ n ≡ number)
  number_or_not n = ⊎_elim
      (λ same. inl (eqb-true n number same))
      (λ apart. inr (λ same. both_ways (n == number) apart (eq-eqb n number same)))
      (cases_Bool (n == number))

  -- ---- whose a chain is

  own_tagged : (g : ChainGoesOn tag was is) (at : CellAt) → ¬ at ≡ g.start → (t : Tag) → cell_of d.pages (d.tags number) t ≡ Some at → IsTagged now at
  own_tagged g at apart t leads = by_chain (chains t) refl
    where
      by_chain : (o : Option (List PlacedCell)) → chains t ≡ o → IsTagged now at
      by_chain None none = absurd (none_not at (sym (s.well.together.files.none t none) ∙ leads))
      by_chain (Some cs) some = ⊎_elim (λ same. absurd (not_tag (tags_same t tag same))) (λ differ. elsewhere differ) (cases_Bool (same_tag t tag))
        where
          n : IsNamed files cs
          n = named files chains t cs some (s.well.among.same t)

          start : start_of cs ≡ Some at
          start = n.start ∙ sym (leads_there number (d.tags number) d.pages chains s.well.together.files t cs n.at some n.start) ∙ leads

          not_tag : ¬ t ≡ tag
          not_tag same = ⊎_elim
              (λ fresh. none_not cs (sym fresh.fresh ∙ ap chains (sym same) ∙ some))
              (λ f. apart (some_same at g.start (sym start ∙ ap start_of (some_same cs f.0 (sym some ∙ ap chains same ∙ f.1.is)) ∙ f.1.began)))
              g.from

          elsewhere : same_tag t tag ≡ false → IsTagged now at
          elsewhere differ =
              let stays = same_call number d.frame.version tag was is t differ s.call in
              (number, t, leads_there number (now.tags number) now.pages chains_now (together_now number tag d now chains chains_now files files_now indexes below s).files t cs at (stays ∙ some) start)

  tagged_now : (g : ChainGoesOn tag was is) (at : CellAt) → ¬ at ≡ g.start → IsTagged d at → IsTagged now at
  tagged_now g at apart it = ⊎_elim
      (λ same. own_tagged g at apart it.1 (subst (λ (n : ℕ). cell_of d.pages (d.tags n) it.1 ≡ Some at) same it.2))
      (λ differ. (it.0, it.1, cell_stays it.0 differ it.1 ∙ it.2))
      (number_or_not it.0)

  refused_tagged : Refuses was is → (at : CellAt) → IsTagged d at → IsTagged now at
  refused_tagged r at it = ⊎_elim
      (λ same. (number, it.1, ap (λ (ps : List TagPlace). cell_of now.pages ps it.1) r.places ∙ ap (λ (ps : Pages). cell_of ps (d.tags number) it.1) r.pages ∙ subst (λ (n : ℕ). cell_of d.pages (d.tags n) it.1 ≡ Some at) same it.2))
      (λ differ. (it.0, it.1, cell_stays it.0 differ it.1 ∙ it.2))
      (number_or_not it.0)

  somebodys : (at : CellAt) (chain : List PlacedCell) → (IsTagged d at → IsTagged now at) → IsSomebodys d at chain → IsSomebodys now at chain
  somebodys at chain tagged of = ⊎_elim
      (λ it. inl (tagged it))
      (λ rest. ⊎_elim (λ left. inr (inl left)) (λ quota. inr (inr (quota.0, quota_now quota.0 at quota.1))) rest)
      of

  pub named_now : (at : CellAt) (chain : List PlacedCell) → files_now at ≡ Some chain → IsSomebodys now at chain
  named_now at chain at_now = ⊎_elim
      (λ r. somebodys at chain (refused_tagged r at) (below.chains.named at chain (ap (λ (f : Files). f at) (sym r.files) ∙ at_now)))
      (λ g. ⊎_elim
      (λ same.
      let chain_is : g.after ≡ chain = some_same g.after chain (sym (there g) ∙ ap files_now (sym same) ∙ at_now) in
      ⊎_elim
      (λ tagged. inl (number, tag, leads_there number (now.tags number) now.pages chains_now (together_now number tag d now chains chains_now files files_now indexes below s).files tag g.after at tagged (g.begins ∙ ap Some (sym same))))
      (λ left. inr (inl (ap left_of (sym chain_is) ∙ left)))
      g.ends)
      (λ apart. somebodys at chain (tagged_now g at apart) (below.chains.named at chain (sym (other g at apart) ∙ at_now)))
      (same_or_not at g.start))
      goes

  -- ---- what is on the list

  to_do_now : (at : CellAt) → IsToDo files at → IsToDo files_now at
  to_do_now at left = ⊎_elim
      (λ r. subst (λ (f : Files). IsToDo f at) (sym r.files) left)
      (λ g. ⊎_elim
      (λ same.
      let was_left : IsToDo files g.start = subst (IsToDo files) same left in
      subst (IsToDo files_now) (sym same) (ap (λ o. is_some (option_and_then left_of o)) (there g) ∙ ⊎_elim
      (λ fresh. absurd (true≢false (sym was_left ∙ ap (λ o. is_some (option_and_then left_of o)) fresh.none)))
      (λ f. f.1.left (sym (ap (λ o. is_some (option_and_then left_of o)) (began g f.0 f.1)) ∙ was_left))
      g.from))
      (λ apart. ap (λ o. is_some (option_and_then left_of o)) (other g at apart) ∙ left)
      (same_or_not at g.start))
      goes

  pub listed_now : (at : CellAt) → IsOnList now at → IsToDo files_now at ⊎ IsQuotaToGo now at
  listed_now at on = ⊎_elim
      (λ left. inl (to_do_now at left))
      (λ quota. inr (quota.0, removed_now quota.0 quota.1, quota_now quota.0 at quota.2))
      (below.chains.listed at (on.0, subst (λ (l : Listing). Contains l.entries on.0) list_same on.1, on.2))

  -- ---- tags of what is being removed

  not_removed : (n : ℕ) → IsRemoved (slice_get d.table.slots n) → ¬ n ≡ number
  not_removed n removed same = subst IsRemoved (ap (slice_get d.table.slots) same ∙ s.original) removed

  pub empty_now : (n : ℕ) → HasEmptyTags d n → HasEmptyTags now n
  empty_now n empty =
      let differ = not_removed n empty.removed in
      record {
        removed = removed_now n empty.removed;
        none = λ t. cell_stays n differ t ∙ empty.none t;
        listed = ap homes_of (s.tags n differ) ∙ empty.listed ∙ ap (λ (l : Listing). l.tag_pages) (sym list_same);
      }

  pub tag_pages_now : (home : Home) → Contains now.list.tag_pages home → (n : ℕ) × HasEmptyTags now n
  tag_pages_now home inside =
      let empty = below.chains.tag_pages home (subst (λ (l : Listing). Contains l.tag_pages home) list_same inside) in
      (empty.0, empty_now empty.0 empty.1)

  -- ---- indexes

  index_begins : (at : CellAt) → option_and_then index_of (files_now at) ≡ option_and_then index_of (files at)
  index_begins at = ⊎_elim
      (λ r. ap (λ (f : Files). option_and_then index_of (f at)) r.files)
      (λ g. ⊎_elim
      (λ same.
      ap (λ (a : CellAt). option_and_then index_of (files_now a)) same ∙ ap (option_and_then index_of) (there g) ∙ ⊎_elim
      (λ fresh. ap (option_and_then index_in) fresh.no_index ∙ sym (ap (option_and_then index_of) fresh.none))
      (λ f. ap (option_and_then index_in) f.1.index ∙ sym (ap (option_and_then index_of) (began g f.0 f.1)))
      g.from ∙ sym (ap (λ (a : CellAt). option_and_then index_of (files a)) same))
      (λ apart. ap (option_and_then index_of) (other g at apart))
      (same_or_not at g.start))
      goes

  index_page : (at : CellAt) (k : ℕ) (home : Home) → slice_get (indexes at) k ≡ Some home → now.pages home ≡ d.pages home
  index_page at k home inside = page_stays number tag d now chains chains_now files files_now indexes below s (of_index at k) home inside (λ e. cc) (λ e. cc)

  pub indexed_now : (at : CellAt) → AreIndexHomes now.pages (option_and_then index_of (files_now at)) (indexes at)
  indexed_now at =
      subst (λ o. AreIndexHomes now.pages o (indexes at)) (sym (index_begins at)) (index_same d.pages now.pages (option_and_then index_of (files at)) (indexes at) (index_page at) (below.chains.indexed at))
