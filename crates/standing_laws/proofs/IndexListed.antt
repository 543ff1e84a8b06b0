-- The chains of a domain stand once what is left to be done of one file is on the list.
use Rattle.std.proofs.Common.{◌≡◌, ◌∙◌, ◌⊎◌, ⊎_elim, inl, inr, ℕ, false, List, Option, Some, None, IfSome, IsSomeAnd, Contains, is_some, refl, sym, ap, subst}
use Rattle.std.specs.Option.{option_and_then}
use Rattle.domain_standing.specs.domain_base.declared.place.CellAt.{CellAt}
use Rattle.domain_standing.specs.domain_base.declared.place.Home.{Home}
use Rattle.domain_standing.specs.domain_base.declared.place.Tag.{Tag}
use Rattle.domain_standing.specs.cell_records.declared.record.Leftover.TheVariants.{Trim}
use Rattle.domain_standing.specs.metadata_cells.Chain.{PlacedCell}
use Rattle.domain_standing.specs.fileset_files.Files.{is_removed}
use Rattle.domain_standing.proofs.OfReleaseList.Spread.{none_not}
use Rattle.domain_standing.proofs.OfReleaseList.Standings.{same_or_not}
use Rattle.domain_standing.specs.release_list.declared.list.Entry.{Entry}
use Rattle.domain_standing.specs.release_list.Listed.{IsEntry, left_of}
use Rattle.domain_standing.specs.release_list.Listing.{Adds, Listing}
use Rattle.domain_standing.specs.release_list.Standing.{Files}
use Rattle.domain_standing.specs.release_steps.Tags.{AreAmong, start_of}
use Rattle.domain_standing.proofs.OfReleaseSteps.Listing.{entry_among, entry_listed, which_entry}
use Rattle.domain_standing.proofs.OfReleaseSteps.StillAmong.{file_of_tag}
use Rattle.domain_standing.specs.domain_layout.Layout.{first_tag_of}
use Rattle.domain_standing.specs.Chains.{AreQuotasOf, HasEmptyTags, HasFilesAmong, IndexesAt, IsOnList, IsQuotaToGo, IsSomebodys, IsToDo, StandChains, StandsInSlot}
use Rattle.domain_standing.specs.Domain.{DomainNow, all_of, named_by}
use Rattle.standing_laws.proofs.EntryListed.{kept, listed_one, trim_there}
use Rattle.standing_laws.proofs.IndexChains.{ChainsBut}

module _ (d : DomainNow) (files : Files) (indexes : IndexesAt) (start : CellAt) (chains : ChainsBut d files indexes start) where
  -- where nothing is left to be done of it, or that is on the list already
  pub chains_all : (IsToDo files start → IsOnList d start) → StandChains d files indexes
  chains_all on = record {
    well = chains.well;
    slots = chains.slots;
    quotas = chains.quotas;
    indexed = chains.indexed;
    used = chains.used;
    named = chains.named;
    to_do = λ at left. ⊎_elim
        (λ same. subst (IsOnList d) (sym same) (on (subst (IsToDo files) same left)))
        (λ apart. chains.to_do at apart left)
        (same_or_not at start);
    listed = chains.listed;
    tag_pages = chains.tag_pages;
  }

  -- or where an entry of it is put there
  module _ (clone : Option CellAt) (listed : Listing) (to_do : IsToDo files start) (may : IsEntry files (record { at = start; clone = clone })) (adds : Adds start clone d.list.entries listed.entries) (same : listed.tag_pages ≡ d.list.tag_pages) where
    abbrev with_entry : DomainNow
    with_entry = record d { list = listed }

    tags_trimmed : (n : ℕ) (has : HasFilesAmong d files n) (t : Tag) → option_and_then start_of (has.chains t) ≡ Some start → option_and_then left_of (has.chains t) ≡ Some Trim
    tags_trimmed n has t = by_chain (has.chains t) refl
      where
        by_chain : (o : Option (List PlacedCell)) → has.chains t ≡ o → option_and_then start_of o ≡ Some start → option_and_then left_of o ≡ Some Trim
        by_chain None none starts = absurd (none_not start starts)
        by_chain (Some cs) some starts =
            let there = file_of_tag files has.chains t cs start (has.among.same t) some starts in
            trim_there cs (subst (λ o. IfSome o (λ cells. is_removed cells ≡ false)) some (has.among.live t)) (sym (ap (λ o. is_some (option_and_then left_of o)) there) ∙ to_do)

    empty_listed : (n : ℕ) → HasEmptyTags d n → HasEmptyTags with_entry n
    empty_listed n empty = record { removed = empty.removed; none = empty.none; listed = empty.listed ∙ sym same }

    pub among_listed : (n : ℕ) (has : HasFilesAmong d files n) → AreAmong (all_of with_entry files) (d.tags n) has.chains
    among_listed n has = entry_among (all_of d files) listed (d.tags n) has.chains has.among start clone adds same (tags_trimmed n has)

    slot_listed : (n : ℕ) (o : Option Home) → StandsInSlot d files n o → StandsInSlot with_entry files n o
    slot_listed n None none = none
    slot_listed n (Some first) stood = ⊎_elim
        (λ has. inl (record { chains = has.chains; are = has.are; among = among_listed n has }))
        (λ empty. inr (empty_listed n empty))
        stood

    all_listed : (at : CellAt) → IsToDo files at → IsOnList with_entry at
    all_listed at left = ⊎_elim
        (λ here. (record { at = start; clone = clone }, listed_one d.list.entries listed.entries start clone adds, sym here))
        (λ apart.
        let on = chains.to_do at apart left in
        let it = kept d.list.entries listed.entries start clone adds on.0 on.1 in
        (it.0, it.1, it.2 ∙ on.2))
        (same_or_not at start)

    none_else : (at : CellAt) → IsOnList with_entry at → IsToDo files at ⊎ IsQuotaToGo with_entry at
    none_else at on = ⊎_elim
        (λ had. ⊎_elim (λ left. inl left) (λ quota. inr (quota.0, quota.1, quota.2)) (chains.listed at (on.0, had, on.2)))
        (λ new_one. inl (subst (IsToDo files) (sym (ap (λ (e : Entry). e.at) new_one) ∙ on.2) to_do))
        (which_entry d.list.entries listed.entries start clone adds on.0 on.1)

    pages_listed : (home : Home) → Contains listed.tag_pages home → (n : ℕ) × HasEmptyTags with_entry n
    pages_listed home inside = let empty = chains.tag_pages home (subst (λ (hs : List Home). Contains hs home) same inside) in (empty.0, empty_listed empty.0 empty.1)

    quotas_listed : (n : ℕ) (at : CellAt) (o : Option (List PlacedCell)) → IsSomeAnd o (AreQuotasOf d n at) → IsSomeAnd o (AreQuotasOf with_entry n at)
    quotas_listed n at None are = are
    quotas_listed n at (Some cs) are = record { quotas = are.quotas; of = are.of; once = are.once }

    named_listed : (at : CellAt) (cs : List PlacedCell) → IsSomebodys d at cs → IsSomebodys with_entry at cs
    named_listed at cs of = ⊎_elim
        (λ tagged. inl (tagged.0, tagged.1, tagged.2))
        (λ rest. inr (⊎_elim (λ left. inl left) (λ quota. inr (quota.0, quota.1)) rest))
        of

    pub chains_listed : StandChains with_entry files indexes
    chains_listed = record {
      well = entry_listed (all_of d files) start clone listed chains.well may adds same;
      slots = λ n. slot_listed n (named_by first_tag_of d n) (chains.slots n);
      quotas = λ n at quota. quotas_listed n at (files at) (chains.quotas n at quota);
      indexed = chains.indexed;
      used = chains.used;
      named = λ at cs there. named_listed at cs (chains.named at cs there);
      to_do = all_listed;
      listed = none_else;
      tag_pages = pages_listed;
    }
