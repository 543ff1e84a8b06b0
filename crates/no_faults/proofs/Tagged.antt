-- The files that the tags of a slot name are among those of a domain that was read.
use Rattle.std.proofs.Common.{◌≡◌, ◌∙◌, inl, ℕ, ◌≤◌, ◌^◌, ◌&&◌, true, false, List, ◌∷◌, Option, Some, None, IfSome, IsSome, IsSomeAnd, Contains, slice_get, refl, sym, ap, subst, arith, ⊎_elim}
use Rattle.std.proofs.lemmas.Bool.{cases_Bool, eq-eqb, true≢false}
use Rattle.std.specs.Option.{option_and_then, option_map_or}
use Rattle.domain_memory.specs.domain_base.declared.place.CellAt.{CellAt}
use Rattle.domain_memory.specs.domain_base.declared.place.Home.{Home}
use Rattle.domain_memory.specs.domain_base.declared.place.Tag.{Tag}
use Rattle.domain_memory.specs.page_store.Bitfiles.{same_tag}
use Rattle.domain_memory.specs.cell_records.Fields.{number_at}
use Rattle.domain_memory.specs.cell_records.declared.record.Leftover.TheVariants.{Remove, Trim}
use Rattle.domain_memory.specs.cell_records.declared.record.Record.{Record}
use Rattle.domain_memory.specs.cell_records.declared.record.Record.TheVariants as written
use Rattle.domain_memory.specs.log_ring.Homes.{IsMember, member_of}
use Rattle.domain_memory.specs.metadata_cells.Chain.{PlacedCell}
use Rattle.domain_memory.specs.metadata_cells.declared.head.CellKind.TheVariants as kinds
use Rattle.domain_memory.specs.tag_dirs.Directory.{IsDirectoryAt, cell_of, has_home}
use Rattle.domain_memory.specs.extent_maps.declared.run.PagePlace.TheVariants.{At}
use Rattle.domain_memory.specs.file_chains.Files.{IsFile}
use Rattle.domain_memory.specs.fileset_files.Files.{AreApart, AreFiles, Chains, LeadsToFile, first_record, is_removed, says_remove}
use Rattle.domain_memory.specs.fileset_table.declared.slot.SlotItem.{SlotItem}
use Rattle.domain_memory.specs.release_list.Listed.{leftover_in, left_of}
use Rattle.domain_memory.specs.release_list.Standing.{place_in}
use Rattle.domain_memory.specs.release_list.declared.list.Entry.{Entry}
use Rattle.domain_memory.specs.release_steps.Tags.{AreAmong, chains_in, start_of}
use Rattle.domain_memory.specs.domain_layout.CellRules.{Link, next_in}
use Rattle.domain_memory.specs.domain_layout.Layout.{AreTagPlaces, first_tag_of}
use Rattle.domain_memory.specs.domain_layout.Owners.{HasTagPage, frame_of}
use Rattle.domain_memory.specs.domain_layout.Owners.Owner.{of_file, of_tags}
use Rattle.domain_memory.specs.domain_layout.TagRules.{HasTags, IsFirstOf}
use Rattle.domain_memory.proofs.OfDomainLayout.Named.{first_there}
use Rattle.domain_memory.proofs.OfDomainLayout.OnePage.{some_same}
use Rattle.domain_memory.proofs.OfDomainLayout.OwnedOnce.{tag_place}
use Rattle.domain_memory.proofs.OfFilesetsReading.ChainsThere.{FileThere, file_there}
use Rattle.domain_memory.specs.domain_standing.Chains.{HasFilesAmong, StandsInSlot}
use Rattle.domain_memory.specs.domain_standing.Domain.{DomainNow, all_of, layout_of}
use Rattle.no_faults.specs.Attached.{IsReadFrom}
use Rattle.no_faults.proofs.Begun.{begins_or_not, nowhere}
use Rattle.no_faults.proofs.Domain.{BeginsAt, Chain, chain_at, chain_there, fault, files, small, tables}
use Rattle.no_faults.proofs.Listed.{HasChain, first_is, has_chain, not_in}
use Rattle.no_faults.proofs.OnTables.{LinkOf, link_used}
use Rattle.no_faults.proofs.ListPages.{IsOfChain, of_chain, one_owner, two_chains}

-- what is left of a file that stays is a cut
trim_left : (o : Option Record) → IsSome (option_and_then leftover_in o) → option_map_or says_remove o false ≡ false → option_and_then leftover_in o ≡ Some Trim
trim_left None some stays = absurd (true≢false (sym some))
trim_left (Some (written.Pending Remove)) some stays = absurd (true≢false stays)
trim_left (Some (written.Pending Trim)) some stays = refl
trim_left (Some r) some stays = absurd (true≢false (sym some))

tags_of_file : {P : Type 0} (number : ℕ) (at : CellAt) (page : ℕ) → of_tags number ≡ of_file at page → P
tags_of_file number at page is = absurd (cc)

module _ (d : DomainNow) (is : IsReadFrom d) (number : ℕ) (first : Home) (has : HasTags d.table number first) where
  wide : (vol : ℕ) → IsMember (layout_of d).anchor vol → (member_of (layout_of d).anchor vol).pages ≤ 2 ^ 32
  wide vol member = let few = small d is vol member in omega (arith, few)

  directory : IsDirectoryAt d.pages first (d.tags number)
  directory = subst (λ o. AreTagPlaces d.pages o (d.tags number)) has.has (is.tables.laid.tags number has.item has.there)

  abbrev leads_to : Tag → Option CellAt
  leads_to tag = cell_of d.pages (d.tags number) tag

  abbrev FirstOf : Tag → CellAt → Type 0
  FirstOf tag at = IsFirstOf d.pages (frame_of (layout_of d)) number tag at

  first_of : (tag : Tag) (at : CellAt) → leads_to tag ≡ Some at → ¬ ¬ FirstOf tag at
  first_of tag at leads = first_there d.pages (layout_of d) is.tables.laid (tables d is) number first has (d.tags number) directory tag at leads

  begun_by : (tag : Tag) (at : CellAt) → FirstOf tag at → BeginsAt d is at
  begun_by tag at f =
      let link : LinkOf d.pages (layout_of d) is.tables.laid (tables d is) at (record { kind = kinds.Primary; next = next_in f.bytes }) =
      link_used d.pages (layout_of d) is.tables.laid (tables d is) at (record { kind = kinds.Primary; next = next_in f.bytes })
      (record { place = f.place; bytes = f.bytes; there = f.there; kind = f.kind; next = refl }) in
      record { cell = link.cell; on = link.on; kind = inl (ap (λ (l : Link). l.kind) link.same) }

  begun_at : (tag : Tag) (at : CellAt) → leads_to tag ≡ Some at → BeginsAt d is at
  begun_at tag at leads =
      ⊎_elim (λ begun. begun) (λ nothing. absurd (first_of tag at leads (λ f. nothing (begun_by tag at f))))
      (begins_or_not d.pages (layout_of d) is.tables.laid (tables d is) (small d is) at)

  -- ---- the files of tags

  abbrev chains : Chains
  chains tag = option_and_then (files d is) (leads_to tag)

  -- a tag's file
  record FileOf (tag : Tag) (chain : List PlacedCell) : Type 0 where
    at : CellAt
    leads : leads_to tag ≡ Some at
    there : files d is at ≡ Some chain

  file_of : (tag : Tag) (chain : List PlacedCell) → chains tag ≡ Some chain → FileOf tag chain
  file_of tag chain some = by_cell (leads_to tag) refl some
    where
      by_cell : (o : Option CellAt) → leads_to tag ≡ o → option_and_then (files d is) o ≡ Some chain → FileOf tag chain
      by_cell None leads there = nowhere chain there
      by_cell (Some at) leads there = record { at = at; leads = leads; there = there }

  file_is : (tag : Tag) (chain : List PlacedCell) (f : FileOf tag chain) → LeadsToFile number (d.tags number) d.pages tag chain
  file_is tag chain f =
      let c : Chain d is f.at chain = chain_at d is f.at chain f.there in
      let file : FileThere d.pages (layout_of d) is.tables.laid (fault d is) wide number tag c.first c.rest =
      file_there d.pages (layout_of d) is.tables.laid (fault d is) wide number tag c.first c.rest (subst (λ a. ¬ ¬ FirstOf tag a) (sym c.at_is) (first_of tag f.at f.leads)) c.links in
      subst (LeadsToFile number (d.tags number) d.pages tag) (sym c.all) (record {
        leads = subst (λ o. IsSomeAnd o (λ a. IsFile d.pages a (c.first ∷ c.rest))) (sym f.leads) (c.at_is, file.is);
        is_of = file.of;
        kinds = file.kinds;
      })

  some : (tag : Tag) → IfSome (chains tag) (LeadsToFile number (d.tags number) d.pages tag)
  some tag = by_chain (chains tag) refl
    where
      by_chain : (o : Option (List PlacedCell)) → chains tag ≡ o → IfSome o (LeadsToFile number (d.tags number) d.pages tag)
      by_chain None at = tt
      by_chain (Some chain) at = file_is tag chain (file_of tag chain at)

  none : (tag : Tag) → chains tag ≡ None → leads_to tag ≡ None
  none tag nothing = by_cell (leads_to tag) refl nothing
    where
      by_cell : (o : Option CellAt) → leads_to tag ≡ o → option_and_then (files d is) o ≡ None → o ≡ None
      by_cell None leads empty = refl
      by_cell (Some at) leads empty = let found = chain_there d is at (begun_at tag at leads) in nowhere found.0 (sym empty ∙ found.1)

  -- two tags lead to two cells
  cells_differ : (s t : Tag) (at : CellAt) → same_tag s t ≡ false → FirstOf s at → FirstOf t at → ⊥
  cells_differ s t at differ one other =
      let bytes : one.bytes ≡ other.bytes = some_same one.bytes other.bytes (sym one.there ∙ other.there) in
      let slot : s.slot ≡ t.slot = sym one.slot ∙ ap (number_at 4 8) bytes ∙ other.slot in
      let seq : s.seq ≡ t.seq = sym one.seq ∙ ap (number_at 2 12) bytes ∙ other.seq in
      let e : true ≡ false = sym (λ i. eq-eqb s.slot t.slot slot i && eq-eqb s.seq t.seq seq i) ∙ differ in
      absurd (cc)

  two_tags : (s t : Tag) → same_tag s t ≡ false → (xs ys : List PlacedCell) → FileOf s xs → FileOf t ys → AreApart xs ys
  two_tags s t differ xs ys f g =
      two_chains d is f.at g.at xs ys f.there g.there (λ same.
      first_of s f.at f.leads (λ one. first_of t g.at g.leads (λ other.
      cells_differ s t f.at differ one (subst (FirstOf t) (sym same) other))))

  apart : (s t : Tag) → same_tag s t ≡ false → IfSome (chains s) (λ xs. IfSome (chains t) (AreApart xs))
  apart s t differ = by_one (chains s) refl
    where
      by_other : (xs : List PlacedCell) → FileOf s xs → (o : Option (List PlacedCell)) → chains t ≡ o → IfSome o (AreApart xs)
      by_other xs f None at = tt
      by_other xs f (Some ys) at = two_tags s t differ xs ys f (file_of t ys at)

      by_one : (o : Option (List PlacedCell)) → chains s ≡ o → IfSome o (λ xs. IfSome (chains t) (AreApart xs))
      by_one None at = tt
      by_one (Some xs) at = by_other xs (file_of s xs at) (chains t) refl

  are_files : AreFiles number (d.tags number) d.pages chains
  are_files = record { directory = directory.directory; none = none; some = some; apart = apart }

  -- ---- among the files of the domain

  begins_at : (tag : Tag) (chain : List PlacedCell) (f : FileOf tag chain) → start_of chain ≡ Some f.at
  begins_at tag chain f = let c : Chain d is f.at chain = chain_at d is f.at chain f.there in ap start_of c.all ∙ ap Some c.at_is

  same : (tag : Tag) → chains_in (files d is) chains tag ≡ chains tag
  same tag = by_chain (chains tag) refl
    where
      by_chain : (o : Option (List PlacedCell)) → chains tag ≡ o → option_and_then (files d is) (option_and_then start_of o) ≡ o
      by_chain None at = refl
      by_chain (Some chain) at = let f = file_of tag chain at in ap (option_and_then (files d is)) (begins_at tag chain f) ∙ f.there

  stays : (tag : Tag) (chain : List PlacedCell) → FileOf tag chain → is_removed chain ≡ false
  stays tag chain f =
      let begun = begun_at tag f.at f.leads in
      ap (λ o. option_map_or says_remove o false) (first_is d is f.at chain f.there begun.cell begun.on 6) ∙ is.stay number tag f.at begun.cell f.leads begun.on.stands

  live : (tag : Tag) → IfSome (chains tag) (λ cells. is_removed cells ≡ false)
  live tag = by_chain (chains tag) refl
    where
      by_chain : (o : Option (List PlacedCell)) → chains tag ≡ o → IfSome o (λ cells. is_removed cells ≡ false)
      by_chain None at = tt
      by_chain (Some chain) at = stays tag chain (file_of tag chain at)

  trimmed : (entry : Entry) → Contains d.list.entries entry → (tag : Tag) → option_and_then start_of (chains tag) ≡ Some entry.at → option_and_then left_of (chains tag) ≡ Some Trim
  trimmed entry among tag begins = by_chain (chains tag) refl begins
    where
      left : HasChain d is entry.at (is.list.only entry among).0
      left = has_chain d is entry.at (is.list.only entry among).0

      of_chain_at : (chain : List PlacedCell) (f : FileOf tag chain) → start_of chain ≡ Some entry.at → left_of chain ≡ Some Trim
      of_chain_at chain f at =
          let here : f.at ≡ entry.at = some_same f.at entry.at (sym (begins_at tag chain f) ∙ at) in
          let chain_is : left.chain ≡ chain = some_same left.chain chain (sym left.there ∙ ap (files d is) (sym here) ∙ f.there) in
          trim_left (first_record 6 chain)
          (subst (λ cs. IsSome (option_and_then leftover_in (first_record 6 cs))) chain_is (subst (λ o. IsSome (option_and_then leftover_in o)) (sym left.record_is) (is.list.only entry among).0.says))
          (stays tag chain f)

      by_chain : (o : Option (List PlacedCell)) → chains tag ≡ o → option_and_then start_of o ≡ Some entry.at → option_and_then left_of o ≡ Some Trim
      by_chain None at begins_there = nowhere entry.at begins_there
      by_chain (Some chain) at begins_there = of_chain_at chain (file_of tag chain at) begins_there

  tag_page : (home : Home) → has_home (d.tags number) home ≡ true → HasTagPage (layout_of d) number home
  tag_page home there = record { item = has.item; there = has.there; has = there }

  low : (home : Home) → has_home (d.tags number) home ≡ true → 1 ≤ home.vol
  low home there = (tag_place d.pages (layout_of d) is.tables.laid (tables d is) number home (tag_page home there)).is.read.may.0.0.first

  no_tags : (at : CellAt) (page : ℕ) (home : Home) → place_in (files d is) at page ≡ At home → has_home (d.tags number) home ≡ false
  no_tags at page home stands =
      let one : IsOfChain d is at page home = of_chain d is at page home stands in
      ⊎_elim (λ there. tags_of_file number one.at page (one_owner d is home (of_tags number) (of_file one.at page) (tag_page home there) one.extent)) (λ not_there. not_there)
      (cases_Bool (has_home (d.tags number) home))

  among : AreAmong (all_of d (files d is)) (d.tags number) chains
  among = record {
    same = same;
    live = live;
    trimmed = trimmed;
    low = low;
    no_tags = no_tags;
    not_listed = λ home listed. not_in d.list.tag_pages home is.list.no_tags listed;
  }

  pub files_among : HasFilesAmong d (files d is) number
  files_among = record { chains = chains; are = are_files; among = among }

module _ (d : DomainNow) (is : IsReadFrom d) (number : ℕ) where
  of_item : (item : SlotItem) → slice_get d.table.slots number ≡ Some item → (o : Option Home) → first_tag_of item ≡ o → StandsInSlot d (files d is) number o
  of_item item there None tag = subst (λ o. AreTagPlaces d.pages o (d.tags number)) tag (is.tables.laid.tags number item there)
  of_item item there (Some first) tag = inl (files_among d is number first (record { item = item; there = there; has = tag }))

  pub in_slot : StandsInSlot d (files d is) number (option_and_then first_tag_of (slice_get d.table.slots number))
  in_slot = by_item (slice_get d.table.slots number) refl
    where
      by_item : (o : Option SlotItem) → slice_get d.table.slots number ≡ o → StandsInSlot d (files d is) number (option_and_then first_tag_of o)
      by_item None there = is.tags number there
      by_item (Some item) there = of_item item there (first_tag_of item) refl
