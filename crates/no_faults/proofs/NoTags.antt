-- Where a domain stands, no rule of tags, of what they name, and of slots is broken.
use Rattle.std.proofs.Common.{◌≡◌, ◌∙◌, inr, ℕ, ◌<◌, true, false, List, [], ◌∷◌, Option, Some, None, IfSome, IsSomeAnd, slice_get, refl, sym, ap, subst, arith, ⊎_elim}
use Rattle.std.proofs.lemmas.Bool.{true≢false}
use Rattle.std.specs.Option.{option_and_then, option_map_or}
use Rattle.domain_memory.specs.domain_base.declared.place.CellAt.{CellAt}
use Rattle.domain_memory.specs.domain_base.declared.place.Home.{Home}
use Rattle.domain_memory.specs.domain_base.declared.place.Tag.{Tag}
use Rattle.domain_memory.specs.cell_records.Fields.{number_at}
use Rattle.domain_memory.specs.cell_records.declared.record.Leftover.TheVariants.{Remove}
use Rattle.domain_memory.specs.cell_records.declared.record.Record.{Record}
use Rattle.domain_memory.specs.cell_records.declared.record.Record.TheVariants as written
use Rattle.domain_memory.specs.metadata_cells.Cell.{Cell, IsFileset, kind_number}
use Rattle.domain_memory.specs.metadata_cells.Chain.{PlacedCell}
use Rattle.domain_memory.specs.metadata_cells.declared.head.CellKind.TheVariants as kinds
use Rattle.domain_memory.proofs.OfMetadataCells.Unique.{one_stands}
use Rattle.domain_memory.specs.tag_dirs.Directory.{cell_of, has_home}
use Rattle.domain_memory.specs.fileset_files.Files.{first_record, says_remove}
use Rattle.domain_memory.specs.fileset_model.Filesets.{FilesetMap}
use Rattle.domain_memory.specs.fileset_table.Table.{entry_of}
use Rattle.domain_memory.specs.fileset_table.declared.slot.FilesetEntry.{FilesetEntry}
use Rattle.domain_memory.specs.fileset_table.declared.slot.SlotItem.{SlotItem}
use Rattle.domain_memory.specs.fileset_table.declared.slot.SlotItem.TheVariants as slot
use Rattle.domain_memory.specs.name_space.Names.{root_tag}
use Rattle.domain_memory.specs.release_list.Listed.{left_of, leftover_in}
use Rattle.domain_memory.specs.domain_layout.CellRules.{IsUsed, Link, next_in, of_clone, say_removed}
use Rattle.domain_memory.specs.domain_layout.Owners.{IsOnTable}
use Rattle.domain_memory.specs.domain_layout.Reached.{tags_way}
use Rattle.domain_memory.specs.domain_layout.TagRules.{HasEntry, HasNoRoot, HasWrongNumber, HasWrongQuota, HasWrongSource, IsFirstOf, IsLateFile, IsNoTagPage, IsNamingFault, IsSharedTagPage, IsTagsFault, IsTagsPage, IsUnnamed, IsUnnamedQuota, IsWrongEntry, IsWrongSlot, IsWrongTagPage, original_slot, quota_of}
use Rattle.domain_memory.proofs.OfDomainLayout.OnePage.{some_same}
use Rattle.domain_memory.specs.domain_standing.Chains.{AreQuotasOf, IsQuotaOf}
use Rattle.domain_memory.specs.domain_standing.Domain.{DomainNow, item_in, layout_of}
use Rattle.domain_memory.specs.domain_standing.Holders.{Holder}
use Rattle.domain_memory.specs.domain_standing.Standing.{StandsDomain}
use Rattle.domain_memory.specs.standing_laws.Sound.{StandsSound}
use Rattle.no_faults.proofs.Following.{IsHead, head_is}
use Rattle.no_faults.proofs.InChains.{BeginsFile, begins_file, chain_is, in_some_chain}
use Rattle.no_faults.proofs.FaultNamed.{NamesChain, names_chain}
use Rattle.no_faults.proofs.NoCells.{no_lead_to, quotas_named}
use Rattle.no_faults.proofs.FaultOnTables.{LinkOf, link_used, place_there}
use Rattle.no_faults.proofs.Originals.{root_leads}
use Rattle.no_faults.proofs.Tags.{IsOfTags, directory, entry_is, entry_there, has_home_at, homes_of, of_tags, tags_are_way, tags_of}
use Rattle.no_faults.proofs.Ways.{none_unread, nothing}

tags_same : (m n : ℕ) → Holder.of_tags m ≡ Holder.of_tags n → m ≡ n
tags_same m n same = cc

quota_volume : ¬ kinds.Quota ≡ kinds.Volume
quota_volume same = cc

primary_volume : ¬ kinds.Primary ≡ kinds.Volume
primary_volume same = cc

primary_quota : ¬ kinds.Primary ≡ kinds.Quota
primary_quota same = cc

-- what says that all of a file goes
remove_said : (o : Option Record) → option_and_then leftover_in o ≡ Some Remove → option_map_or says_remove o false ≡ true
remove_said None left = nothing Remove left
remove_said (Some (written.Pending what)) left = ap (λ w. says_remove (written.Pending w)) (some_same what Remove left)
remove_said (Some r) left = nothing Remove left

fileset_is : (n : ℕ) (o : Option ℕ) (number : ℕ) → IsFileset n o → o ≡ Some number → IsFileset n (Some number)
fileset_is n o number is same = subst (IsFileset n) same is

no_clone_of : (o : Option SlotItem) (of : ℕ) → original_slot o ≡ Some of → of_clone o ≡ true
no_clone_of None of is = nothing of is
no_clone_of (Some slot.Free) of is = nothing of is
no_clone_of (Some (slot.Original entry)) of is = nothing of is
no_clone_of (Some (slot.Clone original number entry)) of is = refl
no_clone_of (Some (slot.Removed first quota)) of is = nothing of is

module _ (d : DomainNow) (all : FilesetMap) (stands : StandsDomain d all) (sound : StandsSound d stands.files stands.indexes) where
  -- ---- pages

  no_tag_page : (home : Home) → ¬ IsNoTagPage d.pages d.frame d.table home
  no_tag_page home w = none_unread d.pages d.frame (tags_way w.first) (homes_of (d.tags w.number)) (tags_are_way d all stands sound w.number w.first w.has) home w.unread

  page_held : (number place : ℕ) (home : Home) (page : List ℕ) → IsTagsPage d.pages d.frame d.table number place home page → has_home (d.tags number) home ≡ true
  page_held number place home page is =
      let of = of_tags d all stands sound number place home page is in
      subst (λ h. has_home (d.tags number) h ≡ true) of.at (has_home_at (d.tags number) place of.p of.there)

  no_shared : (home : Home) → ¬ IsSharedTagPage d.pages d.frame d.table home
  no_shared home w =
      let same = tags_same w.earlier w.later (stands.owned.once home (Holder.of_tags w.earlier) (Holder.of_tags w.later) (page_held w.earlier w.one home w.page w.in_earlier) (page_held w.later w.other home w.page w.in_later)) in
      omega (arith, same, w.order)

  no_wrong_page : (home : Home) → ¬ IsWrongTagPage d.pages d.frame d.table home
  no_wrong_page home w =
      ⊎_elim (λ bad. bad of.is.good) (λ more. ⊎_elim (λ first. first.1 (of.is.indexed ∙ index_zero first.0)) (λ again. twice again.0 again.1 again.2 again.3 again.4 again.5) more) w.wrong
    where
      of : IsOfTags d all stands sound w.number w.place home w.page
      of = of_tags d all stands sound w.number w.place home w.page w.is

      index_zero : w.place ≡ 0 → of.p.index ≡ 0
      index_zero zero_there =
          subst (λ o. IfSome o (λ place. place.index ≡ 0)) (ap (slice_get (d.tags w.number)) (sym zero_there) ∙ of.there) (directory d all stands sound w.number w.is.first w.is.has).directory.first

      twice : (earlier : ℕ) (other : Home) (bytes : List ℕ) → earlier < w.place → IsTagsPage d.pages d.frame d.table w.number earlier other bytes → number_at 4 4 bytes ≡ number_at 4 4 w.page → ⊥
      twice earlier other bytes less is same =
          let also = of_tags d all stands sound w.number earlier other bytes is in
          let one : earlier ≡ w.place = (directory d all stands sound w.number w.is.first w.is.has).directory.apart earlier w.place also.p of.p also.there of.there (sym also.is.indexed ∙ same ∙ of.is.indexed) in
          omega (arith, less, one)

  -- ---- entries

  -- a tag leads to a first cell of its fileset
  first_of : (number : ℕ) (tag : Tag) (at : CellAt) → NamesChain d all stands number tag at → IsFirstOf d.pages d.frame number tag at
  first_of number tag at n =
      let chain = chain_is d all stands at n.first n.rest n.there in
      let on = subst (λ a. IsOnTable d.pages (layout_of d) a n.first.cell) chain.begins (chain.tables 0 n.first refl) in
      record {
        place = place_there d all stands sound at n.first.cell on;
        bytes = on.stands.bytes;
        there = on.stands.there;
        kind = on.stands.is.head.kind ∙ ap kind_number n.file.1.primary;
        fileset = fileset_is (number_at 1 14 on.stands.bytes) n.first.cell.head.fileset number on.stands.is.head.fileset n.is_of.2;
        slot = sym on.stands.is.head.slot ∙ n.is_of.0;
        seq = sym on.stands.is.head.seq ∙ n.is_of.1;
      }

  named_at : (number : ℕ) (tag : Tag) (at : CellAt) (home : Home) → HasEntry d.pages d.frame d.table number tag at home → NamesChain d all stands number tag at
  named_at number tag at home has = names_chain d all stands number tag at (entry_is d all stands sound number tag at home has)

  no_wrong_entry : (home : Home) → ¬ IsWrongEntry d.pages d.frame d.table home
  no_wrong_entry home w = w.wrong (first_of w.number w.tag w.at (named_at w.number w.tag w.at home w.has))

  -- the file that a tag names stays
  stays_at : (number : ℕ) (tag : Tag) (at : CellAt) (n : NamesChain d all stands number tag at) (cell : Cell) → IsUsed d.pages d.frame at cell → say_removed cell.records ≡ false
  stays_at number tag at n cell used =
      let chain = chain_is d all stands at n.first n.rest n.there in
      let on = subst (λ a. IsOnTable d.pages (layout_of d) a n.first.cell) chain.begins (chain.tables 0 n.first refl) in
      ap (λ (c : Cell). say_removed c.records) (sym (one_stands d.pages at n.first.cell cell on.stands used.stands)) ∙ n.live

  no_root : (home : Home) → ¬ HasNoRoot d.pages d.frame d.table home
  no_root home w =
      let leads = root_leads d all stands.slots w.number w.item w.there w.original in
      let n = names_chain d all stands w.number root_tag leads.0 leads.1 in
      let entry = entry_there d all stands sound w.number home (record { item = w.item; there = w.there; has = w.first }) root_tag leads.0 leads.1 in
      let gone = w.none leads.0 entry.home entry.has in
      true≢false (sym gone.2 ∙ stays_at w.number root_tag leads.0 n gone.0 gone.1)

  -- ---- cells

  no_unnamed : (at : CellAt) → ¬ IsUnnamed d.pages d.frame d.table at
  no_unnamed at w = ⊎_elim (λ tagged. by_tag tagged.0 tagged.1 tagged.2) (λ more. ⊎_elim by_left (λ quota. by_quota quota.0 quota.1) more) (stands.chains.named at (b.first ∷ b.rest) b.there)
    where
      used : LinkOf d all stands sound at (record { kind = kinds.Primary; next = next_in w.bytes })
      used = link_used d all stands sound at (record { kind = kinds.Primary; next = next_in w.bytes }) (record { place = w.place; bytes = w.bytes; there = w.there; kind = w.kind; next = refl })

      primary : used.cell.head.kind ≡ kinds.Primary
      primary = ap (λ (l : Link). l.kind) used.same

      b : BeginsFile d all stands at used.cell
      b = begins_file d all stands at used.cell (in_some_chain d all stands at used.cell used.on (λ volume. primary_volume (sym primary ∙ volume))) primary

      by_tag : (number : ℕ) (tag : Tag) → cell_of d.pages (d.tags number) tag ≡ Some at → ⊥
      by_tag number tag leads =
          let n = names_chain d all stands number tag at leads in
          let entry = entry_there d all stands sound number n.begin (tags_of d number n.begin n.has) tag at leads in
          w.unnamed number tag entry.home (first_of number tag at n) entry.has

      by_left : ¬ left_of (b.first ∷ b.rest) ≡ Some Remove
      by_left left =
          true≢false (sym (remove_said (first_record 6 (b.first ∷ b.rest)) left) ∙ ap (λ (c : Cell). say_removed c.records) b.same
          ∙ w.stays used.cell (record { place = w.place; stands = used.on.stands }))

      by_quota : (number : ℕ) → IsQuotaOf d number at → ⊥
      by_quota number named =
          let quotas = subst (λ o. IsSomeAnd o (AreQuotasOf d number at)) b.there (stands.chains.quotas number at named) in
          primary_quota (sym b.file.1.primary ∙ quotas.quotas.1.cells.0.kind)

  no_wrong_source : (at : CellAt) → ¬ HasWrongSource d.pages d.frame d.table at
  no_wrong_source at w = by_fileset w.cell.head.fileset w.clone
    where
      by_fileset : (o : Option ℕ) → original_slot (option_and_then (slice_get d.table.slots) o) ≡ Some w.of → ⊥
      by_fileset None clone = nothing w.of clone
      by_fileset (Some number) clone = true≢false (sym (no_clone_of (item_in d number) w.of clone) ∙ stands.slots.no_clone number)

  no_late : (at : CellAt) → ¬ IsLateFile d.pages d.frame d.table at
  no_late at w =
      stands.rest.births at w.cell w.value
      (record { number = w.number; original = w.original; tag = w.tag; leads = entry_is d all stands sound w.number w.tag at w.home w.named }) w.is.stands w.attributes w.late

  no_unnamed_quota : (at : CellAt) → ¬ IsUnnamedQuota d.pages d.frame d.table at
  no_unnamed_quota at w =
      let head : IsHead d all stands sound at w.link = head_is d all stands sound at w.link (w.is, inr (w.kind, w.first)) in
      let kind : head.first.cell.head.kind ≡ kinds.Quota = ap (λ (l : Link). l.kind) head.same ∙ w.kind in
      let named : (number : ℕ) × IsQuotaOf d number at = ⊎_elim (λ file. absurd (primary_quota (sym file.1.primary ∙ kind))) (λ quotas. quotas_named d all stands sound at head.first head.rest head.there quotas) (chain_is d all stands at head.first head.rest head.there).of in
      by_item named.0 (item_in d named.0) refl named.1
    where
      by_item : (number : ℕ) (o : Option SlotItem) → item_in d number ≡ o → option_and_then quota_of o ≡ Some at → ⊥
      by_item number None there named = nothing at named
      by_item number (Some item) there named = w.unnamed number item there named

  -- ---- slots

  no_wrong_number : (number : ℕ) (item : SlotItem) → item_in d number ≡ Some item → ¬ HasWrongNumber d.table item
  no_wrong_number number slot.Free there wrong = wrong
  no_wrong_number number (slot.Original entry) there wrong = wrong
  no_wrong_number number (slot.Clone of clone entry) there wrong = true≢false (ap of_clone (sym there) ∙ stands.slots.no_clone number)
  no_wrong_number number (slot.Removed first quota) there wrong = wrong

  quota_named : (number : ℕ) (item : SlotItem) → item_in d number ≡ Some item → (w : HasWrongQuota d.pages d.frame number item) → IsQuotaOf d number w.at
  quota_named number item there w = ap (option_and_then quota_of) there ∙ by_item item w.is ∙ w.named
    where
      by_item : (item : SlotItem) → entry_of item ≡ Some w.entry → quota_of item ≡ w.entry.quota
      by_item slot.Free is = nothing w.entry is
      by_item (slot.Original entry) is = ap (λ (e : FilesetEntry). e.quota) (some_same entry w.entry is)
      by_item (slot.Clone of clone entry) is = ap (λ (e : FilesetEntry). e.quota) (some_same entry w.entry is)
      by_item (slot.Removed first quota) is = nothing w.entry is

  no_wrong_quota : (number : ℕ) (item : SlotItem) → item_in d number ≡ Some item → ¬ HasWrongQuota d.pages d.frame number item
  no_wrong_quota number item there w = by_chain (stands.files w.at) refl (stands.chains.quotas number w.at (quota_named number item there w))
    where
      of_cells : (first : PlacedCell) (rest : List PlacedCell) → stands.files w.at ≡ Some (first ∷ rest) → AreQuotasOf d number w.at (first ∷ rest) → ⊥
      of_cells first rest has quotas =
          let chain = chain_is d all stands w.at first rest has in
          let on = subst (λ a. IsOnTable d.pages (layout_of d) a first.cell) chain.begins (chain.tables 0 first refl) in
          ⊎_elim (λ none. none (record {
            place = place_there d all stands sound w.at first.cell on;
            bytes = on.stands.bytes;
            there = on.stands.there;
            kind = on.stands.is.head.kind ∙ ap kind_number quotas.quotas.1.cells.0.kind;
            fileset = fileset_is (number_at 1 14 on.stands.bytes) first.cell.head.fileset number on.stands.is.head.fileset quotas.of;
          })) (λ led. no_lead_to d all stands sound w.at first rest has led.0 led.1) w.wrong

      by_cells : (chain : List PlacedCell) → stands.files w.at ≡ Some chain → AreQuotasOf d number w.at chain → ⊥
      by_cells [] has quotas = quotas.quotas
      by_cells (first ∷ rest) has quotas = of_cells first rest has quotas

      by_chain : (o : Option (List PlacedCell)) → stands.files w.at ≡ o → IsSomeAnd o (AreQuotasOf d number w.at) → ⊥
      by_chain None has quotas = quotas
      by_chain (Some chain) has quotas = by_cells chain has quotas

  no_wrong_slot : ¬ IsWrongSlot d.pages d.frame d.table
  no_wrong_slot w = ⊎_elim (no_wrong_number w.number w.item w.there) (no_wrong_quota w.number w.item w.there) w.wrong

  -- ---- all of them

  no_naming : (at : CellAt) → ¬ IsNamingFault d.pages d.frame d.table at
  no_naming at fault = ⊎_elim (no_unnamed at) (λ a. ⊎_elim (no_wrong_source at) (λ b. ⊎_elim (no_late at) (no_unnamed_quota at) b) a) fault

  pub no_tags : (home : Home) → ¬ IsTagsFault d.pages d.frame d.table home
  no_tags home fault =
      ⊎_elim (no_tag_page home) (λ a. ⊎_elim (no_shared home) (λ b. ⊎_elim (no_wrong_page home) (λ c. ⊎_elim (no_wrong_entry home) (λ e. ⊎_elim (no_root home)
      (λ f. ⊎_elim (λ w. no_naming w.0 w.2) (λ w. no_wrong_slot w.1) f) e) c) b) a) fault
