-- The tag directories and the quota cells of slots stand on over steps.
use Rattle.std.proofs.Common.{◌≡◌, ◌∙◌, inl, inr, ℕ, false, List, [], Option, Some, None, IfSome, IsSome, IsSomeAnd, Contains, slice_get, refl, sym, ap, subst, arith, ⊎_elim, true≢false}
use Rattle.std.specs.Option.{option_and_then}
use Rattle.standing_laws.specs.domain_base.declared.place.CellAt.{CellAt}
use Rattle.standing_laws.specs.domain_base.declared.place.Home.{Home}
use Rattle.standing_laws.specs.domain_base.declared.place.Tag.{Tag}
use Rattle.standing_laws.specs.page_store.Bitfiles.{same_tag}
use Rattle.standing_laws.specs.cell_records.declared.record.Leftover.TheVariants.{Trim}
use Rattle.standing_laws.specs.metadata_cells.Chain.{PlacedCell}
use Rattle.standing_laws.specs.tag_dirs.declared.dir.TagPlace.{TagPlace}
use Rattle.standing_laws.specs.tag_dirs.Directory.{cell_of}
use Rattle.standing_laws.specs.file_chains.Files.{IsFile}
use Rattle.standing_laws.specs.fileset_files.Files.{AreApart, AreFiles, Chains, LeadsToFile, is_removed}
use Rattle.standing_laws.proofs.OfFilesetFiles.Tags.{cell_same, directory_same, pages_same}
use Rattle.standing_laws.specs.fileset_table.declared.slot.SlotItem.{SlotItem}
use Rattle.standing_laws.specs.release_list.declared.list.Entry.{Entry}
use Rattle.standing_laws.specs.release_list.Listed.{left_of}
use Rattle.standing_laws.specs.release_list.Standing.{Files}
use Rattle.standing_laws.specs.release_list.Steps.{IsWell}
use Rattle.standing_laws.proofs.OfReleaseList.Spread.{none_not, some_same}
use Rattle.standing_laws.proofs.OfReleaseList.Standings.{apart_by, chain_inside, is_file, standing}
use Rattle.standing_laws.specs.release_steps.Tags.{AreAmong, chains_in, start_of}
use Rattle.standing_laws.proofs.OfReleaseSteps.Said.{SaysSame}
use Rattle.standing_laws.proofs.OfReleaseSteps.StillThere.{files_stay}
use Rattle.standing_laws.proofs.OfReleaseSteps.Tags.{IsNamed, file_start, has_attributes, named}
use Rattle.standing_laws.specs.domain_layout.Layout.{AreTagPlaces, first_tag_of}
use Rattle.standing_laws.specs.domain_standing.Chains.{AreQuotasOf, HasEmptyTags, HasFilesAmong, IndexesAt, IsQuotaOf, StandsInSlot}
use Rattle.standing_laws.specs.domain_standing.Domain.{DomainNow, all_of, named_by}
use Rattle.standing_laws.specs.domain_standing.Sources.{StandAlone}
use Rattle.standing_laws.specs.Leads.{StandsBelow}
use Rattle.release_laws.specs.Released.{Releases}
use Rattle.release_laws.proofs.Led.{go, led, well_now, well_was}
use Rattle.release_laws.proofs.ListGo.{entry_was, left_was, not_done}
use Rattle.release_laws.proofs.QuotasGo.{quotas_go}
use Rattle.release_laws.proofs.TablesGo.{tag_page}

module _ (group count : ℕ) (d now : DomainNow) (files files_now : Files) (indexes : IndexesAt) (below : StandsBelow d files indexes) (alone : StandAlone d) (s : Releases group count d now files files_now) where
  abbrev it : DomainNow
  it = led group count d now files files_now indexes below alone s

  was : IsWell (all_of d files)
  was = well_was d files indexes below

  well : IsWell (all_of it files_now)
  well = well_now group count d now files files_now indexes below alone s

  -- ---- tags lead where they led

  pub cells_lead : (n : ℕ) (tag : Tag) → cell_of now.pages (d.tags n) tag ≡ cell_of d.pages (d.tags n) tag
  cells_lead n tag = by_item (slice_get d.table.slots n) refl
    where
      nothing : d.tags n ≡ [] → cell_of now.pages (d.tags n) tag ≡ cell_of d.pages (d.tags n) tag
      nothing none = ap (λ (ps : List TagPlace). cell_of now.pages ps tag) none ∙ sym (ap (λ (ps : List TagPlace). cell_of d.pages ps tag) none)

      by_first : (o : Option Home) → AreTagPlaces d.pages o (d.tags n) → cell_of now.pages (d.tags n) tag ≡ cell_of d.pages (d.tags n) tag
      by_first None none = nothing none
      by_first (Some first) are = cell_same d.pages now.pages (d.tags n) are.directory (pages_same d.pages now.pages (d.tags n) (tag_page group count d now files files_now indexes below alone s n)) tag

      by_item : (o : Option SlotItem) → slice_get d.table.slots n ≡ o → cell_of now.pages (d.tags n) tag ≡ cell_of d.pages (d.tags n) tag
      by_item None at = nothing (subst (λ o. StandsInSlot d files n (option_and_then first_tag_of o)) at (below.chains.slots n))
      by_item (Some item) at = by_first (first_tag_of item) (below.tables.laid.tags n item at)

  -- ---- quota cells

  -- those that a slot names are its own still
  pub quotas_now : (n : ℕ) (at : CellAt) → IsQuotaOf d n at → ¬ files_now at ≡ None → IsSomeAnd (files_now at) (AreQuotasOf it n at)
  quotas_now n at quota stays = by_chain (files_now at) refl
    where
      are : (cells : List PlacedCell) → files at ≡ Some cells → AreQuotasOf d n at cells
      are cells some = subst (λ o. IsSomeAnd o (AreQuotasOf d n at)) some (below.chains.quotas n at quota)

      by_chain : (o : Option (List PlacedCell)) → files_now at ≡ o → IsSomeAnd o (AreQuotasOf it n at)
      by_chain None gone = absurd (stays gone)
      by_chain (Some after) there =
          let now_are = quotas_go d n at group d.frame.version (all_of d files) was are count (all_of it files_now) s.steps after there in
          record { quotas = now_are.quotas; of = now_are.of; once = now_are.once }

  -- ---- the files of a slot

  module _ (n : ℕ) (has : HasFilesAmong d files n) where
    abbrev pub chains_now : Chains
    chains_now = chains_in files_now has.chains

    -- what became of a tag's file
    record TagGoes (t : Tag) (cs : List PlacedCell) : Type 0 where
      at : CellAt
      start : start_of cs ≡ Some at
      before : files at ≡ Some cs
      after : List PlacedCell
      there : files_now at ≡ Some after
      says : SaysSame cs after
      is : chains_now t ≡ Some after

    goes : (t : Tag) (cs : List PlacedCell) → has.chains t ≡ Some cs → TagGoes t cs
    goes t cs some =
        let m = named files has.chains t cs some (has.among.same t) in
        let trims : (e : Entry) → Contains d.list.entries e → e.at ≡ m.at → left_of cs ≡ Some Trim = (λ e inside at. ap (option_and_then left_of) (sym some) ∙ has.among.trimmed e inside t (ap (option_and_then start_of) some ∙ m.start ∙ ap Some (sym at))) in
        by_file m (files_now m.at) refl (files_stay group d.frame.version (all_of d files) count (all_of it files_now) was s.steps m.at cs m.is trims)
      where
        by_file : (m : IsNamed files cs) → (o : Option (List PlacedCell)) → files_now m.at ≡ o → IsSome o → TagGoes t cs
        by_file m None is there = absurd (true≢false (sym there))
        by_file m (Some after) is there =
            let said = (go group count d now files files_now indexes below alone s).says m.at after is in
            record {
              at = m.at;
              start = m.start;
              before = m.is;
              after = after;
              there = is;
              says = subst (λ (xs : List PlacedCell). SaysSame xs after) (some_same said.0 cs (sym said.1 ∙ m.is)) said.2;
              is = ap (λ o. option_and_then files_now (option_and_then start_of o)) some ∙ ap (option_and_then files_now) m.start ∙ is;
            }

    -- of each tag that names one then
    all_now : (t : Tag) (P : Option (List PlacedCell) → Type 0) → P None → ((cs : List PlacedCell) → has.chains t ≡ Some cs → (g : TagGoes t cs) → P (Some g.after)) → P (chains_now t)
    all_now t P nothing each = by_chain (has.chains t) refl
      where
        by_chain : (o : Option (List PlacedCell)) → has.chains t ≡ o → P (chains_now t)
        by_chain None is = subst P (sym (ap (λ o. option_and_then files_now (option_and_then start_of o)) is)) nothing
        by_chain (Some cs) is = let g = goes t cs is in subst P (sym g.is) (each cs is g)

    leads_now : (t : Tag) (cs : List PlacedCell) → has.chains t ≡ Some cs → (g : TagGoes t cs) → LeadsToFile n (d.tags n) now.pages t g.after
    leads_now t cs some g =
        let led = subst (λ o. IfSome o (LeadsToFile n (d.tags n) d.pages t)) some (has.are.some t) in
        record {
          leads = subst (λ o. IsSomeAnd o (λ at. IsFile now.pages at g.after)) (sym (cells_lead n t)) (by_cell (cell_of d.pages (d.tags n) t) led.leads);
          is_of = g.says.is_of n t led.is_of;
          kinds = g.says.kinds led.kinds;
        }
      where
        by_cell : (o : Option CellAt) → IsSomeAnd o (λ at. IsFile d.pages at cs) → IsSomeAnd o (λ at. IsFile now.pages at g.after)
        by_cell None leads = leads
        by_cell (Some a) leads = subst (λ (b : CellAt). IsFile now.pages b g.after) (sym (file_start d.pages a g.at cs leads g.start))
            (is_file now.pages g.at g.after (standing now.space now.cells now.pages files_now well.together g.at g.after g.there).stands 1 (λ e. omega (arith, e)) (λ e. omega (arith, e)) (g.says.attributes (has_attributes d.pages a cs leads)))

    none_now : (t : Tag) → chains_now t ≡ None → cell_of now.pages (d.tags n) t ≡ None
    none_now t nothing = cells_lead n t ∙ has.are.none t (by_chain (has.chains t) refl)
      where
        by_chain : (o : Option (List PlacedCell)) → has.chains t ≡ o → has.chains t ≡ None
        by_chain None is = is
        by_chain (Some cs) is = let g = goes t cs is in absurd (none_not g.after (sym nothing ∙ g.is))

    -- two tags' files begin at two cells
    begin_apart : (one other : Tag) → same_tag one other ≡ false → (xs ys : List PlacedCell) → has.chains one ≡ Some xs → has.chains other ≡ Some ys → (a b : CellAt) → files a ≡ Some xs → files b ≡ Some ys → ¬ a ≡ b
    begin_apart one other differ xs ys is_one is_other a b at_a at_b same =
        let apart = subst (λ o. IfSome o (AreApart xs)) is_other (subst (λ o. IfSome o (λ xs. IfSome (has.chains other) (AreApart xs))) is_one (has.are.apart one other differ)) in
        let one_chain : ys ≡ xs = some_same ys xs (sym at_b ∙ sym (ap files same) ∙ at_a) in
        let inside = chain_inside d.pages a xs (standing d.space d.cells d.pages files was.together a xs at_a).stands in
        subst (λ (zs : List PlacedCell). AreApart xs zs) one_chain apart a inside inside

    apart_now : (one other : Tag) → same_tag one other ≡ false → IfSome (chains_now one) (λ xs. IfSome (chains_now other) (AreApart xs))
    apart_now one other differ =
        all_now one (λ o. IfSome o (λ xs. IfSome (chains_now other) (AreApart xs))) tt (λ xs is_one g.
        all_now other (λ o. IfSome o (AreApart g.after)) tt (λ ys is_other h.
        apart_by now.space now.cells now.pages files_now well.together g.at h.at g.after h.after g.there h.there (begin_apart one other differ xs ys is_one is_other g.at h.at g.before h.before)))

    pub files_are : AreFiles n (d.tags n) now.pages chains_now
    files_are = record {
      directory = directory_same d.pages now.pages (d.tags n) has.are.directory (pages_same d.pages now.pages (d.tags n) (tag_page group count d now files files_now indexes below alone s n));
      none = none_now;
      some = λ t. all_now t (λ o. IfSome o (LeadsToFile n (d.tags n) now.pages t)) tt (leads_now t);
      apart = apart_now;
    }

    pub among_now : AreAmong (all_of it files_now) (d.tags n) chains_now
    among_now = record {
      same = λ t. all_now t (λ o. option_and_then files_now (option_and_then start_of o) ≡ o) refl
          (λ cs some g. ap (option_and_then files_now) (g.says.start ∙ g.start) ∙ g.there);
      live = λ t. all_now t (λ o. IfSome o (λ cs. is_removed cs ≡ false)) tt
          (λ cs some g. g.says.live (subst (λ o. IfSome o (λ cs. is_removed cs ≡ false)) some (has.among.live t)));
      trimmed = λ e inside t. all_now t (λ o. option_and_then start_of o ≡ Some e.at → option_and_then left_of o ≡ Some Trim) (λ none. absurd (none_not e.at none)) (λ cs some g start. trimmed_now e inside t cs some g (some_same g.at e.at (sym (g.says.start ∙ g.start) ∙ start)));
      low = has.among.low;
      no_tags = λ at page home there. has.among.no_tags at page home ((go group count d now files files_now indexes below alone s).had at page home there);
      not_listed = λ home inside. has.among.not_listed home (subst (λ (ps : List Home). Contains ps home) s.tag_pages inside);
    }
      where
        trimmed_now : (e : Entry) → Contains now.list.entries e → (t : Tag) (cs : List PlacedCell) → has.chains t ≡ Some cs → (g : TagGoes t cs) → g.at ≡ e.at → left_of g.after ≡ Some Trim
        trimmed_now e inside t cs some g at =
            let w = entry_was group d.frame.version (all_of d files) count (all_of it files_now) was s.steps e inside in
            let trim : left_of cs ≡ Some Trim = ap (option_and_then left_of) (sym some) ∙ has.among.trimmed w.0 w.1 t (ap (option_and_then start_of) some ∙ g.start ∙ ap Some (at ∙ sym w.2)) in
            let c = left_was group d.frame.version (all_of d files) count (all_of it files_now) was s.steps g.at g.after g.there in
            ⊎_elim
            (λ keeps. keeps.1 ∙ ap left_of (some_same c.0 cs (sym c.1 ∙ g.before)) ∙ trim)
            (λ gone. absurd (not_done (all_of it files_now) well e inside g.after (ap files_now (sym at) ∙ g.there) gone.keeps.0 gone.keeps.1))
            c.2

    pub slot_files : HasFilesAmong it files_now n
    slot_files = record { chains = chains_now; are = files_are; among = among_now }

  pub empty_now : (n : ℕ) → HasEmptyTags d n → HasEmptyTags it n
  empty_now n empty = record {
    removed = empty.removed;
    none = λ tag. cells_lead n tag ∙ empty.none tag;
    listed = empty.listed ∙ sym s.tag_pages;
  }

  pub slots_now : (n : ℕ) → StandsInSlot it files_now n (named_by first_tag_of d n)
  slots_now n = by_first (named_by first_tag_of d n) (below.chains.slots n)
    where
      by_first : (o : Option Home) → StandsInSlot d files n o → StandsInSlot it files_now n o
      by_first None none = none
      by_first (Some first) stood = ⊎_elim (λ has. inl (slot_files n has)) (λ empty. inr (empty_now n empty)) stood
