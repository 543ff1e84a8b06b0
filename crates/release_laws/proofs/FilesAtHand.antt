-- The files of a domain are at hand where it is known that it stands with some.
use Rattle.std.proofs.Common.{◌≡◌, ◌∙◌, ◌⊎◌, ⊎_elim, inl, inr, ℕ, zero, suc, List, [], ◌∷◌, Option, Some, None, IfSome, IsSome, IsSomeAnd, Contains, is_some, length, refl, sym, ap, subst, arith}
use Rattle.std.proofs.lemmas.Bool.{cases_eq, true≢false}
use Rattle.std.proofs.Math.Logic.{∥∥₁_elim, ∥∥₁_map, ∥∥₁_prop}
use Rattle.std.specs.Coded.{Coded-set, coded_option, coded_list}
use Rattle.std.specs.List.{AllByRecursion}
use Rattle.std.specs.Option.{option_and_then}
use Rattle.standing_laws.specs.domain_base.declared.place.CellAt.{CellAt}
use Rattle.standing_laws.specs.domain_base.declared.place.Home.{Home}
use Rattle.standing_laws.specs.domain_base.declared.place.Tag.{Tag}
use Rattle.standing_laws.specs.cell_records.Records.{kind_of}
use Rattle.standing_laws.specs.cell_records.declared.record.Record.{Record}
use Rattle.standing_laws.specs.cell_records.declared.record.Leftover.TheVariants.{Remove}
use Rattle.standing_laws.specs.metadata_cells.Cell.{Cell}
use Rattle.standing_laws.specs.metadata_cells.Chain.{Follow, LinksFrom, PlacedCell, StandsAt, places}
use Rattle.standing_laws.specs.metadata_cells.declared.head.CellHead.{CellHead}
use Rattle.standing_laws.specs.metadata_cells.declared.head.CellKind.{CellKind}
use Rattle.standing_laws.specs.metadata_cells.declared.head.CellKind.TheVariants.{Chain, Primary, Quota, Volume}
use Rattle.standing_laws.proofs.OfMetadataCells.Unique.{one_stands}
use Rattle.standing_laws.specs.tag_dirs.Directory.{cell_of}
use Rattle.standing_laws.specs.tag_dirs.declared.dir.TagPlace.{TagPlace}
use Rattle.standing_laws.specs.free_cells.Cells.{table_of}
use Rattle.standing_laws.specs.file_chains.Files.{IsFile}
use Rattle.standing_laws.specs.file_release.Releases.{AreAllOnce}
use Rattle.standing_laws.specs.fileset_files.Files.{AreApart, LeadsToFile}
use Rattle.standing_laws.proofs.OfStoredSet.Stable.{IsStable, all, both, cell_kind_code, contains, determined, equal, first_of, if_some, is_none, is_there, less, not, nothing, one_number, place_code, placed_code, prop, second_of, some_and, unit}
use Rattle.standing_laws.proofs.OfStoredSet.StableCells.{is_file, linked}
use Rattle.standing_laws.proofs.OfStoredSet.StableFiles.{allocated, held_apart}
use Rattle.standing_laws.specs.release_list.declared.list.Entry.{Entry}
use Rattle.standing_laws.specs.release_list.Listed.{IsEntry, SaysWhatGoes, left_of, leftover_in, record_at}
use Rattle.standing_laws.specs.release_list.Standing.{Files, IsFileOrQuotas, IsQuotaCell, IsQuotas, IsStanding, source_at}
use Rattle.standing_laws.specs.release_list.Steps.{IsWell}
use Rattle.standing_laws.proofs.OfReleaseList.Spread.{none_not}
use Rattle.standing_laws.proofs.OfReleaseList.Standings.{quota_first}
use Rattle.standing_laws.proofs.OfReleaseSteps.Tags.{file_start, named}
use Rattle.standing_laws.proofs.OfDomainLayout.OneShape.{links_same}
use Rattle.standing_laws.specs.domain_layout.CellRules.{IsFirstPlace}
use Rattle.standing_laws.specs.domain_layout.Layout.{first_tag_of}
use Rattle.standing_laws.specs.domain_layout.Owners.{IsOnTable}
use Rattle.standing_laws.specs.domain_standing.Chains.{AreQuotasOf, HasEmptyTags, HasFilesAmong, IndexesAt, IsInChain, IsQuotaOf, IsSomebodys, StandsInSlot}
use Rattle.standing_laws.specs.domain_standing.Domain.{DomainNow, all_of, layout_of, named_by}
use Rattle.standing_laws.specs.domain_standing.Tables.{StandTables}
use Rattle.standing_laws.specs.log_ring.Homes.{IsMember}
use Rattle.standing_laws.proofs.OfDomainLayout.Reached.{member_or_none}
use Rattle.standing_laws.specs.page_store.Pages.{Pages}
use Rattle.standing_laws.specs.Leads.{StandsBelow}
use Rattle.release_laws.specs.AtHand.{StandsWithSome}
use Rattle.standing_laws.proofs.CellsNow.{all_in, later_chain, placed}
use Rattle.standing_laws.proofs.OtherSlots.{links_of}

-- ---- what is known of files as soon as it is known that it is so

kind_not : (a b : CellKind) → a ≡ b → (a ≡ Primary) × (b ≡ Quota) → ⊥
kind_not a b same is = let e : Primary ≡ Quota = sym is.0 ∙ same ∙ is.1 in absurd (cc)

quota_cell : (c : PlacedCell) → IsStable (IsQuotaCell c.cell)
quota_cell c t = record {
  kind = equal cell_kind_code _ _ (∥∥₁_map t (λ x. x.kind));
  limits = all (λ r. (kind_of r ≡ 7) ⊎ (kind_of r ≡ 8)) (λ r. seven_or_eight (kind_of r)) c.cell.records (∥∥₁_map t (λ x. x.limits));
}
  where
    seven_or_eight : (k : ℕ) → IsStable ((k ≡ 7) ⊎ (k ≡ 8))
    seven_or_eight k t = ⊎_elim
        (λ is. inl is)
        (λ other. inr (one_number k 8 (∥∥₁_map t (λ x. ⊎_elim (λ seven. absurd (other seven)) (λ eight. eight) x))))
        (cases_eq k 7)

quotas : (pages : Pages) (at : CellAt) (cs : List PlacedCell) → IsStable (IsQuotas pages at cs)
quotas pages at [] = nothing
quotas pages at (first ∷ rest) = both (equal place_code _ _) (λ t. record { links = linked pages first rest (∥∥₁_map t (λ x. x.links)); cells = all (λ (c : PlacedCell). IsQuotaCell c.cell) quota_cell (first ∷ rest) (∥∥₁_map t (λ x. x.cells)) })

stand_each : (pages : Pages) (head : CellHead) (cs : List PlacedCell) → Follow pages head cs → AllByRecursion (λ (c : PlacedCell). StandsAt pages c.at c.cell) cs
stand_each pages head [] follow = tt
stand_each pages head (c ∷ cs) follow = (follow.2, stand_each pages c.cell.head cs follow.3)

-- a file's chain begins with a cell of another kind than one of quotas
not_both : (pages : Pages) (at : CellAt) (cs : List PlacedCell) → IsFile pages at cs → IsQuotas pages at cs → ⊥
not_both pages at [] file are = file
not_both pages at (first ∷ rest) file are = kind_not first.cell.head.kind first.cell.head.kind refl (file.1.primary, are.1.cells.0.kind)

file_or_quotas : (pages : Pages) (at : CellAt) (cs : List PlacedCell) → IsStable (IsFileOrQuotas pages at cs)
file_or_quotas pages at [] = first_of (λ are. are) (is_file pages at [])
file_or_quotas pages at (first ∷ rest) = by_kind first.cell.head.kind refl
  where
    by_kind : (k : CellKind) → first.cell.head.kind ≡ k → IsStable (IsFileOrQuotas pages at (first ∷ rest))
    by_kind Quota is = second_of (λ file. kind_not first.cell.head.kind first.cell.head.kind refl (file.1.primary, is)) (quotas pages at (first ∷ rest))
    by_kind Primary is = first_of (λ are. kind_not first.cell.head.kind first.cell.head.kind refl (is, are.1.cells.0.kind)) (is_file pages at (first ∷ rest))
    by_kind Chain is = first_of (λ are. let e : Chain ≡ Quota = sym is ∙ are.1.cells.0.kind in absurd (cc)) (is_file pages at (first ∷ rest))
    by_kind Volume is = first_of (λ are. let e : Volume ≡ Quota = sym is ∙ are.1.cells.0.kind in absurd (cc)) (is_file pages at (first ∷ rest))

module _ (d : DomainNow) where
  stands : (at : CellAt) (cs : List PlacedCell) → IsStable (IsStanding d.cells d.pages at cs)
  stands at cs t = record {
    stands = file_or_quotas d.pages at cs (∥∥₁_map t (λ x. x.stands));
    on_tables = all (λ (c : PlacedCell). Contains (table_of d.cells c.at.vol) c.at.page) (λ c. contains (table_of d.cells c.at.vol) c.at.page) cs (∥∥₁_map t (λ x. x.on_tables));
  }

  one_entry : (files : Files) (entry : Entry) → IsStable (IsEntry files entry)
  one_entry files entry t = record {
    there = is_there _ (∥∥₁_map t (λ x. x.there));
    says = by_record (record_at files 6 entry.at) refl;
    given = λ clone is. some_and (λ source. source.at ≡ entry.at) (λ source. equal place_code _ _) (source_at files clone) (∥∥₁_map t (λ x. x.given clone is));
    all = λ clone reads. equal (coded_option place_code) _ _ (∥∥₁_map t (λ x. x.all clone reads));
  }
    where
      by_record : (o : Option Record) → record_at files 6 entry.at ≡ o → SaysWhatGoes files entry.at
      by_record None is = inr (is_none _ (∥∥₁_map t (λ x. ⊎_elim (λ some. absurd (true≢false (sym (sym (ap is_some is) ∙ some)))) (λ none. none) x.says)))
      by_record (Some r) is = inl (ap is_some is)

  well : (files : Files) → IsStable (IsWell (all_of d files))
  well files t = record {
    together = record {
      allocated = allocated d.space d.cells d.pages (∥∥₁_map t (λ x. x.together.allocated));
      each = λ at. if_some (IsStanding d.cells d.pages at) (stands at) (files at) (∥∥₁_map t (λ x. x.together.each at));
      apart = λ a b other. if_some (λ xs. IfSome (files b) (AreApart xs)) (λ xs. if_some (AreApart xs) (λ ys. no_cell xs ys) (files b)) (files a) (∥∥₁_map t (λ x. x.together.apart a b other));
      held = λ at page home is. held_apart d.space d.cells home (∥∥₁_map t (λ x. x.together.held at page home is));
      once = λ a b p q home is there. both (equal place_code _ _) (one_number _ _) (∥∥₁_map t (λ x. x.together.once a b p q home is there));
      one_deep = λ a b c reads. not (∥∥₁_map t (λ x. x.together.one_deep a b c reads));
    };
    listed = record {
      each = λ entry inside. one_entry files entry (∥∥₁_map t (λ x. x.listed.each entry inside));
      once = λ i j e low_i low_j same. one_number _ _ (∥∥₁_map t (λ x. x.listed.once i j e low_i low_j same));
      order = λ i j e low_i low_j is. less _ _ (∥∥₁_map t (λ x. x.listed.order i j e low_i low_j is));
      pages_once = all_once d.list.tag_pages (∥∥₁_map t (λ x. x.listed.pages_once));
      pages_low = λ home inside. less _ _ (∥∥₁_map t (λ x. x.listed.pages_low home inside));
      pages_held = λ home inside. held_apart d.space d.cells home (∥∥₁_map t (λ x. x.listed.pages_held home inside));
      pages_apart = λ home inside at page. not (∥∥₁_map t (λ x. x.listed.pages_apart home inside at page));
    };
  }
    where
      no_cell : (xs ys : List PlacedCell) → IsStable (AreApart xs ys)
      no_cell xs ys u at inside = not (∥∥₁_map u (λ f. f at inside))

      all_once : (homes : List Home) → IsStable (AreAllOnce homes)
      all_once [] = unit
      all_once (home ∷ homes) = both not (all_once homes)

  -- ---- files of which no other ones are so

  record AreAll (files : Files) : Type 0 where
    is : IsWell (all_of d files)
    tables : ∥ StandTables d ∥₁
    used : (at : CellAt) (cell : Cell) → IsOnTable d.pages (layout_of d) at cell → ∥ IsFirstPlace d.frame at ⊎ IsInChain files at ∥₁
    mine : (at : CellAt) (chain : List PlacedCell) → files at ≡ Some chain → ∥ IsSomebodys d at chain ∥₁
    quoted : (number : ℕ) (at : CellAt) → IsQuotaOf d number at → IsSome (files at)
    tagged : (number : ℕ) (tag : Tag) (at : CellAt) → cell_of d.pages (d.tags number) tag ≡ Some at → IsSome (files at)

  are_all : (files : Files) → IsStable (AreAll files)
  are_all files t = record {
    is = well files (∥∥₁_map t (λ x. x.is));
    tables = prop ∥∥₁_prop (∥∥₁_map t (λ x. x.tables));
    used = λ at cell on. prop ∥∥₁_prop (∥∥₁_map t (λ x. x.used at cell on));
    mine = λ at chain is. prop ∥∥₁_prop (∥∥₁_map t (λ x. x.mine at chain is));
    quoted = λ number at is. is_there _ (∥∥₁_map t (λ x. x.quoted number at is));
    tagged = λ number tag at is. is_there _ (∥∥₁_map t (λ x. x.tagged number tag at is));
  }

  files_set : (f g : Files) → IsProp (f ≡ g)
  files_set f g p q = λ i j at. Coded-set (coded_option (coded_list placed_code)) (f at) (g at) (λ k. p k at) (λ k. q k at) i j

  pub links : (at : CellAt) (cs : List PlacedCell) → IsFileOrQuotas d.pages at cs → LinksFrom d.pages at cs
  links at cs = ⊎_elim (λ file. of_file cs file) (λ are. links_of d.pages at cs are)
    where
      of_file : (cs : List PlacedCell) → IsFile d.pages at cs → LinksFrom d.pages at cs
      of_file [] file = absurd file
      of_file (first ∷ rest) file = (file.0, file.1.links)

  its_member : StandTables d → (vol p : ℕ) → Contains (table_of d.cells vol) p → IsMember d.frame.anchor vol
  its_member tables vol p on = ⊎_elim
      (λ member. member)
      (λ none. let e : length (table_of d.cells vol) ≡ 0 = ap length (tables.cells.others vol none) in absurd (omega (arith, e, on.1)))
      (member_or_none d.frame.anchor vol)

  -- a file that goes as a whole begins at a cell that is the first of no other chain, and a later one
  -- of none
  module _ (f g : Files) (mine : AreAll f) (others : AreAll g) where
    standing_in : (h : Files) (are : AreAll h) (at : CellAt) (cs : List PlacedCell) → h at ≡ Some cs → IsStanding d.cells d.pages at cs
    standing_in h are at cs there = subst (λ o. IfSome o (IsStanding d.cells d.pages at)) there (are.is.together.each at)

    -- the first cell of a file is none behind the first of another chain
    not_later : (at : CellAt) (first : PlacedCell) → first.at ≡ at → first.cell.head.kind ≡ Primary → StandsAt d.pages at first.cell → (start : CellAt) (ys : List PlacedCell) → IsFileOrQuotas d.pages start ys → Contains (places ys) at → start ≡ at
    not_later at first begins primary stood start [] are inside = absurd (omega (arith, inside.1))
    not_later at first begins primary stood start (y ∷ ys) are (zero, within, is) = sym (⊎_elim (λ file. file.0) (λ q. q.0) are) ∙ is
    not_later at first begins primary stood start (y ∷ ys) are (suc k, within, is) =
        let found = placed ys at (k, omega (arith, within), is) in
        absurd (⊎_elim
        (λ file. chain_not (all_in (λ (c : PlacedCell). c.cell.head.kind ≡ Chain) ys (later_chain d.pages y.cell.head ys (inl file.1.primary) file.1.links.follow) found.0 found.1)
        (primary_at found.0 found.2 (follow_stands y ys file.1.links.follow found.0 found.1)))
        (λ q. quota_not (all_in (λ (c : PlacedCell). IsQuotaCell c.cell) (y ∷ ys) q.1.cells found.0 (suc found.1.0, omega (arith, found.1.1), found.1.2)).kind
        (primary_at found.0 found.2 (follow_stands y ys q.1.links.follow found.0 found.1)))
        are)
      where
        chain_not : {k : CellKind} → k ≡ Chain → k ≡ Primary → ⊥
        chain_not a b = let e : Chain ≡ Primary = sym a ∙ b in absurd (cc)

        quota_not : {k : CellKind} → k ≡ Quota → k ≡ Primary → ⊥
        quota_not a b = let e : Quota ≡ Primary = sym a ∙ b in absurd (cc)

        follow_stands : (y : PlacedCell) (ys : List PlacedCell) → Follow d.pages y.cell.head ys → (c : PlacedCell) → Contains ys c → StandsAt d.pages c.at c.cell
        follow_stands y ys follow = all_in (λ (c : PlacedCell). StandsAt d.pages c.at c.cell) ys (stand_each d.pages y.cell.head ys follow)

        primary_at : (c : PlacedCell) → c.at ≡ at → StandsAt d.pages c.at c.cell → c.cell.head.kind ≡ Primary
        primary_at c same stands = ap (λ (x : Cell). x.head.kind) (one_stands d.pages at c.cell first.cell (subst (λ (a : CellAt). StandsAt d.pages a c.cell) same stands) stood) ∙ primary

    nobody : (at : CellAt) (cs : List PlacedCell) → f at ≡ Some cs → g at ≡ None → ⊥
    nobody at cs there none = ∥∥₁_elim (mine.mine at cs there) (λ x y. absurd x) (λ somebody. ⊎_elim
        (λ tagged. missing (others.tagged tagged.0 tagged.1 at tagged.2))
        (λ rest. ⊎_elim
        (λ removed. gone cs there removed)
        (λ quota. missing (others.quoted quota.0 at quota.1))
        rest)
        somebody)
      where
        missing : IsSome (g at) → ⊥
        missing some = true≢false (sym (sym (ap is_some none) ∙ some))

        -- a file of which all goes
        gone : (cs : List PlacedCell) → f at ≡ Some cs → left_of cs ≡ Some Remove → ⊥
        gone [] there removed = none_not Remove removed
        gone (first ∷ rest) there removed =
            let it = standing_in f mine at (first ∷ rest) there in
            ⊎_elim
            (λ file. ∥∥₁_elim mine.tables (λ x y. absurd x) (λ tables. ∥∥₁_elim
            (others.used at first.cell (on_table tables it.on_tables.0 file))
            (λ x y. absurd x)
            (λ used. ⊎_elim (λ is_first. first_place tables file is_first) (λ chain. in_chain file chain.0 chain.1) used)))
            (λ are. none_not Remove (sym (ap (option_and_then leftover_in) (quota_first d.pages at (first ∷ rest) are 6 (λ e. omega (arith, e)) (λ e. omega (arith, e)))) ∙ removed))
            it.stands
          where
            on_table : StandTables d → Contains (table_of d.cells first.at.vol) first.at.page → IsFile d.pages at (first ∷ rest) → IsOnTable d.pages (layout_of d) at first.cell
            on_table tables on file = subst (λ (a : CellAt). IsOnTable d.pages (layout_of d) a first.cell) file.0 (record { member = its_member tables first.at.vol first.at.page on; table = on; stands = file.1.links.stands })

            stood : IsFile d.pages at (first ∷ rest) → StandsAt d.pages at first.cell
            stood file = subst (λ (a : CellAt). StandsAt d.pages a first.cell) file.0 file.1.links.stands

            in_chain : IsFile d.pages at (first ∷ rest) → (start : CellAt) → IsSomeAnd (g start) (λ chain. Contains (places chain) at) → ⊥
            in_chain file start inside = by_chain (g start) refl inside
              where
                by_chain : (o : Option (List PlacedCell)) → g start ≡ o → IsSomeAnd o (λ chain. Contains (places chain) at) → ⊥
                by_chain None is inside = inside
                by_chain (Some ys) is inside =
                    let same = not_later at first file.0 file.1.primary (stood file) start ys (standing_in g others start ys is).stands inside in
                    none_not ys (sym none ∙ ap g (sym same) ∙ is)

            first_place : StandTables d → IsFile d.pages at (first ∷ rest) → IsFirstPlace d.frame at → ⊥
            first_place tables file is_first =
                let v = tables.volumes at.vol (subst (λ (a : CellAt). IsMember d.frame.anchor a.vol) file.0 (its_member tables first.at.vol first.at.page (standing_in f mine at (first ∷ rest) there).on_tables.0)) in
                let here : StandsAt d.pages at v.cell = subst (λ (a : CellAt). StandsAt d.pages a v.cell) (λ i. record { vol = at.vol; page = sym is_first.0 i; cell = sym is_first.1 i }) v.stands in
                volume_not (ap (λ (c : Cell). c.head.kind) (one_stands d.pages at v.cell first.cell here (stood file)) ∙ file.1.primary) v.says.kind
              where
                volume_not : {k : CellKind} → k ≡ Primary → k ≡ Volume → ⊥
                volume_not a b = let e : Primary ≡ Volume = sym a ∙ b in absurd (cc)

  one_files : (f g : Files) → AreAll f → AreAll g → f ≡ g
  one_files f g mine others = λ i at. same_at at i
    where
      same_at : (at : CellAt) → f at ≡ g at
      same_at at = by_chains (f at) (g at) refl refl
        where
          by_chains : (o p : Option (List PlacedCell)) → f at ≡ o → g at ≡ p → f at ≡ g at
          by_chains None None is_f is_g = is_f ∙ sym is_g
          by_chains (Some xs) None is_f is_g = absurd (nobody f g mine others at xs is_f is_g)
          by_chains None (Some ys) is_f is_g = absurd (nobody g f others mine at ys is_g is_f)
          by_chains (Some xs) (Some ys) is_f is_g =
              is_f ∙ ap Some (links_same d.pages at xs ys (links at xs (standing_in f g mine others f mine at xs is_f).stands) (links at ys (standing_in f g mine others g others at ys is_g).stands)) ∙ sym is_g

  -- ---- those with which it stands are so

  module _ (files : Files) (indexes : IndexesAt) (below : StandsBelow d files indexes) where
    tagged_there : (number : ℕ) (tag : Tag) (at : CellAt) → cell_of d.pages (d.tags number) tag ≡ Some at → IsSome (files at)
    tagged_there number tag at leads = by_first (named_by first_tag_of d number) (below.chains.slots number)
      where
        by_first : (o : Option Home) → StandsInSlot d files number o → IsSome (files at)
        by_first None empty = absurd (none_not at (sym (ap (λ (ps : List TagPlace). cell_of d.pages ps tag) empty) ∙ leads))
        by_first (Some first) stood = ⊎_elim among empty stood
          where
            empty : HasEmptyTags d number → IsSome (files at)
            empty is = absurd (none_not at (sym (is.none tag) ∙ leads))

            among : HasFilesAmong d files number → IsSome (files at)
            among has = by_chain (has.chains tag) refl
              where
                by_chain : (o : Option (List PlacedCell)) → has.chains tag ≡ o → IsSome (files at)
                by_chain None none = absurd (none_not at (sym (has.are.none tag none) ∙ leads))
                by_chain (Some cs) some =
                    let m = named files has.chains tag cs some (has.among.same tag) in
                    let file : IsFile d.pages at cs = subst (λ o. IsSomeAnd o (λ a. IsFile d.pages a cs)) leads (subst (λ o. IfSome o (LeadsToFile number (d.tags number) d.pages tag)) some (has.are.some tag)).leads in
                    ap is_some (ap files (file_start d.pages at m.at cs file m.start) ∙ m.is)

    all_of_them : AreAll files
    all_of_them = record {
      is = below.chains.well;
      tables = ∣ below.tables ∣₁;
      used = λ at cell on. ∣ below.chains.used at cell on ∣₁;
      mine = λ at chain is. ∣ below.chains.named at chain is ∣₁;
      quoted = λ number at is. some_there (AreQuotasOf d number at) (files at) (below.chains.quotas number at is);
      tagged = tagged_there;
    }
      where
        some_there : (P : List PlacedCell → Type 0) (o : Option (List PlacedCell)) → IsSomeAnd o P → IsSome o
        some_there P None is = absurd is
        some_there P (Some cs) is = refl

  -- the files of a domain of which it is known that it stands
  pub files_at_hand : ∥ StandsWithSome d ∥₁ → (files : Files) × IsWell (all_of d files)
  files_at_hand t =
      let found = determined AreAll files_set one_files are_all (∥∥₁_map t (λ s. (s.0, all_of_them s.0 s.1 s.2))) in
      (found.0, found.1.is)
