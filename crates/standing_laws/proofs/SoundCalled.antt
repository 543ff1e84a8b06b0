-- A domain is as rules ask beside after a call on a tag.
use Rattle.std.proofs.Common.{◌≡◌, ◌∙◌, ◌==◌, ◌||◌, ◌⊎◌, inl, ℕ, zero, suc, Bool, true, List, [], ◌∷◌, map, Some, IfSome, IsSomeAnd, Contains, refl, sym, ap, subst, arith, ⊎_elim}
use Rattle.domain_standing.specs.domain_base.declared.place.CellAt.{CellAt}
use Rattle.domain_standing.specs.domain_base.declared.place.Home.{Home}
use Rattle.domain_standing.specs.domain_base.declared.place.Tag.{Tag}
use Rattle.domain_standing.specs.domain_base.declared.version.Version.{Version}
use Rattle.domain_standing.specs.domain_base.declared.version.Version.TheVariants.{Four, Three}
use Rattle.domain_standing.specs.cell_records.Records.{kind_of}
use Rattle.domain_standing.specs.log_ring.Homes.{IsMember}
use Rattle.domain_standing.specs.metadata_cells.Cell.{Cell}
use Rattle.domain_standing.specs.metadata_cells.Chain.{PlacedCell, StandsAt, places}
use Rattle.domain_standing.specs.metadata_cells.declared.head.CellKind.TheVariants.{Chain, Primary}
use Rattle.domain_standing.specs.tag_dirs.Directory.{has_home}
use Rattle.domain_standing.specs.tag_dirs.declared.dir.TagPlace.{TagPlace}
use Rattle.domain_standing.specs.directory_pages.Index.{IsIndexPage}
use Rattle.domain_standing.specs.extent_records.Writing.{chain_kind}
use Rattle.domain_standing.specs.free_cells.Cells.{table_of}
use Rattle.domain_standing.specs.file_chains.FileChanges.{AreOnTables, SameFirst, map_kinds}
use Rattle.domain_standing.specs.file_chains.Files.{AreFile, IsFile, IsMapCell, has_rows}
use Rattle.domain_standing.proofs.OfFileChains.ChainChanges.{inside_places, stand_file}
use Rattle.domain_standing.proofs.OfFileChains.MapRecords.{value_has_rows}
use Rattle.domain_standing.proofs.OfFileChains.Replaced.{filter_true}
use Rattle.domain_standing.specs.fileset_files.Changes.{says_removed, with_first}
use Rattle.domain_standing.specs.fileset_files.Files.{Chains}
use Rattle.domain_standing.specs.release_list.Standing.{Files}
use Rattle.domain_standing.specs.release_steps.Calls.{Call, Drops, FilesetNow, Gives, Makes, SetsFirst, cut, described, dropped, given, indexed, made, moved, put_in, refused}
use Rattle.domain_standing.proofs.OfReleaseSteps.FirstWell.{are_file, tag_now as tag_set}
use Rattle.domain_standing.proofs.OfReleaseSteps.MakeWell.{tag_now as tag_made}
use Rattle.domain_standing.specs.domain_layout.CellRules.{is_chain_records}
use Rattle.domain_standing.specs.domain_layout.Owners.{IsOnTable}
use Rattle.domain_standing.specs.domain_layout.Reached.{Frame, IsWithin}
use Rattle.domain_standing.proofs.OfDomainLayout.Reached.{same_number}
use Rattle.domain_standing.specs.Chains.{IndexesAt}
use Rattle.domain_standing.specs.Domain.{DomainNow, layout_of}
use Rattle.domain_standing.specs.Holders.{Holder, Holds}
use Rattle.domain_standing.specs.Holders.Holder.{of_cells, of_file, of_index, of_log, of_table, of_tags, of_volume}
use Rattle.standing_laws.specs.Leads.{LeadsOn, MayCall, StandsBelow, fileset_now}
use Rattle.standing_laws.proofs.CellsNow.{CellsGoOn, all_in, cell_was, dropped_cells, given_cells, in_or_out, later_chain, made_cells, placed as cell_placed, refused_cells, set_cells}
use Rattle.standing_laws.proofs.HeldHolders.{MayTake, placed, table_back, tags_back}
use Rattle.standing_laws.proofs.TablesStand.{member_of_table, together_now, used}
use Rattle.standing_laws.proofs.TablesTaken.{page_stays}
use Rattle.standing_laws.specs.Sound.{StandsSound, StandsSoundBut}
use Rattle.standing_laws.proofs.SoundKept.{can_within}
use Rattle.standing_laws.proofs.SoundParted.{NoFile, good_by, sound_but, sound_none}
use Rattle.standing_laws.proofs.HomeLists.{in_get}

-- ---- a chain cell

-- the kinds that its record may have
abbrev is_later : ℕ → Bool
is_later k = (k == 3) || (k == 5) || (k == 13)

joined_later : (version : Version) → is_later (chain_kind version) ≡ true
joined_later Three = refl
joined_later Four = refl

one_kind : (cell : Cell) (is : IsMapCell cell) → map_kinds cell.records ≡ kind_of is.value ∷ []
one_kind cell is = ap map_kinds is.only ∙ ap (map kind_of) (filter_true has_rows is.value [] (value_has_rows is.value is.is_map))

same_kind : (j k : ℕ) → j ∷ [] ≡ k ∷ [] → j ≡ k
same_kind j k same = cc

-- one is as it may be where its kinds are those of one that is
by_kind : (cell : Cell) (is : IsMapCell cell) (k : ℕ) → map_kinds cell.records ≡ k ∷ [] → is_later k ≡ true → is_chain_records cell.records ≡ true
by_kind cell is k kinds later = ap is_chain_records is.only ∙ ap is_later (same_kind (kind_of is.value) k (sym (one_kind cell is) ∙ kinds)) ∙ later

-- the cells that a call changes or adds are so, where they are chain cells
abbrev AreLater : List PlacedCell → Type 0
AreLater cells = (c : PlacedCell) → Contains cells c → c.cell.head.kind ≡ Chain → is_chain_records c.cell.records ≡ true

one_first : (c : PlacedCell) → c.cell.head.kind ≡ Primary → AreLater (c ∷ [])
one_first c primary x inside chain =
    let first : x.cell.head.kind ≡ Primary = all_in (λ (y : PlacedCell). y.cell.head.kind ≡ Primary) (c ∷ []) (primary, tt) x inside in
    let e : Primary ≡ Chain = sym first ∙ chain in absurd (cc)

record HasKind (cell : Cell) : Type 0 where
  kind : ℕ
  only : map_kinds cell.records ≡ kind ∷ []
  later : is_later kind ≡ true

record GoesOn (old new : FilesetNow) : Type 0 where
  after : List PlacedCell
  cells : CellsGoOn old new after
  later : AreLater after

module _ (number : ℕ) (tag : Tag) (d now : DomainNow) (chains chains_now : Chains) (files files_now : Files) (indexes : IndexesAt) (apart : CellAt → Type 0) (below : StandsBelow d files indexes) (sound : StandsSoundBut apart d files indexes)
    (s : LeadsOn number tag d now chains chains_now files files_now)
  where
    abbrev old : FilesetNow
    old = fileset_now d number chains files

    abbrev new : FilesetNow
    new = fileset_now now number chains_now files_now

    -- ---- cells

    set_later : (says : Cell → Cell) (t : SetsFirst number tag says old new) → AreLater (record { at = t.first.at; cell = says t.first.cell } ∷ [])
    set_later says t = one_first (record { at = t.first.at; cell = says t.first.cell })
        (are_file number (d.tags number) now.pages _ t.together.files tag (record { at = t.first.at; cell = says t.first.cell }) t.rest (tag_set number tag old new s.well says t)).primary

    dropped_later : (t : Drops number tag old new) → AreLater (record { at = t.first.at; cell = says_removed t.first.cell } ∷ [])
    dropped_later t = one_first (record { at = t.first.at; cell = says_removed t.first.cell })
        (subst (λ o. IsSomeAnd o (λ cells. IsFile now.pages t.at (with_first says_removed cells))) t.is t.removes.pending).1.primary

    made_later : (t : Makes number d.frame.version tag old new) → AreLater (t.creates.first ∷ [])
    made_later t = one_first t.creates.first (are_file number (now.tags number) now.pages _ t.creates.together.files tag t.creates.first [] (tag_made number d.frame.version tag old new s.well t)).primary

    module _ (t : Gives number d.frame.version tag old new) where
      module _ (a : PlacedCell) (xs : List PlacedCell) (chain_is : t.chain ≡ a ∷ xs) (f : PlacedCell) (r : List PlacedCell) (after_is : t.puts.change.change.changes.after ≡ f ∷ r) where
        is_was : chains tag ≡ Some (a ∷ xs)
        is_was = t.puts.is ∙ ap Some chain_is

        file_was : AreFile d.pages a xs
        file_was = are_file number (d.tags number) d.pages chains s.well.together.files tag a xs is_was

        same : SameFirst (a ∷ xs) (f ∷ r)
        same = subst (λ c. SameFirst c (f ∷ r)) chain_is (subst (SameFirst t.chain) after_is t.puts.change.change.changes.first)

        file_now : AreFile now.pages f r
        file_now = (subst (IsFile now.pages t.puts.change.start) after_is t.puts.change.change.changes.is_file).1

        -- a chain cell of the file as it was
        was_kind : (b : PlacedCell) → Contains xs b → HasKind b.cell
        was_kind b inside =
            let whole : Contains (a ∷ xs) b = (suc inside.0, omega (arith, inside.1), inside.2) in
            let on : AreOnTables d.cells (a ∷ xs) = subst (λ o. IfSome o (AreOnTables d.cells)) is_was (s.well.together.on_tables tag) in
            let table = all_in (λ (c : PlacedCell). Contains (table_of d.cells c.at.vol) c.at.page) (a ∷ xs) on b whole in
            let chain = all_in (λ (c : PlacedCell). c.cell.head.kind ≡ Chain) xs (later_chain d.pages a.cell.head xs (inl file_was.primary) file_was.links.follow) b inside in
            let is : IsMapCell b.cell = all_in (λ (c : PlacedCell). IsMapCell c.cell) xs file_was.others b inside in
            record {
              kind = kind_of is.value;
              only = one_kind b.cell is;
              later = sym (ap is_chain_records is.only) ∙ sound.laters b.at b.cell (record {
                member = member_of_table number tag d now chains chains_now files files_now indexes below s b.at.vol b.at.page table;
                table = table;
                stands = all_in (λ (c : PlacedCell). StandsAt d.pages c.at c.cell) (a ∷ xs) (stand_file d.pages a.at (a ∷ xs) (refl, file_was)) b whole;
              }) chain;
            }

        -- and as it is: it was one, or joined
        now_kind : (c : PlacedCell) → Contains r c → HasKind c.cell
        now_kind c inside = ⊎_elim stays joined (in_or_out t.chain c.at)
          where
            in_after : Contains t.puts.change.change.changes.after c
            in_after = subst (λ cs. Contains cs c) (sym after_is) (suc inside.0, omega (arith, inside.1), inside.2)

            by_place : (b : PlacedCell) → Contains (a ∷ xs) b → Contains t.chain b → b.at ≡ c.at → HasKind c.cell
            by_place b (zero, within, is) among at =
                let first : f.at ≡ c.at = same.0 ∙ ap (λ (x : PlacedCell). x.at) is ∙ at in
                absurd (file_now.links.distinct.0 (subst (Contains (places r)) (sym first) (inside_places r c inside)))
            by_place b (suc k, within, is) among at =
                let was = was_kind b (k, omega (arith, within), is) in
                record { kind = was.kind; only = t.puts.change.change.same_kinds b c among in_after (sym at) ∙ was.only; later = was.later }

            stays : Contains (places t.chain) c.at → HasKind c.cell
            stays among =
                let b = cell_placed t.chain c.at among in
                by_place b.0 (subst (λ cs. Contains cs b.0) chain_is b.1) b.1 b.2

            joined : ¬ Contains (places t.chain) c.at → HasKind c.cell
            joined out = record { kind = chain_kind d.frame.version; only = (t.puts.change.change.joined c in_after out).kind; later = joined_later d.frame.version }

        all_later : AreLater (f ∷ r)
        all_later c (zero, within, is) chain =
            let e : Primary ≡ Chain = sym file_now.primary ∙ ap (λ (x : PlacedCell). x.cell.head.kind) is ∙ chain in absurd (cc)
        all_later c (suc k, within, is) chain =
            let inside : Contains r c = (k, omega (arith, within), is) in
            let l = now_kind c inside in
            by_kind c.cell (all_in (λ (x : PlacedCell). IsMapCell x.cell) r file_now.others c inside) l.kind l.only l.later

        later_by : AreLater t.puts.change.change.changes.after
        later_by = subst AreLater (sym after_is) all_later

      given_later : AreLater t.puts.change.change.changes.after
      given_later = by_chains t.chain refl t.puts.change.change.changes.after refl t.puts.change.change.changes.first
        where
          by_chains : (cs : List PlacedCell) → t.chain ≡ cs → (after : List PlacedCell) → t.puts.change.change.changes.after ≡ after → SameFirst cs after → AreLater t.puts.change.change.changes.after
          by_chains [] chain_is after after_is same = absurd same
          by_chains (a ∷ xs) chain_is [] after_is same = absurd same
          by_chains (a ∷ xs) chain_is (f ∷ r) after_is like = later_by a xs chain_is f r after_is

    call_goes : (call : Call number d.frame.version tag old new) → MayCall d.table.made number d.frame.version tag old new call → GoesOn old new
    call_goes (refused t) may = record { after = []; cells = refused_cells old new t; later = λ c inside. absurd (omega (arith, inside.1)) }
    call_goes (given t) may = record { after = t.puts.change.change.changes.after; cells = given_cells number d.frame.version tag old new s.well t; later = given_later t }
    call_goes (moved t) may = absurd may
    call_goes (described value t) may = record { after = _; cells = set_cells number d.frame.version tag old new s.well _ t; later = set_later _ t }
    call_goes (put_in parent t) may = record { after = _; cells = set_cells number d.frame.version tag old new s.well _ t; later = set_later _ t }
    call_goes (indexed index t) may = absurd may
    call_goes (cut size lowered t) may = record { after = _; cells = set_cells number d.frame.version tag old new s.well _ t; later = set_later _ t }
    call_goes (dropped t) may = record { after = _; cells = dropped_cells number d.frame.version tag old new s.well t; later = dropped_later t }
    call_goes (made t) may =
        record { after = t.creates.first ∷ []; cells = made_cells number d.frame.version tag old new s.well (used number tag d now chains chains_now files files_now indexes below s) t; later = made_later t }

    goes : GoesOn old new
    goes = call_goes s.call s.may

    member_was : (vol : ℕ) → IsMember now.frame.anchor vol → IsMember d.frame.anchor vol
    member_was vol is = subst (λ (f : Frame). IsMember f.anchor vol) s.frame is

    laters : (at : CellAt) (cell : Cell) → IsOnTable now.pages (layout_of now) at cell → cell.head.kind ≡ Chain → is_chain_records cell.records ≡ true
    laters at cell on chain = ⊎_elim
        (λ was. sound.laters at cell (record { member = member_was at.vol on.member; table = was.1; stands = was.0 }) chain)
        (λ inside. goes.later (record { at = at; cell = cell }) inside chain)
        (cell_was old new goes.after (used number tag d now chains chains_now files files_now indexes below s) goes.cells
        (together_now number tag d now chains chains_now files files_now indexes below s).allocated.belong at cell on.stands on.table)

    -- ---- pages

    in_now : (home : Home) → IsWithin d.frame home → IsWithin now.frame home
    in_now home is = subst (λ (f : Frame). IsWithin f home) (sym s.frame) is

    taken : (home : Home) → MayTake d.space home → IsWithin now.frame home
    taken home can = in_now home (can_within d files indexes below.owned home can)

    tags_within : (n : ℕ) (home : Home) → has_home (now.tags n) home ≡ true → IsWithin now.frame home
    tags_within n home has = ⊎_elim own other (same_number n number)
      where
        own : n ≡ number → IsWithin now.frame home
        own same = ⊎_elim (λ was. in_now home (sound.within home (of_tags number) (λ e. cc) (λ e. cc) was)) (λ can. taken home can)
            (tags_back number d.frame.version tag old new s.well s.call d.table.made s.may home (subst (λ (m : ℕ). has_home (now.tags m) home ≡ true) same has))

        other : ¬ n ≡ number → IsWithin now.frame home
        other differ = in_now home (sound.within home (of_tags n) (λ e. cc) (λ e. cc) (ap (λ (ps : List TagPlace). has_home ps home) (sym (s.tags n differ)) ∙ has))

    within : (home : Home) (holder : Holder) → ¬ holder ≡ of_volume → ¬ holder ≡ of_log → Holds now files_now indexes holder home → IsWithin now.frame home
    within home of_volume no_volume no_log held = absurd (no_volume refl)
    within home of_log no_volume no_log held = absurd (no_log refl)
    within home of_table no_volume no_log held = in_now home (sound.within home of_table no_volume no_log (subst (λ (f : Frame). f.anchor.table ≡ Some home) s.frame held))
    within home of_cells no_volume no_log held = ⊎_elim
        (λ was. in_now home (sound.within home of_cells no_volume no_log (member_was home.vol held.0, was)))
        (λ can. taken home (held.0.first, can))
        (table_back number d.frame.version tag old new s.well s.call d.table.made s.may home held.0.first held.1)
    within home (of_tags n) no_volume no_log held = tags_within n home held
    within home (of_index at k) no_volume no_log held = in_now home (sound.within home (of_index at k) no_volume no_log held)
    within home (of_file at page) no_volume no_log held = ⊎_elim
        (λ was. in_now home (sound.within home (of_file at page) no_volume no_log was))
        (λ can. taken home can)
        ((placed number d.frame.version tag old new s.well s.call d.table.made s.may).back at page home held)

    good : (at : CellAt) (home : Home) → Contains (indexes at) home → apart at ⊎ IsSomeAnd (now.pages home) IsIndexPage
    good at home among =
        let k = in_get (indexes at) home among in
        good_by (apart at) (d.pages home) (now.pages home) (page_stays number tag d now chains chains_now files files_now indexes below s (of_index at k.0) home k.1 (λ e. cc) (λ e. cc)) (sound.good at home among)

    pub but_called : StandsSoundBut apart now files_now indexes
    but_called = record { within = within; laters = laters; good = good }

pub sound_called : (number : ℕ) (tag : Tag) (d now : DomainNow) (chains chains_now : Chains) (files files_now : Files) (indexes : IndexesAt) → StandsBelow d files indexes → StandsSound d files indexes
    → LeadsOn number tag d now chains chains_now files files_now → StandsSound now files_now indexes
sound_called number tag d now chains chains_now files files_now indexes below sound s =
    sound_none now files_now indexes (but_called number tag d now chains chains_now files files_now indexes NoFile below (sound_but d files indexes NoFile sound) s)
