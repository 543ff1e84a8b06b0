-- All belongs together again where one tag's file has one page at another home.
use Rattle.std.proofs.Common.{◌≡◌, ◌∙◌, ℕ, ◌≤◌, Bool, true, false, cond, nat_eq, List, Option, Some, None, IfSome, Contains, refl, sym, ap, subst, ⊎_elim, ◌⊎◌, inl, inr}
use Rattle.std.proofs.lemmas.Bool.{cases_Bool, eqb-true, false_from_ne_true}
use Rattle.std.specs.Option.{option_map_or}
use Rattle.file_chains.specs.domain_base.declared.place.CellAt.{CellAt}
use Rattle.file_chains.specs.domain_base.declared.place.Home.{Home}
use Rattle.file_chains.specs.domain_base.declared.place.Tag.{Tag}
use Rattle.file_chains.specs.domain_base.declared.version.Version.{Version}
use Rattle.file_chains.specs.page_store.Pages.{Pages}
use Rattle.file_chains.specs.page_store.Bitfiles.{same_tag}
use Rattle.file_chains.specs.page_store.declared.fault.StoreFault.{StoreFault}
use Rattle.file_chains.specs.page_store.declared.fault.StoreFault.TheVariants.{NoPage, OutOfMemory}
use Rattle.file_chains.specs.metadata_cells.Chain.{PlacedCell}
use Rattle.tag_dirs.specs.declared.dir.TagPlace.{TagPlace}
use Rattle.tag_dirs.specs.Directory.{has_home}
use Rattle.file_chains.specs.extent_maps.declared.run.PagePlace.{PagePlace}
use Rattle.file_chains.specs.extent_maps.declared.run.PagePlace.TheVariants.{Absent, At, Hole}
use Rattle.file_chains.specs.extent_maps.Runs.{with_place}
use Rattle.file_chains.specs.free_cells.Cells.{Cells, table_of}
use Rattle.file_chains.specs.free_space.VolumeSpace.{with_page}
use Rattle.file_chains.specs.free_space.Spaces.{Spaces, change_volume, missed}
use Rattle.file_chains.specs.Allocated.{AreAllocated}
use Rattle.file_chains.specs.FileChanges.{AreOnTables, LeavesOtherCells, SameFirst}
use Rattle.file_chains.specs.Files.{IsFile, places_of}
use Rattle.file_chains.specs.MapChanges.{ChangesOnTables, LeavesOffTables}
use Rattle.file_chains.proofs.Allocated.{allocated_missed}
use Rattle.file_chains.proofs.Spaces.{not_held}
use Rattle.fileset_files.specs.Changes.{with_chain}
use Rattle.fileset_files.specs.Files.{Chains, place_at}
use Rattle.fileset_files.specs.Pages.{ChangesFile, GetsNone, TakesHome}
use Rattle.fileset_files.specs.Together.{AreTogether, IsFilePage, IsHeldApart}
use Rattle.fileset_files.proofs.Grown.{apart_grows, apart_now, apart_taken, on_grown, tables_grow}
use Rattle.fileset_files.proofs.OneChain.{JoinedWereFree, chain_other, files_after, tag_after}
use Rattle.fileset_files.proofs.OneFile.{tags_same}

the_home : Home → PagePlace → Home
the_home other Absent = other
the_home other (At home) = home
the_home other Hole = other

pub one_home : (a b : Home) → At a ≡ At b → a ≡ b
unfolding the_home
one_home a b same = ap (the_home a) same

module _ (old new : Pages) (fileset : ℕ) (places : List TagPlace) (tag : Tag) (chains : Chains) (space space_now : Spaces) (cells cells_now : Cells) (chain after : List PlacedCell) (start : CellAt)
    (are : AreTogether fileset places space cells old chains) (is : chains tag ≡ Some chain) (grow : (h : Home) → IsHeldApart space cells h → IsHeldApart space_now cells_now h)
    (tables : (vol p : ℕ) → Contains (table_of cells vol) p → Contains (table_of cells_now vol) p) (elsewhere : LeavesOffTables cells_now old new) (others : LeavesOtherCells cells chain old new)
    (is_file : IsFile new start after) (first : SameFirst chain after) (joined : JoinedWereFree cells old chain after) (on_now : AreOnTables cells_now after) (allocated : AreAllocated space_now cells_now new)
    (page : ℕ) (home : Home) (at : (p : ℕ) → places_of after p ≡ with_place page (At home) (places_of chain) p) (file_page : IsFilePage space_now cells_now places home) (nowhere : (t : Tag) (p : ℕ) → ¬ place_at chains t p ≡ At home) where
  abbrev now : Chains
  now = with_chain tag (λ _. after) chains

  -- where a page stands now
  place_now : (t : Tag) (p : ℕ) (h : Home) → place_at now t p ≡ At h → ((t ≡ tag) × (p ≡ page) × (h ≡ home)) ⊎ (place_at chains t p ≡ At h)
  place_now t p h there = ⊎_elim
      (λ same.
      let said : cond (nat_eq p page) (At home) (places_of chain p) ≡ At h
      = sym (at p) ∙ sym (ap (λ o. option_map_or (λ cs. places_of cs p) o Absent) (tag_after tag after chains chain is t same)) ∙ there in
      by_page same (nat_eq p page) refl said)
      (λ other. inr (sym (ap (λ o. option_map_or (λ cs. places_of cs p) o Absent) (chain_other tag (λ _. after) chains t other)) ∙ there))
      (cases_Bool (same_tag t tag))
    where
      by_page : same_tag t tag ≡ true → (b : Bool) → nat_eq p page ≡ b → cond b (At home) (places_of chain p) ≡ At h → ((t ≡ tag) × (p ≡ page) × (h ≡ home)) ⊎ (place_at chains t p ≡ At h)
      by_page same true this said = inl (tags_same t tag same, eqb-true p page this, sym (one_home home h said))
      by_page same false other said =
          inr (ap (λ (u : Tag). place_at chains u p) (tags_same t tag same) ∙ ap (λ o. option_map_or (λ cs. places_of cs p) o Absent) is ∙ said)

  file_pages_now : (t : Tag) (p : ℕ) (h : Home) → place_at now t p ≡ At h → IsFilePage space_now cells_now places h
  file_pages_now t p h there = ⊎_elim
      (λ new_one. subst (IsFilePage space_now cells_now places) (sym new_one.2) file_page)
      (λ was. let f = are.file_pages t p h was in record { apart = grow h f.apart; no_tags = f.no_tags })
      (place_now t p h there)

  once_now : (s t : Tag) (p q : ℕ) (h : Home) → place_at now s p ≡ At h → place_at now t q ≡ At h → (s ≡ t) × (p ≡ q)
  once_now s t p q h a b = ⊎_elim
      (λ x. ⊎_elim (λ y. (x.0 ∙ sym y.0, x.1 ∙ sym y.1)) (λ was. absurd (nowhere t q (was ∙ ap At x.2))) (place_now t q h b))
      (λ was. ⊎_elim (λ y. absurd (nowhere s p (was ∙ ap At y.2))) (λ both. are.once s t p q h was both) (place_now t q h b))
      (place_now s p h a)

  on_tables_now : (t : Tag) → IfSome (now t) (AreOnTables cells_now)
  on_tables_now t = ⊎_elim
      (λ same. subst (λ o. IfSome o (AreOnTables cells_now)) (sym (tag_after tag after chains chain is t same)) on_now)
      (λ other. subst (λ o. IfSome o (AreOnTables cells_now)) (sym (chain_other tag (λ _. after) chains t other)) (by_chain (chains t) (are.on_tables t)))
      (cases_Bool (same_tag t tag))
    where
      by_chain : (o : Option (List PlacedCell)) → IfSome o (AreOnTables cells) → IfSome o (AreOnTables cells_now)
      by_chain None on = tt
      by_chain (Some cs) on = on_grown cells cells_now tables cs on

  pub together_after : AreTogether fileset places space_now cells_now new (with_chain tag (λ _. after) chains)
  together_after = record {
    files = files_after old new fileset places tag chains cells chain after start are.files is are.on_tables (λ h has. elsewhere h (grow h (are.tag_pages h has)).off_table) others is_file first joined;
    allocated = allocated;
    on_tables = on_tables_now;
    tag_pages = λ h has. grow h (are.tag_pages h has);
    file_pages = file_pages_now;
    once = once_now;
  }

-- ---- a page is given

pub gives : (old new : Pages) (fileset : ℕ) (places : List TagPlace) (tag : Tag) (chains : Chains) (space space_now : Spaces) (cells cells_now : Cells) (chain : List PlacedCell) (start : CellAt) (page prefer : ℕ) (home : Home) (version : Version) → 1 ≤ home.vol
    → AreTogether fileset places space cells old chains → chains tag ≡ Some chain → ChangesOnTables start page (At home) chain version cells cells_now old new → TakesHome prefer page home chain space space_now cells cells_now old
    → LeavesOtherCells cells chain old new → LeavesOffTables cells_now old new → AreAllocated space_now cells_now new → ChangesFile fileset places tag page (At home) version chains space_now cells cells_now old new chain
gives old new fileset places tag chains space space_now cells cells_now chain start page prefer home version low are is change takes others elsewhere allocated =
    let taken = change_volume (with_page home.page) space home.vol in
    let grow = apart_grows page (At home) chain prefer taken space_now cells cells_now old takes.taken in
    record {
      start = start;
      change = change;
      together = together_after old new fileset places tag chains space space_now cells cells_now chain change.changes.after start are is (λ h held. grow h (apart_taken space cells home h held))
          (tables_grow page (At home) chain prefer taken space_now cells cells_now old takes.taken) elsewhere others change.changes.is_file change.changes.first (λ c inside apart. (change.joined c inside apart).was_free) change.on_tables allocated page home change.changes.at
          (record {
            apart = grow home (apart_now space cells old home low are.allocated takes.free);
            no_tags = false_from_ne_true (has_home places home) (λ has. not_held space home.vol home.page takes.free (are.tag_pages home has).held);
          })
          (λ t p there. not_held space home.vol home.page takes.free (are.file_pages t p home there).apart.held);
    }

-- ---- nothing is given

pub together_missed : (pages : Pages) (fileset : ℕ) (places : List TagPlace) (chains : Chains) (space : Spaces) (cells : Cells) → AreTogether fileset places space cells pages chains → AreTogether fileset places (missed space) cells pages chains
together_missed pages fileset places chains space cells are = record {
  files = are.files;
  allocated = allocated_missed space cells pages are.allocated;
  on_tables = are.on_tables;
  tag_pages = λ h has. missed_apart h (are.tag_pages h has);
  file_pages = λ t p h there. let f = are.file_pages t p h there in record { apart = missed_apart h f.apart; no_tags = f.no_tags };
  once = are.once;
}
  where
    missed_apart : (h : Home) → IsHeldApart space cells h → IsHeldApart (missed space) cells h
    missed_apart h is = record { held = is.held; off_table = is.off_table }

pub together_kept : (pages pages_now : Pages) (fileset : ℕ) (places : List TagPlace) (chains : Chains) (chain : List PlacedCell) (page : ℕ) (space space_now : Spaces) (cells cells_now : Cells) (fault : StoreFault) → pages_now ≡ pages → cells_now ≡ cells
    → GetsNone page chain space space_now cells fault → AreTogether fileset places space cells pages chains → AreTogether fileset places space_now cells_now pages_now chains
together_kept pages pages_now fileset places chains chain page space space_now cells cells_now NoPage pages_is cells_is none are =
    subst (λ p. AreTogether fileset places space_now cells_now p chains) (sym pages_is)
    (subst (λ c. AreTogether fileset places space_now c pages chains) (sym cells_is) (subst (λ s. AreTogether fileset places s cells pages chains) (sym none.1) (together_missed pages fileset places chains space cells are)))
together_kept pages pages_now fileset places chains chain page space space_now cells cells_now OutOfMemory pages_is cells_is none are =
    subst (λ p. AreTogether fileset places space_now cells_now p chains) (sym pages_is)
    (subst (λ c. AreTogether fileset places space_now c pages chains) (sym cells_is) (subst (λ s. AreTogether fileset places s cells pages chains) (sym none) are))
