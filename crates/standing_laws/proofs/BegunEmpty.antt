-- A fileset that begins is the empty one, and the domain stands for it beside the others.
use Rattle.std.proofs.Common.{◌≡◌, ◌∙◌, ◌≤◌, ◌==◌, ℕ, Bool, false, cond, List, [], Option, Some, None, IfSome, IsSomeAnd, Contains, Ok, slice_get, refl, sym, ap, subst, arith}
use Rattle.std.proofs.lemmas.Bool.{eqb-true, false_from_ne_true}
use Rattle.std.specs.Cmp.{nat_cmp_total}
use Rattle.std.specs.FinMap as map
use Rattle.std.specs.Option.{option_and_then}
use Rattle.std.specs.Prelude.{unwrap_or}
use Rattle.domain_standing.specs.domain_base.declared.place.CellAt.{CellAt}
use Rattle.domain_standing.specs.domain_base.declared.place.Home.{Home}
use Rattle.domain_standing.specs.domain_base.declared.place.Kind.{Kind}
use Rattle.domain_standing.specs.domain_base.declared.place.Kind.TheVariants as kind
use Rattle.domain_standing.specs.domain_base.declared.place.Tag.{Tag}
use Rattle.domain_standing.specs.page_store.Bitfiles.{Bitfiles, new_file as shown_new, same_tag, with_file}
use Rattle.domain_standing.specs.metadata_cells.Chain.{PlacedCell}
use Rattle.domain_standing.specs.extent_maps.declared.run.PagePlace.TheVariants.{At}
use Rattle.domain_standing.specs.fileset_files.Creation.{root_tag}
use Rattle.domain_standing.specs.fileset_files.Files.{Chains, attributes_of}
use Rattle.domain_standing.specs.fileset_files.Shown.{IsWhat, ShowsAt, ShowsFile}
use Rattle.domain_standing.specs.fileset_model.Filesets.{FilesetMap}
use Rattle.domain_standing.specs.fileset_model.LooksLike.{IsShown}
use Rattle.domain_standing.specs.fileset_values.Orders.{Path, owner_cmp}
use Rattle.domain_standing.specs.fileset_model.Usage.{limits_of}
use Rattle.domain_standing.specs.fileset_values.declared.command.Owner.{Owner}
use Rattle.domain_standing.specs.fileset_values.declared.command.Owner.TheVariants as owner
use Rattle.domain_standing.specs.fileset_model.declared.fileset.FilesetSlot.{FilesetSlot}
use Rattle.domain_standing.specs.fileset_model.declared.fileset.Limits.{Limits}
use Rattle.domain_standing.specs.fileset_model.declared.node.Node.TheVariants.{Directory as DirectoryNode}
use Rattle.domain_standing.proofs.OfFilesetValues.MapLemmas.{get-insert_same}
use Rattle.domain_standing.proofs.OfLegalHistories.ValidLemmas.{to_some_and}
use Rattle.domain_standing.specs.fileset_table.Table.{Table, entry_of}
use Rattle.domain_standing.specs.fileset_table.declared.slot.FilesetEntry.{FilesetEntry}
use Rattle.domain_standing.specs.fileset_table.declared.slot.SlotItem.{SlotItem}
use Rattle.domain_standing.specs.fileset_table.declared.slot.SlotItem.TheVariants as slot
use Rattle.domain_standing.proofs.OfFilesetTable.Leaving.{get_other}
use Rattle.domain_standing.specs.name_space.Laws.{IsRootAlone}
use Rattle.domain_standing.specs.name_space.Names.{led_to, number_of}
use Rattle.domain_standing.proofs.OfNameSpace.CreatedNames.{by_tag}
use Rattle.domain_standing.proofs.OfNameSpace.Roots.{root_original_lem}
use Rattle.domain_standing.specs.stored_set.Sets.{StandsAsSet}
use Rattle.domain_standing.proofs.OfStoredSet.Making.{made_shown}
use Rattle.domain_standing.specs.release_list.Standing.{Files, place_in}
use Rattle.domain_standing.proofs.OfReleaseList.Spread.{none_not, some_same}
use Rattle.domain_standing.specs.release_steps.Calls.{Makes, StandsWell}
use Rattle.domain_standing.specs.domain_layout.Filled.{IsFilled}
use Rattle.domain_standing.specs.domain_layout.Seen.{SeenFile, seen_in}
use Rattle.domain_standing.specs.domain_layout.Shape.{AreQuotas, FilesetShape, IsOriginal, limits_in}
use Rattle.domain_standing.proofs.OfFilesetShapes.OriginalFiles.{kept}
use Rattle.domain_standing.specs.Chains.{IndexesAt}
use Rattle.domain_standing.specs.Domain.{DomainNow, item_in}
use Rattle.domain_standing.specs.Slots.{StandSlots}
use Rattle.standing_laws.specs.Leads.{LeadsOn, StandsBelow, fileset_now}
use Rattle.standing_laws.specs.NewFileset.{IsPlainRoot, JoinsEmpty, SetsNoLimit, empty_slot, no_chains}
use Rattle.standing_laws.specs.Slots.{StandsSlot}
use Rattle.standing_laws.specs.SlotsStay.{PutsFileset}
use Rattle.standing_laws.proofs.FilesetBegins.{empty_begins, now_item, others_begun}
use Rattle.standing_laws.proofs.FilesetPut.{fileset_put}
use Rattle.standing_laws.proofs.OtherSlots.{bytes_same, slot_stays}
use Rattle.standing_laws.proofs.RootMade.{root_leads, root_made}

in_none : {P : Type 0} (home : Home) → Contains [] home → P
in_none home inside = absurd (omega (arith, inside.1))

abbrev no_limits : Limits
no_limits = record { files = 0; blocks = 0 }

-- ---- a root alone

module _ (now : DomainNow) (number : ℕ) (entry : FilesetEntry) (files : Files) (indexes : IndexesAt) (below : StandsBelow now files indexes) (there : item_in now number ≡ Some (slot.Original entry)) (no_quota : entry.quota ≡ None) (none : SetsNoLimit entry)
    (shown : Bitfiles) (set : StandsAsSet number (now.tags number) now.space now.cells now.pages shown) (alone : IsRootAlone shown)
  where
    abbrev pub root_shape : FilesetShape
    root_shape = record { original = None; files = λ tag. option_and_then seen_in (set.chains tag); shown = shown; limits = limits_in entry [] }

    original : IsOriginal now.pages number entry root_shape
    original = record {
      none = refl;
      chains = set.chains;
      has = record { places = now.tags number; directory = below.tables.laid.tags number (slot.Original entry) there; files = set.stands.together.files };
      files = λ tag. refl;
      shown = set.stands.shows;
      limits = record { records = []; quotas = subst (λ o. AreQuotas now.pages o []) (sym no_quota) refl; each = λ who. refl };
    }

    -- no other tag has a file
    none_else : (tag : Tag) (seen : SeenFile) → same_tag tag root_tag ≡ false → option_and_then seen_in (set.chains tag) ≡ Some seen → ⊥
    none_else tag seen other is = by_chain (set.chains tag) (subst (ShowsAt now.pages (set.chains tag)) (alone tag ∙ ap (λ (b : Bool). cond b (Some (shown_new kind.Directory 0 0)) None) other) (set.stands.shows tag)) is
      where
        by_chain : (o : Option (List PlacedCell)) → ShowsAt now.pages o None → option_and_then seen_in o ≡ Some seen → ⊥
        by_chain None shows is = none_not seen is
        by_chain (Some cs) shows is = let k = kept cs seen is in none_not seen.is (sym shows ∙ ap (λ (b : Bool). cond b None (attributes_of cs)) k.live ∙ k.what)

    -- the root's is this directory
    root_what : (seen : SeenFile) → option_and_then seen_in (set.chains root_tag) ≡ Some seen → IsWhat (shown_new kind.Directory 0 0) seen.is
    root_what seen is = by_chain (set.chains root_tag) (subst (ShowsAt now.pages (set.chains root_tag)) (alone root_tag) (set.stands.shows root_tag)) is
      where
        by_chain : (o : Option (List PlacedCell)) → ShowsAt now.pages o (Some (shown_new kind.Directory 0 0)) → option_and_then seen_in o ≡ Some seen → IsWhat (shown_new kind.Directory 0 0) seen.is
        by_chain None shows is = absurd shows
        by_chain (Some cs) shows is =
            let k = kept cs seen is in
            let file : ShowsFile now.pages cs (shown_new kind.Directory 0 0) = subst (λ (b : Bool). IsSomeAnd (cond b None (Some cs)) (λ live. ShowsFile now.pages live (shown_new kind.Directory 0 0))) k.live shows in
            subst (λ o. IsSomeAnd o (IsWhat (shown_new kind.Directory 0 0))) k.what file.what

    filled : (path : Path) (tag : Tag) (of : Kind) (seen : SeenFile) → IsShown empty_slot path → led_to shown path ≡ Some (tag, of) → option_and_then seen_in (set.chains tag) ≡ Some seen → IsSomeAnd (map.get empty_slot.tree.nodes (number_of tag)) (IsFilled now.contents seen)
    filled path tag of seen at led is = by_tag (IsSomeAnd (map.get empty_slot.tree.nodes (number_of tag)) (IsFilled now.contents seen)) tag root_tag
        (λ same.
        let w = root_what seen (ap (λ (t : Tag). option_and_then seen_in (set.chains t)) (sym same) ∙ is) in
        subst (λ (t : Tag). IsSomeAnd (map.get empty_slot.tree.nodes (number_of t)) (IsFilled now.contents seen)) (sym same)
        (to_some_and (IsFilled now.contents seen) (map.get empty_slot.tree.nodes (number_of root_tag)) (DirectoryNode 0 0)
        (get-insert_same nat_cmp_total map.nat_cmp-IsAntisymmetric map.empty (number_of root_tag) (DirectoryNode 0 0)) (sym w.kind, sym w.uid, sym w.gid)))
        (λ other. absurd (none_else tag seen other is))

    limits : (who : Owner) → limits_of empty_slot.tree who ≡ limits_in entry [] who
    limits who = ap (λ (o : Option Limits). unwrap_or o no_limits) (map.get-empty owner_cmp who) ∙ by_owner who
      where
        by_owner : (who : Owner) → no_limits ≡ limits_in entry [] who
        by_owner (owner.User uid) = refl
        by_owner (owner.Group gid) = refl
        by_owner owner.Fileset = λ i. record { files = sym none.0 i; blocks = sym none.1 i }

    pub root_stands : StandsSlot now number entry root_shape empty_slot
    root_stands =
        let is = root_original_lem shown alone in
        record {
          is = original;
          filled = record { role = refl; valid = is.valid; names = is.names; files = filled; limits = limits };
          set = set;
        }

-- ---- the fileset that begins

module _ (number : ℕ) (entry : FilesetEntry) (d joined now : DomainNow) (chains_now : Chains) (files files_now : Files) (indexes : IndexesAt) (below : StandsBelow d files indexes) (joins : JoinsEmpty number entry d joined)
    (makes : Makes number joined.frame.version root_tag (fileset_now joined number no_chains files) (fileset_now now number chains_now files_now)) (early : makes.what.birth ≤ joined.table.made) (frame : now.frame ≡ joined.frame) (table : now.table ≡ joined.table)
    (tags : (other : ℕ) → ¬ other ≡ number → now.tags other ≡ joined.tags other) (plain : IsPlainRoot makes.what) (none : SetsNoLimit entry)
  where
    after : StandsBelow now files_now indexes
    after = root_made number entry d joined now chains_now files files_now indexes below joins makes early frame table tags

    begins : StandsBelow joined files indexes × StandsWell number (fileset_now joined number no_chains files)
    begins = empty_begins number entry d joined files indexes below joins

    there : item_in now number ≡ Some (slot.Original entry)
    there = ap (λ (t : Table). slice_get t.slots number) table ∙ now_item number entry d joined files indexes below joins

    abbrev no_files : Bitfiles
    no_files = λ tag. None

    abbrev empty_set : StandsAsSet number (joined.tags number) joined.space joined.cells joined.pages no_files
    empty_set = record {
      chains = no_chains;
      indexes = λ tag. [];
      stands = record {
        together = begins.1.together;
        shows = λ tag. refl;
        indexed = λ tag. tt;
        stand = λ tag home inside. in_none home inside;
        apart = λ s t page home inside. in_none home inside;
        once = λ s t home inside also. in_none home inside;
      };
      whole = λ tag. tt;
      bare = λ tag. tt;
      low = begins.1.among.low;
    }

    abbrev root_file : Bitfiles
    root_file = with_file root_tag (shown_new makes.what.kind makes.what.uid makes.what.gid) no_files

    root_set : StandsAsSet number (now.tags number) now.space now.cells now.pages root_file
    root_set = made_shown number makes.prefer (joined.tags number) (now.tags number) joined.space now.space joined.cells now.cells joined.pages now.pages no_files empty_set joined.frame.version makes.what (Ok root_tag) makes.creates makes.taken makes.elsewhere number refl

    alone : IsRootAlone root_file
    alone tag = λ i. cond (same_tag tag root_tag) (Some (shown_new (plain.0 i) (plain.1 i) (plain.2 i))) None

    abbrev shape_now : FilesetShape
    shape_now = root_shape now number entry files_now indexes after there joins.no_quota none root_file root_set alone

    own : StandsSlot now number entry shape_now empty_slot
    own = root_stands now number entry files_now indexes after there joins.no_quota none root_file root_set alone

    pub begun_stands : (shape : FilesetShape) × StandsSlot now number entry shape empty_slot
    begun_stands = (shape_now, own)

    -- ---- beside the others

    item_same : (other : ℕ) → ¬ other ≡ number → item_in joined other ≡ item_in d other
    item_same other differ = ap (λ (t : Table). slice_get t.slots other) joins.table ∙ get_other d.table.slots number other (slot.Original entry) (false_from_ne_true (other == number) (λ same. differ (eqb-true other number same)))

    puts : PutsFileset number entry d now
    puts = record {
      has = there;
      had = λ item at. subst (λ (x : SlotItem). IfSome (entry_of x) (λ (was : FilesetEntry). was.name ≡ entry.name)) (some_same slot.Free item (sym joins.free_slot ∙ at)) tt;
      others = λ other differ. ap (λ (t : Table). slice_get t.slots other) table ∙ item_same other differ;
    }

    module _ (bytes : (home : Home) → joined.pages home ≡ d.pages home → joined.contents home ≡ d.contents home) (stay : (at : CellAt) (page : ℕ) (home : Home) → place_in files at page ≡ At home → joined.contents home ≡ now.contents home) where
      leads : LeadsOn number root_tag joined now no_chains chains_now files files_now
      leads = root_leads number entry d joined now chains_now files files_now indexes below joins makes early frame table tags

      other_stays : (other : ℕ) (its : FilesetEntry) (shape : FilesetShape) (fileset : FilesetSlot) → ¬ other ≡ number → item_in d other ≡ Some (slot.Original its) → StandsSlot d other its shape fileset → StandsSlot now other its shape fileset
      other_stays other its shape fileset differ at stood =
          let first : StandsSlot joined other its shape fileset = others_begun number entry d joined files indexes below joins bytes other differ its shape fileset at stood in
          let also : item_in joined other ≡ Some (slot.Original its) = item_same other differ ∙ at in
          slot_stays number root_tag joined now no_chains chains_now files files_now indexes begins.0 leads other its shape fileset differ also first
          (bytes_same number root_tag joined now no_chains chains_now files files_now indexes begins.0 leads other its shape fileset differ also first (λ a page home not_first is. stay a page home is))

      pub all_stand : (all : FilesetMap) → StandSlots d all → StandSlots now (map.insert all entry.name empty_slot)
      all_stand all slots = fileset_put number entry d now files_now indexes all after puts slots other_stays shape_now empty_slot own
