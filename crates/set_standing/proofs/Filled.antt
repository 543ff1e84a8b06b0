-- The fileset that rows make is what the slot stands for.
use Rattle.std.proofs.Common.{◌≡◌, ◌∙◌, ℕ, Bool, true, false, cond, List, Option, Some, None, IsSome, IsSomeAnd, refl, sym, ap, subst, ⊎_elim}
use Rattle.std.specs.FinMap as map
use Rattle.std.specs.Option.{option_and_then, option_map}
use Rattle.std.specs.Ordering.{nat_cmp}
use Rattle.std.specs.Prelude.{unwrap_or}
use Rattle.standing_laws.specs.domain_base.declared.place.Home.{Home}
use Rattle.standing_laws.specs.domain_base.declared.place.Kind.{Kind}
use Rattle.standing_laws.specs.domain_base.declared.place.Tag.{Tag}
use Rattle.standing_laws.specs.page_store.Bitfiles.{Bitfile, Bitfiles}
use Rattle.standing_laws.specs.page_store.Pages.{Pages}
use Rattle.standing_laws.specs.metadata_cells.Chain.{PlacedCell}
use Rattle.standing_laws.specs.tag_dirs.declared.dir.TagPlace.{TagPlace}
use Rattle.standing_laws.proofs.OfTagDirs.Reading.{same_directory}
use Rattle.standing_laws.specs.fileset_files.Files.{AreFiles, attributes_of}
use Rattle.standing_laws.specs.fileset_files.Shown.{IsWhat, ShowsAt, ShowsFile}
use Rattle.standing_laws.specs.fileset_model.LooksLike.{IsShown}
use Rattle.standing_laws.specs.fileset_values.Orders.{Path, owner_cmp}
use Rattle.standing_laws.specs.fileset_model.declared.fileset.FilesetSlot.{FilesetSlot}
use Rattle.standing_laws.specs.fileset_model.declared.fileset.Limits.{Limits}
use Rattle.standing_laws.specs.fileset_model.declared.fileset.Role.{Role}
use Rattle.standing_laws.specs.fileset_model.declared.fileset.Role.TheVariants.{Original}
use Rattle.standing_laws.specs.fileset_model.declared.node.Node.{Node}
use Rattle.standing_laws.specs.fileset_model.declared.node.Node.TheVariants.{Directory, File}
use Rattle.standing_laws.specs.legal_histories.Valid.{IsValidAs, IsValidFileset}
use Rattle.standing_laws.proofs.OfLegalHistories.ValidLemmas.{from_some_and, to_some_and}
use Rattle.standing_laws.specs.fileset_table.declared.slot.FilesetEntry.{FilesetEntry}
use Rattle.standing_laws.specs.fileset_table.declared.slot.SlotItem.TheVariants as slot
use Rattle.standing_laws.specs.name_space.Changes.{IsOriginal as MakesOriginal}
use Rattle.standing_laws.specs.name_space.Names.{IsNodeOf, led_to, number_of}
use Rattle.standing_laws.proofs.OfNameSpace.Originals.{all_shown, is_in, number_at, one_tag, path_at}
use Rattle.standing_laws.specs.stored_set.Sets.{StandsAsSet}
use Rattle.standing_laws.proofs.OfReleaseList.Spread.{none_not, some_same}
use Rattle.standing_laws.specs.domain_layout.Filled.{IsFilled, IsRole}
use Rattle.standing_laws.specs.domain_layout.Seen.{SeenFile, seen_in}
use Rattle.standing_laws.specs.domain_layout.Shape.{FilesetShape, IsOriginal}
use Rattle.standing_laws.proofs.OfFilesetShapes.OriginalFiles.{kept}
use Rattle.standing_laws.specs.domain_standing.Domain.{DomainNow, item_in}
use Rattle.standing_laws.specs.domain_standing.Tables.{StandTables}
use Rattle.standing_laws.specs.Slots.{StandsSlot}
use Rattle.set_standing.specs.Around.{StaysAround}
use Rattle.set_standing.specs.Follow.{ComesFrom, IsEmptyFile, IsStill, Said, TagsFollow}
use Rattle.set_standing.specs.NamesNodes.{IsNewNode, NodesFollow, named_shape}

-- ---- a file that is seen is shown

pub record IsShownFile (o : Option Bitfile) (seen : SeenFile) : Type 0 where
  pub file : Bitfile
  pub there : o ≡ Some file
  pub what : IsWhat file seen.is

shown_file : (pages : Pages) (chain : Option (List PlacedCell)) (o : Option Bitfile) (seen : SeenFile) → ShowsAt pages chain o → option_and_then seen_in chain ≡ Some seen → IsShownFile o seen
shown_file pages None o seen shows is = absurd (none_not seen is)
shown_file pages (Some cs) None seen shows is =
    let k = kept cs seen is in
    absurd (none_not seen.is (sym shows ∙ ap (λ (b : Bool). cond b None (attributes_of cs)) k.live ∙ k.what))
shown_file pages (Some cs) (Some file) seen shows is =
    let k = kept cs seen is in
    let shown : ShowsFile pages cs file = subst (λ (b : Bool). IsSomeAnd (cond b None (Some cs)) (λ live. ShowsFile pages live file)) k.live shows in
    record { file = file; there = refl; what = subst (λ o. IsSomeAnd o (IsWhat file)) k.what shown.what }

-- ---- homes of the same bytes

same_bytes : (old new : Home → List ℕ) (o : Option Home) → ((home : Home) → o ≡ Some home → new home ≡ old home) → option_map old o ≡ option_map new o
same_bytes old new None same = refl
same_bytes old new (Some home) same = ap (λ (bytes : List ℕ). Some bytes) (sym (same home refl))

module _ {said : Said} (number : ℕ) (entry : FilesetEntry) (d now : DomainNow) (shape : FilesetShape) (fileset fileset_now : FilesetSlot) (shown : Bitfiles) (tables : StandTables d) (tables_now : StandTables now) (there : item_in d number ≡ Some (slot.Original entry))
    (stood : StandsSlot d number entry shape fileset) (stays : StaysAround said number d now) (set : StandsAsSet number (now.tags number) now.space now.cells now.pages shown) (makes : MakesOriginal shown fileset_now)
    (follow : NodesFollow fileset.tree fileset_now.tree)
  where
    abbrev new_shape : FilesetShape
    new_shape = named_shape set.chains shown shape.limits

    item_now : item_in now number ≡ Some (slot.Original entry)
    item_now = ap (λ (table : _). item_in (record now { table = table }) number) stays.table ∙ there

    original : IsOriginal now.pages number entry new_shape
    original = record {
      none = refl;
      chains = set.chains;
      has = record { places = now.tags number; directory = tables_now.laid.tags number (slot.Original entry) item_now; files = set.stands.together.files };
      files = λ tag. refl;
      shown = set.stands.shows;
      limits = stays.limits entry shape.limits there stood.is.limits;
    }

    -- ---- the fileset before

    role_was : fileset.role ≡ Original
    role_was = subst (λ o. IsRole o fileset.role) stood.is.none stood.filled.role

    valid_was : IsValidFileset fileset.tree
    valid_was = subst (λ (r : Role). IsValidAs r fileset) role_was stood.filled.valid

    files_were : AreFiles number (d.tags number) d.pages stood.is.chains
    files_were =
        let h = stood.is.has in
        subst (λ (places : List TagPlace). AreFiles number places d.pages stood.is.chains)
        (same_directory d.pages entry.first_tag h.places (d.tags number) h.directory (tables.laid.tags number (slot.Original entry) there)) h.files

    tags_follow : TagsFollow said number d now stood.is.chains set.chains
    tags_follow = stays.files.files stood.is.chains set.chains files_were set.stands.together.files

    comes : (tag : Tag) (seen : SeenFile) → option_and_then seen_in (set.chains tag) ≡ Some seen → ComesFrom d now (stood.is.chains tag) seen
    comes tag seen is = by_chain (set.chains tag) refl is
      where
        by_chain : (o : Option (List PlacedCell)) → set.chains tag ≡ o → option_and_then seen_in o ≡ Some seen → ComesFrom d now (stood.is.chains tag) seen
        by_chain None none is = absurd (none_not seen is)
        by_chain (Some cs) some is = (tags_follow tag).from cs seen some is

    -- a tag that had a file had a node of its number
    had_node : (tag : Tag) (cells : List PlacedCell) (was : SeenFile) → stood.is.chains tag ≡ Some cells → seen_in cells ≡ Some was → IsSome (map.get fileset.tree.nodes (number_of tag))
    had_node tag cells was some is =
        let old = shown_file d.pages (stood.is.chains tag) (shape.shown tag) was (stood.is.shown tag) (ap (option_and_then seen_in) some ∙ is) in
        let led = stood.filled.names.live role_was tag old.file old.there in
        valid_was.led_to led.0 (number_of tag) (number_at shape.shown fileset stood.filled.names role_was led.0 tag old.file.kind led.1)

    -- ---- what a path leads to

    module _ (tag : Tag) (seen : SeenFile) (is : option_and_then seen_in (set.chains tag) ≡ Some seen) (file : Bitfile) (shows : shown tag ≡ Some file) (what : IsWhat file seen.is) where
      -- a node that was there is filled with what was there
      module _ (node : Node) (was_node : map.get fileset.tree.nodes (number_of tag) ≡ Some node) where
        pub record WasFilled : Type 0 where
          pub was : SeenFile
          pub still : IsStill d now was seen
          pub filled : IsFilled d.contents was node

        led_number : (path : Path) (o : Option (Tag × Kind)) → led_to shape.shown path ≡ o → option_map (λ (led : Tag × Kind). number_of led.0) o ≡ Some (number_of tag) → WasFilled
        led_number path None led same = absurd (none_not (number_of tag) same)
        led_number path (Some other) led same =
            let names = stood.filled.names in
            let had = is_in shape.shown fileset names role_was path other.0 other.1 led in
            let one : other.0 ≡ tag = one_tag other.0 tag (names.seq other.0 had.file had.there) (makes.names.seq tag file shows) (some_same (number_of other.0) (number_of tag) same) in
            let at : led_to shape.shown path ≡ Some (tag, other.1) = led ∙ ap (λ (t : Tag). Some (t, other.1)) one in
            by_chain other.1 at had.file (ap shape.shown (sym one) ∙ had.there) (stood.is.chains tag) refl
          where
            by_chain : (of : Kind) → led_to shape.shown path ≡ Some (tag, of) → (had : Bitfile) → shape.shown tag ≡ Some had → (o : Option (List PlacedCell)) → stood.is.chains tag ≡ o → WasFilled
            by_chain of led had there None none = absurd (subst (λ o. ShowsAt d.pages o (Some had)) none (subst (ShowsAt d.pages (stood.is.chains tag)) there (stood.is.shown tag)))
            by_chain of led had there (Some cs) some =
                let from = from_some_and (λ was. IsStill d now was seen) (seen_in cs) (subst (λ o. ComesFrom d now o seen) some (comes tag seen is)) in
                let filled = stood.filled.files path tag of from.0 (all_shown shape.shown fileset stood.filled.names role_was path) led (stood.is.files tag ∙ ap (option_and_then seen_in) some ∙ from.1) in
                record { was = from.0; still = from.2; filled = subst (λ o. IsSomeAnd o (IsFilled d.contents from.0)) was_node filled }

        was_filled : WasFilled
        was_filled =
            let named = valid_was.named (number_of tag) node was_node in
            led_number named.0 (led_to shape.shown named.0) refl (sym (path_at shape.shown fileset stood.filled.names role_was named.0) ∙ named.1)

      -- a file is what it was
      file_still : (uid gid size : ℕ) (logged : Bool) (pages : map.FinMap nat_cmp (List ℕ)) → map.get fileset.tree.nodes (number_of tag) ≡ Some (File uid gid size logged pages) → IsFilled now.contents seen (File uid gid size logged pages)
      file_still uid gid size logged pages was_node =
          let w = was_filled (File uid gid size logged pages) was_node in
          let f = w.filled in
          let same = w.still.file f.0 in (
            w.still.kind ∙ f.0,
            w.still.uid ∙ f.1,
            w.still.gid ∙ f.2,
            same.size ∙ f.3,
            same.logged ∙ f.4,
            λ page. f.5 page ∙ same_bytes d.contents now.contents (w.was.homes page) (same.bytes page) ∙ ap (option_map now.contents) (sym (same.homes page)),
          )

      -- one that was not there is empty
      was_none : map.get fileset.tree.nodes (number_of tag) ≡ None → ComesFrom d now None seen
      was_none none = by_chain (stood.is.chains tag) refl
        where
          by_chain : (o : Option (List PlacedCell)) → stood.is.chains tag ≡ o → ComesFrom d now None seen
          by_chain None nothing = subst (λ o. ComesFrom d now o seen) nothing (comes tag seen is)
          by_chain (Some cs) some =
              let from = from_some_and (λ was. IsStill d now was seen) (seen_in cs) (subst (λ o. ComesFrom d now o seen) some (comes tag seen is)) in
              let wrong : false ≡ true = subst IsSome none (had_node tag cs from.0 some from.1) in absurd (cc)

      file_new : (uid gid size : ℕ) (logged : Bool) (pages : map.FinMap nat_cmp (List ℕ)) → map.get fileset.tree.nodes (number_of tag) ≡ None → IsNewNode (File uid gid size logged pages) → IsNodeOf file (File uid gid size logged pages) → IsFilled now.contents seen (File uid gid size logged pages)
      file_new uid gid size logged pages none new node =
          let empty : IsEmptyFile seen = was_none none (sym what.kind ∙ node.0) in (
            sym what.kind ∙ node.0,
            sym what.uid ∙ node.1,
            sym what.gid ∙ node.2,
            empty.size ∙ sym new.0,
            empty.logged ∙ sym new.1,
            λ page. ap (λ (ps : map.FinMap nat_cmp (List ℕ)). map.get ps page) new.2 ∙ map.get-empty nat_cmp page ∙ ap (option_map now.contents) (sym (empty.homes page)),
          )

      node_filled : (node : Node) → map.get fileset_now.tree.nodes (number_of tag) ≡ Some node → IsNodeOf file node → IsFilled now.contents seen node
      node_filled (Directory uid gid) is_node node = (sym what.kind ∙ node.0, sym what.uid ∙ node.1, sym what.gid ∙ node.2)
      node_filled (File uid gid size logged pages) is_node node = ⊎_elim
          (λ was. file_still uid gid size logged pages was)
          (λ new. file_new uid gid size logged pages new.0 new.1 node)
          (follow.nodes (number_of tag) (File uid gid size logged pages) is_node)

    files_filled : (path : Path) (tag : Tag) (of : Kind) (seen : SeenFile) → IsShown fileset_now path → led_to shown path ≡ Some (tag, of) → option_and_then seen_in (set.chains tag) ≡ Some seen → IsSomeAnd (map.get fileset_now.tree.nodes (number_of tag)) (IsFilled now.contents seen)
    files_filled path tag of seen at led is =
        let it = shown_file now.pages (set.chains tag) (shown tag) seen (set.stands.shows tag) is in
        let node = (makes.names.shown path tag of at led).node it.file it.there in
        let found = from_some_and (IsNodeOf it.file) (map.get fileset_now.tree.nodes (number_of tag)) node.1 in
        to_some_and (IsFilled now.contents seen) (map.get fileset_now.tree.nodes (number_of tag)) found.0 found.1
        (node_filled tag seen is it.file it.there it.what found.0 found.1 found.2)

    pub new_stands : StandsSlot now number entry new_shape fileset_now
    new_stands = record {
      is = original;
      filled = record {
        role = makes.role;
        valid = subst (λ (r : Role). IsValidAs r fileset_now) (sym makes.role) makes.valid;
        names = makes.names;
        files = files_filled;
        limits = λ who. ap (λ (l : map.FinMap owner_cmp Limits). unwrap_or (map.get l who) (record { files = 0; blocks = 0 })) follow.limits ∙ stood.filled.limits who;
      };
      set = set;
    }
