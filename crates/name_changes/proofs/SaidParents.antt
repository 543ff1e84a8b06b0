-- Directories of a fileset of new names say those in which they stand.
use Rattle.std.proofs.Common.{◌≡◌, ◌∙◌, ◌<◌, ◌^◌, ◌++◌, ℕ, true, List, [], ◌∷◌, Option, Some, None, IsSomeAnd, slice_get, refl, inl, inr, sym, ap, subst, ⊎_elim}
use Rattle.std.specs.FinMap.{get}
use Rattle.std.specs.Option.{option_and_then, option_map}
use Rattle.fileset_lending.specs.domain_base.declared.place.Home.{Home}
use Rattle.fileset_lending.specs.domain_base.declared.place.Kind.{Kind}
use Rattle.fileset_lending.specs.domain_base.declared.place.Kind.TheVariants.{Directory}
use Rattle.fileset_lending.specs.domain_base.declared.place.Tag.{Tag}
use Rattle.fileset_lending.specs.page_store.Bitfiles.{Bitfile}
use Rattle.fileset_lending.specs.metadata_cells.Chain.{PlacedCell}
use Rattle.fileset_lending.specs.directory_pages.declared.row.Row.{Row}
use Rattle.fileset_lending.specs.fileset_files.Creation.{last_sequence}
use Rattle.fileset_lending.specs.fileset_files.State.{parent_of}
use Rattle.fileset_lending.specs.fileset_model.Filesets.{FilesetMap}
use Rattle.fileset_lending.specs.fileset_values.Orders.{Path}
use Rattle.fileset_lending.specs.fileset_model.Paths.{is_directory}
use Rattle.fileset_lending.specs.fileset_model.declared.fileset.FilesetSlot.{FilesetSlot}
use Rattle.fileset_lending.specs.fileset_table.Table.{Table}
use Rattle.fileset_lending.specs.fileset_table.declared.slot.FilesetEntry.{FilesetEntry}
use Rattle.fileset_lending.specs.fileset_table.declared.slot.SlotItem.TheVariants as slot
use Rattle.fileset_lending.specs.name_space.Names.{led_to, number_of, root_tag}
use Rattle.fileset_lending.proofs.OfNameSpace.Originals.{directory_at, number_at, one_tag, path_at}
use Rattle.fileset_lending.proofs.OfReleaseList.Spread.{none_not, some_same}
use Rattle.fileset_lending.specs.domain_layout.DirectoryRules.{Has, IsRow, RowPlace}
use Rattle.fileset_lending.specs.domain_layout.Seen.{SeenFile}
use Rattle.fileset_lending.proofs.OfDomainLayout.Reached.{same_number}
use Rattle.fileset_lending.specs.domain_standing.Domain.{DomainNow, item_in}
use Rattle.fileset_lending.specs.domain_standing.Standing.{HaveParents, StandsDomain}
use Rattle.fileset_lending.specs.standing_laws.SlotParents.{HaveParentsIn, StandsForSome}
use Rattle.fileset_lending.proofs.OfStandingLaws.FilesetPut.{StoodIn, stood_in}
use Rattle.fileset_lending.specs.standing_laws.Sound.{IsSound, StandsSound}
use Rattle.no_faults.proofs.Originals.{IsOriginalSlot, is_role}
use Rattle.no_faults.proofs.RowPaths.{PathRow, RowWay, dir_row, in_it, path_row, row_dir, row_way}
use Rattle.no_faults.proofs.Seen.{has_seen, shown_in}
use Rattle.no_faults.proofs.Shown.{IsShown}
use Rattle.fileset_lending.specs.set_standing.Around.{StaysAround}
use Rattle.fileset_lending.specs.set_standing.Follow.{ComesFrom, IsStill, IsUnsaid, Said, TagFollows}
use Rattle.fileset_lending.specs.set_standing.Directories.{AreTags, DirectoriesFollow, IsDirectoryOf, IsOfNone, StandsIn, numbers_of}

-- the original in a slot of a domain that stands
abbrev its_slot : (d : DomainNow) (all : FilesetMap) (stands : StandsDomain d all) (number : ℕ) (entry : FilesetEntry) → StoodIn d all stands.slots number entry → IsOriginalSlot d all stands.slots number entry
its_slot d all stands number entry w = record { shape = w.shape_was; is = w.stood.is; fileset = w.fileset_was; fills = w.stood.filled; set = w.stood.set }

module _ (said : Said) (number : ℕ) (entry : FilesetEntry) (d now : DomainNow) (all all_now : FilesetMap) (stands : StandsDomain d all) (sound : StandsSound d stands.files stands.indexes) (stands_now : StandsDomain now all_now) (sound_now : StandsSound now stands_now.files stands_now.indexes)
    (there : item_in d number ≡ Some (slot.Original entry)) (there_now : item_in now number ≡ Some (slot.Original entry)) (o : IsOriginalSlot d all stands.slots number entry) (o_now : IsOriginalSlot now all_now stands_now.slots number entry)
    (stays : StaysAround said number d now) (tags : AreTags said) (follow : DirectoriesFollow (numbers_of said) o.fileset.tree o_now.fileset.tree) (parents : HaveParentsIn number d)
  where
    tag_follows : (tag : Tag) → TagFollows said d now (last_sequence d.pages (d.tags number) tag.slot) tag (o.set.chains tag) (o_now.set.chains tag)
    tag_follows tag = stays.files.files o.set.chains o_now.set.chains o.set.stands.together.files o_now.set.stands.together.files tag

    -- nothing is said of a tag of whose number nothing is
    unsaid : (tag : Tag) → IsOfNone (numbers_of said) (number_of tag) → IsUnsaid said tag
    unsaid tag none parent says = none (number_of parent) (ap numbers_of says)

    -- what is said of its number is said of a tag
    is_said : (tag parent : Tag) → tag.seq < 2 ^ 16 → parent.seq < 2 ^ 16 → numbers_of said ≡ Some (number_of tag, number_of parent) → said ≡ Some (tag, parent)
    is_said tag parent low low_parent = by_said said tags
      where
        by_said : (s : Said) → AreTags s → numbers_of s ≡ Some (number_of tag, number_of parent) → s ≡ Some (tag, parent)
        by_said None may is = absurd (none_not (number_of tag, number_of parent) is)
        by_said (Some (t, p)) may is =
            let both = some_same (number_of t, number_of p) (number_of tag, number_of parent) is in
            let one : t ≡ tag = one_tag t tag may.0 low (ap (λ (n : ℕ × ℕ). n.0) both) in
            let other : p ≡ parent = one_tag p parent may.1 low_parent (ap (λ (n : ℕ × ℕ). n.1) both) in
            λ i. Some (one i, other i)

    -- a path leads to the tag of the number that it has
    led_there : (path : Path) (tag : Tag) → tag.seq < 2 ^ 16 → get o.fileset.tree.paths path ≡ Some (number_of tag) → (of : Kind) × (led_to o.shape.shown path ≡ Some (tag, of))
    led_there path tag low leads = by_led (led_to o.shape.shown path) refl (sym (path_at o.shape.shown o.fileset o.fills.names (is_role d all stands.slots number entry o) path) ∙ leads)
      where
        by_led : (led : Option (Tag × Kind)) → led_to o.shape.shown path ≡ led → option_map (λ (l : Tag × Kind). number_of l.0) led ≡ Some (number_of tag) → (of : Kind) × (led_to o.shape.shown path ≡ Some (tag, of))
        by_led None none is = absurd (none_not (number_of tag) is)
        by_led (Some (t, of)) led is =
            let was = in_it d all stands sound number entry there o path t of led in
            let same : t ≡ tag = one_tag t tag (o.fills.names.seq t was.file was.there) low (some_same (number_of t) (number_of tag) is) in
            (of, led ∙ ap (λ (x : Tag). Some (x, of)) same)

    module _ (tag : Tag) (cells : List PlacedCell) (seen : SeenFile) (has : Has now.pages now.table number tag cells seen) (directory : seen.is.kind ≡ Directory) where
      its : IsShown now all_now stands_now number entry o_now tag cells seen
      its = shown_in now all_now stands_now number entry there_now o_now tag cells seen has

      -- what was there is a directory still, and says what it said where nothing else is said of it
      record Was : Type 0 where
        cells_was : List PlacedCell
        seen_was : SeenFile
        has_was : Has d.pages d.table number tag cells_was seen_was
        kind_was : seen_was.is.kind ≡ Directory
        file_kind : (file : Bitfile) → o.shape.shown tag ≡ Some file → file.kind ≡ Directory
        says : IsUnsaid said tag → parent_of cells ≡ parent_of cells_was

      was_there : (file : Bitfile) → o.shape.shown tag ≡ Some file → Was
      was_there file shown =
          let h = has_seen d all stands number entry there o tag file shown in
          let comes : ComesFrom d now (Some h.cells) seen = subst (λ c. ComesFrom d now c seen) h.is.at ((tag_follows tag).from cells seen its.at its.sees) in
          let still : IsStill d now h.seen seen = subst (λ s. IsSomeAnd s (λ was. IsStill d now was seen)) h.is.sees comes in
          let kind : h.seen.is.kind ≡ Directory = sym still.kind ∙ directory in
          record {
            cells_was = h.cells;
            seen_was = h.seen;
            has_was = h.has;
            kind_was = kind;
            file_kind = λ other is.
                let same : h.is.file ≡ other = some_same h.is.file other (sym h.is.shown ∙ is) in
                sym (ap (λ (f : Bitfile). f.kind) same) ∙ h.is.what.kind ∙ kind;
            says = ((tag_follows tag).parent cells seen its.at its.sees).kept h.cells h.is.at;
          }

      -- the root
      at_root : tag ≡ root_tag → ¬ parent_of cells ≡ Some root_tag → ⊥
      at_root same wrong =
          let is = in_it d all stands sound number entry there o [] root_tag Directory refl in
          let was = was_there is.file (ap o.shape.shown same ∙ is.there) in
          let its_number : get o_now.fileset.tree.paths [] ≡ Some (number_of tag) = number_at o_now.shape.shown o_now.fileset o_now.fills.names (is_role now all_now stands_now.slots number entry o_now) [] root_tag Directory refl ∙ ap (λ (t : Tag). Some (number_of t)) (sym same) in
          let none = unsaid tag (follow.root (number_of tag) its_number) in
          parents tag was.cells_was was.seen_was was.has_was was.kind_was (record { parent = root_tag; is = inl (same, refl); wrong = λ says. wrong (was.says none ∙ says) })

      module _ (at : RowPlace) (row : Row) (home : Home) (is : IsRow now.pages now.frame now.table number at row home) (to_it : row.tag ≡ tag) (kind : row.kind ≡ Directory) (not_root : ¬ tag ≡ root_tag) where
        way : RowWay now all_now stands_now sound_now number entry there_now o_now at row
        way = row_way now all_now stands_now sound_now number entry there_now o_now at row (dir_row now all_now stands_now sound_now number entry there_now o_now at row home is)

        on : led_to o_now.shape.shown (way.front ++ row.name ∷ []) ≡ Some (tag, Directory)
        on = way.on ∙ (λ i. Some (to_it i, kind i))

        tag_low : tag.seq < 2 ^ 16
        tag_low = o_now.fills.names.seq tag its.file its.shown

        dir_low : at.dir.seq < 2 ^ 16
        dir_low = let it = in_it now all_now stands_now sound_now number entry there_now o_now way.front at.dir Directory way.leads in o_now.fills.names.seq at.dir it.file it.there

        leads : (path : Path) (t : Tag) → led_to o_now.shape.shown path ≡ Some (t, Directory) → get o_now.fileset.tree.paths path ≡ Some (number_of t)
        leads path t led = number_at o_now.shape.shown o_now.fileset o_now.fills.names (is_role now all_now stands_now.slots number entry o_now) path t Directory led

        stands_in : StandsIn o_now.fileset.tree (number_of tag) (number_of at.dir)
        stands_in = record { path = way.front; name = row.name; outer = leads way.front at.dir way.leads; inner = leads (way.front ++ row.name ∷ []) tag on }

        directory_of_tag : IsDirectoryOf o_now.fileset.tree (number_of tag)
        directory_of_tag =
            subst (λ n. IsSomeAnd (option_and_then (get o_now.fileset.tree.nodes) n) (λ node. is_directory node ≡ true)) (leads (way.front ++ row.name ∷ []) tag on)
            (directory_at o_now.shape.shown o_now.fileset o_now.fills.names (is_role now all_now stands_now.slots number entry o_now) (way.front ++ row.name ∷ []) tag on)

        stood_there : StandsIn o.fileset.tree (number_of tag) (number_of at.dir) → IsOfNone (numbers_of said) (number_of tag) → ¬ parent_of cells ≡ Some at.dir → ⊥
        stood_there s none wrong =
            let outer = led_there s.path at.dir dir_low s.outer in
            let inner = led_there (s.path ++ s.name ∷ []) tag tag_low s.inner in
            let is_in = in_it d all stands sound number entry there o (s.path ++ s.name ∷ []) tag inner.0 inner.1 in
            let was = was_there is_in.file is_in.there in
            let of : inner.0 ≡ Directory = sym is_in.kind ∙ was.file_kind is_in.file is_in.there in
            let p : PathRow d all stands sound number entry there o s.path s.name tag Directory = path_row d all stands sound number entry there o s.path s.name tag Directory (inner.1 ∙ ap (λ (k : Kind). Some (tag, k)) of) in
            let dir : p.at.dir ≡ at.dir = ap (λ (l : Tag × Kind). l.0) (some_same (p.at.dir, Directory) (at.dir, outer.0) (sym p.leads ∙ outer.1)) in
            let r = row_dir d all stands sound number entry there o p.at p.row p.is in
            parents tag was.cells_was was.seen_was was.has_was was.kind_was (record {
              parent = at.dir;
              is = inr (p.at, p.row, r.0, r.1, p.tag_is, p.kind_is, dir, not_root);
              wrong = λ says. wrong (was.says (unsaid tag none) ∙ says);
            })

        at_row : ¬ parent_of cells ≡ Some at.dir → ⊥
        at_row wrong = ⊎_elim
            (λ says. wrong (((tag_follows tag).parent cells seen its.at its.sees).told at.dir (is_said tag at.dir tag_low dir_low says)))
            (λ was. stood_there was.0 was.1 wrong)
            (follow.each (number_of tag) (number_of at.dir) stands_in directory_of_tag)

    pub own_parents : HaveParentsIn number now
    own_parents tag cells seen has directory w = ⊎_elim
        (λ root. at_root tag cells seen has directory root.0 (λ says. w.wrong (says ∙ ap Some (sym root.1))))
        (λ r. at_row tag cells seen has directory r.0 r.1 r.2 r.3 r.4 r.5 r.7 (λ says. w.wrong (says ∙ ap Some r.6)))
        w.is

-- ---- the domain

-- it stands with the files and indexes with which it is as rules ask
abbrev as_sound : (d : DomainNow) (all : FilesetMap) → StandsDomain d all → IsSound d → StandsDomain d all
as_sound d all stands is = record stands { files = is.files; indexes = is.indexes; tables = is.below.tables; chains = is.below.chains; owned = is.below.owned; rest = is.below.rest }

pub parents_follow : (said : Said) (number : ℕ) (entry : FilesetEntry) (d now : DomainNow) (all all_now : FilesetMap) (fileset fileset_now : FilesetSlot) → StandsDomain d all → IsSound d → StandsDomain now all_now → IsSound now
    → item_in d number ≡ Some (slot.Original entry) → get all entry.name ≡ Some fileset → get all_now entry.name ≡ Some fileset_now → StaysAround said number d now → AreTags said → DirectoriesFollow (numbers_of said) fileset.tree fileset_now.tree → HaveParents d → HaveParents now
parents_follow said number entry d now all all_now fileset fileset_now stands sound stands_now sound_now there filled filled_now stays tags follow parents n = ⊎_elim
    (λ same. subst (λ (k : ℕ). HaveParentsIn k now) (sym same) own)
    (λ differ. stays.parents n differ (stood n) (parents n))
    (same_number n number)
  where
    there_now : item_in now number ≡ Some (slot.Original entry)
    there_now = ap (λ (t : Table). slice_get t.slots number) stays.table ∙ there

    w : StoodIn d all stands.slots number entry
    w = stood_in d all stands.slots number entry there

    w_now : StoodIn now all_now stands_now.slots number entry
    w_now = stood_in now all_now stands_now.slots number entry there_now

    own : HaveParentsIn number now
    own = own_parents said number entry d now all all_now (as_sound d all stands sound) sound.sound (as_sound now all_now stands_now sound_now) sound_now.sound there there_now (its_slot d all (as_sound d all stands sound) number entry w) (its_slot now all_now (as_sound now all_now stands_now sound_now) number entry w_now) stays tags
        (subst (λ (f : FilesetSlot). DirectoriesFollow (numbers_of said) f.tree w_now.fileset_was.tree) (some_same fileset w.fileset_was (sym filled ∙ w.filled))
        (subst (λ (f : FilesetSlot). DirectoriesFollow (numbers_of said) fileset.tree f.tree) (some_same fileset_now w_now.fileset_was (sym filled_now ∙ w_now.filled)) follow))
        (parents number)

    stood : (other : ℕ) → StandsForSome other d
    stood other = record {
      no_clone = stands.slots.no_clone other;
      each = λ its at. let it = stood_in d all stands.slots other its at in (it.shape_was, it.fileset_was, it.stood);
    }
