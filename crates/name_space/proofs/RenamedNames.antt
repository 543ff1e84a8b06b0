-- What a rename makes of a set's names.
use Rattle.std.proofs.Common.{◌≡◌, ◌≢◌, ◌∙◌, ◌-◌, ◌≤◌, Bool, true, false, cond, not, is_some, [], ◌∷◌, ◌++◌, Option, Some, None, IfSome, IsSome, length, length-take, take, inl, inr, refl, sym, ap, subst, arith, true≢false}
use Rattle.std.specs.Option.{option_and_then, option_map}
use Rattle.std.specs.FinMap as map
use Rattle.plain_program.specs.domain_base.declared.place.Kind.{Kind}
use Rattle.plain_program.specs.domain_base.declared.place.Kind.TheVariants.{Directory}
use Rattle.plain_program.specs.domain_base.declared.place.Tag.{Tag}
use Rattle.directory_rows.specs.page_store.Bitfiles.{Bitfile, Bitfiles, IsBitfile, IsDirectory, count_index}
use Rattle.directory_rows.specs.directory_pages.Rows.{found, is_named}
use Rattle.directory_rows.specs.Directory.{IsWellFormed, rows_in}
use Rattle.directory_rows.specs.RowChanges.{RemovesRow}
use Rattle.directory_rows.proofs.Entered.{named_found}
use Rattle.directory_rows.proofs.Outside.{others_stay_lem, rows_decide_lem}
use Rattle.plain_program.specs.fileset_model.Apply.{is_named_elsewhere, move_checks, moved, without}
use Rattle.plain_program.specs.fileset_values.Orders.{Name, Path}
use Rattle.plain_program.specs.fileset_model.Paths.{begins_with, first_refusal}
use Rattle.plain_program.specs.fileset_model.declared.fileset.FilesetSlot.{FilesetSlot}
use Rattle.plain_program.proofs.OfFilesetModel.ChangeLemmas.{without-missing}
use Rattle.plain_program.specs.legal_histories.Valid.{IsDirectoryAt}
use Rattle.plain_program.proofs.OfLegalHistories.ValidMoveLemmas.{moved-valid}
use Rattle.plain_program.proofs.OfLegalHistories.ValidLemmas.{from_some_and, some_inj, to_some_and}
use Rattle.plain_program.proofs.OfLegalHistories.ValidTreeLemmas.{nothing_below}
use Rattle.name_space.specs.Changes.{AreLooked, Checks, IndexesFollow, IsOriginal, MovesRow, Removes, Renames, TakesName, last_name}
use Rattle.name_space.specs.Names.{Names, led_to, number_of}
use Rattle.name_space.specs.Walks.{IsWayTo}
use Rattle.name_space.specs.declared.rename.Renamed.{Renamed}
use Rattle.name_space.specs.declared.spot.Spot.{Spot}
use Rattle.name_space.proofs.CreatedNames.{by_tag, fore, row_indexes, same_count, whole_path}
use Rattle.name_space.proofs.Leaves.{LeafAt}
use Rattle.name_space.proofs.MovedNames.{moved_names}
use Rattle.name_space.proofs.Originals.{directory_at, is_in, number_at, path_at}
use Rattle.name_space.proofs.RenameChecks.{free_checks_are, free_not_one, from_led, from_number, kind_is, move_beside, one_checks_are, taken_led, taken_not_one, taken_number, taken_one, to_free, two_checks_are}
use Rattle.name_space.proofs.RowFacts.{is_there, removed_index, removed_none, there_before}
use Rattle.name_space.proofs.Spots.{led_path}
use Rattle.name_space.proofs.Taken.{removes, taken_index, taken_leads}

-- ---- the rows before a move and between its steps

pub still_good : (old mid : Bitfiles) (from_dir dir : Tag) (name : Name) → IsWellFormed old from_dir → IsWellFormed old dir → RemovesRow from_dir name old mid → IsWellFormed mid dir
still_good old mid from_dir dir name good into removes = by_tag (IsWellFormed mid dir) dir from_dir
    (λ same. subst (IsWellFormed mid) (sym same) removes.good)
    (λ other.
    let file = from_some_and (λ (f : Bitfile). f.kind ≡ Directory) (old dir) into.directory in
    rows_decide_lem old mid dir dir file.0 file.0 file.1 ((others_stay_lem from_dir old mid removes.others).others dir other ∙ file.1) (record { kind = refl; pages = refl; index = refl }) into)

-- a row that is moved goes to a name that is free
pub still_free : (old mid : Bitfiles) (from_dir dir : Tag) (name new_name : Name) (led : Tag × Kind) → IsWellFormed old from_dir → found name (rows_in old from_dir) ≡ Some led → found new_name (rows_in old dir) ≡ None
    → RemovesRow from_dir name old mid → is_named new_name (rows_in mid dir) ≡ false
still_free old mid from_dir dir name new_name led good named free removes =
    named_found new_name (rows_in mid dir)
    ∙ ap is_some (removed_none old mid from_dir name good removes new_name dir free (λ is same.
    none≢some (sym free ∙ ap (λ n. found n (rows_in old dir)) is ∙ ap (λ d. found name (rows_in old d)) same ∙ named)))
  where
    none≢some : {x : Tag × Kind} → (¬ None ≡ Some x)
    none≢some e = cc

-- ---- one move

module _ (old new : Bitfiles) (slot : FilesetSlot) (original : IsOriginal old slot) (path to : Path) (some : 1 ≤ length path) (some_to : 1 ≤ length to) (spot : Spot) (dir : Tag)
    (way : IsWayTo old path (length path - 1) spot.dir) (row : found (last_name path) (rows_in old spot.dir) ≡ Some (spot.tag, spot.kind)) (way_to : IsWayTo old to (length to - 1) dir)
    (free : found (last_name to) (rows_in old dir) ≡ None) (apart : begins_with to path ≡ false) (moves : MovesRow spot (last_name path) dir (last_name to) old new) where
  abbrev place : Path
  place = take (length path - 1) path

  abbrev place_to : Path
  place_to = take (length to - 1) to

  names : Names new (record slot { tree = moved path to slot.tree })
  names =
      subst (λ p. Names new (record slot { tree = moved p to slot.tree })) (whole_path path some)
      (subst (λ q. Names new (record slot { tree = moved (place ++ last_name path ∷ []) q slot.tree })) (whole_path to some_to)
      (moved_names old moves.mid new slot original spot.dir dir place place_to (last_name path) (last_name to) spot.tag spot.kind way.led way_to.led row free
      (ap (λ p. begins_with p (place ++ last_name path ∷ [])) (whole_path to some_to) ∙ ap (begins_with to) (whole_path path some) ∙ apart) moves.removes moves.adds))

  no_path : map.get slot.tree.paths to ≡ None
  no_path = path_at old slot original.names original.role to ∙ ap (option_map (λ (led : Tag × Kind). number_of led.0)) (led_path old to some_to dir way_to ∙ free)

  pub one_move : IsOriginal new (record slot { tree = moved path to slot.tree })
  one_move = record {
    names = names;
    role = original.role;
    valid = moved-valid slot.tree path to original.valid (λ is. absurd (omega (arith, ap length is, some))) apart
        (λ rest. nothing_below slot.tree to rest original.valid no_path)
        (λ front name e. subst (IsDirectoryAt slot.tree) (ap (λ p. take (length p - 1) p) (sym e) ∙ fore front name) (directory_at old slot original.names original.role place_to dir way_to.led));
  }

-- what is left has as many index pages, but for the directory that got the row
moved_indexes : (first old new : Bitfiles) (spot : Spot) (dir : Tag) (name new_name : Name) → MovesRow spot name dir new_name old new → ((t : Tag) → IsSome (old t) → count_index old t ≡ count_index first t)
    → IsDirectory old dir → IsDirectory old spot.dir → IndexesFollow dir first new
moved_indexes first old new spot dir name new_name moves earlier into from =
    row_indexes dir (record { tag = spot.tag; kind = spot.kind; name = new_name }) first moves.mid new moves.adds
    (removed_index old moves.mid spot.dir name moves.removes dir ∙ earlier dir (is_there old dir into))
    (λ t away left.
    let now : new t ≡ moves.mid t = (others_stay_lem dir moves.mid new moves.adds.others).others t away in
    let had : IsSome (old t) = there_before old moves.mid spot.dir moves.removes.others from t (ap is_some (sym now) ∙ left) in
    same_count (new t) (moves.mid t) now ∙ removed_index old moves.mid spot.dir name moves.removes t ∙ earlier t had)

-- ---- answers

module _ (old new : Bitfiles) (path to : Path) (spot : Spot) (dir : Tag) (looked : AreLooked path to spot dir old) (slot : FilesetSlot) (original : IsOriginal old slot) where
  abbrev answer : Option Tag → Renamed
  answer replaced = record { moved = spot.tag; kind = spot.kind; dir = dir; replaced = replaced }

  into : map.get slot.tree.paths (take (length to - 1) to) ≡ Some (number_of dir)
  into = number_at old slot original.names original.role (take (length to - 1) to) dir Directory (looked.dir_is slot original).1.led

  -- both paths lead to one number
  pub renames_none : (tag : Tag) (of : Kind) → found (last_name to) (rows_in old dir) ≡ Some (tag, of) → tag ≡ spot.tag → new ≡ old → Renames path to slot old new (answer None)
  renames_none tag of taken same unchanged =
      let one = taken_one old path to spot dir looked slot original tag of taken same in
      record {
        allowed = one_checks_are old path to spot dir looked slot original tag of taken same;
        was = from_number old path to spot dir looked slot original;
        kind = kind_is old path to spot dir looked slot original;
        into = into;
        replaced = sym (ap (λ b. cond b None (option_and_then (λ number. cond (is_named_elsewhere slot.tree to number) None (Some number)) (map.get slot.tree.paths to))) one);
        makes = subst (λ tree. IsOriginal new (record slot { tree = tree })) (sym (ap (λ b. cond b slot.tree (moved path to (without to slot.tree))) one))
            (subst (λ files. IsOriginal files slot) (sym unchanged) original);
        same = λ both. unchanged;
        indexes = λ differ. absurd (true≢false (sym one ∙ differ));
      }

  -- nothing stands at the second path
  pub renames_free : found (last_name to) (rows_in old dir) ≡ None → begins_with to path ≡ false → MovesRow spot (last_name path) dir (last_name to) old new → Renames path to slot old new (answer None)
  renames_free free apart moves =
      let at = looked.spot_is slot original in
      let two = free_not_one old path to spot dir looked slot original free in
      let none = to_free old path to spot dir looked slot original free in
      record {
        allowed = free_checks_are old path to spot dir looked slot original free apart;
        was = from_number old path to spot dir looked slot original;
        kind = kind_is old path to spot dir looked slot original;
        into = into;
        replaced = sym (ap (λ b. cond b None (option_and_then (λ number. cond (is_named_elsewhere slot.tree to number) None (Some number)) (map.get slot.tree.paths to))) two
            ∙ ap (option_and_then (λ number. cond (is_named_elsewhere slot.tree to number) None (Some number))) none);
        makes = subst (λ tree. IsOriginal new (record slot { tree = tree }))
            (ap (moved path to) (sym (without-missing slot.tree to none)) ∙ sym (ap (λ b. cond b slot.tree (moved path to (without to slot.tree))) two))
            (one_move old new slot original path to looked.some looked.some_to spot dir at.1 at.2 (looked.dir_is slot original).1 free apart moves);
        same = λ both. absurd (true≢false (sym both ∙ two));
        indexes = λ differ. moved_indexes old old new spot dir (last_name path) (last_name to) moves (λ t there. refl) (looked.dir_is slot original).1.there at.1.there;
      }

-- ---- a path from which something else is taken away first

pub record IsCleared (path to : Path) (spot : Spot) (dir : Tag) (slot : FilesetSlot) (mid : Bitfiles) : Type 0 where
  pub original : IsOriginal mid (record slot { tree = without to slot.tree })
  pub way : IsWayTo mid path (length path - 1) spot.dir
  pub row : found (last_name path) (rows_in mid spot.dir) ≡ Some (spot.tag, spot.kind)
  pub way_to : IsWayTo mid to (length to - 1) dir
  pub free : found (last_name to) (rows_in mid dir) ≡ None

module _ (old mid : Bitfiles) (path to : Path) (spot other : Spot) (looked : AreLooked path to spot other.dir old) (taken : found (last_name to) (rows_in old other.dir) ≡ Some (other.tag, other.kind))
    (apart : other.tag ≢ spot.tag) (bare : rows_in old other.tag ≡ []) (sound : IfSome (old other.tag) IsBitfile) (gone : Bool) (takes : TakesName other.dir (last_name to) other.tag old mid gone)
    (slot : FilesetSlot) (original : IsOriginal old slot) where
  abbrev front : Path
  front = take (length path - 1) path

  abbrev front_to : Path
  front_to = take (length to - 1) to

  way_was : IsWayTo old to (length to - 1) other.dir
  way_was = (looked.dir_is slot original).1

  path_led : led_to old path ≡ Some (spot.tag, spot.kind)
  path_led = from_led old path to spot other.dir looked slot original

  other_led : led_to old to ≡ Some (other.tag, other.kind)
  other_led = taken_led old path to spot other.dir looked slot original other.tag other.kind taken

  changed : LeafAt old mid to None
  changed = taken_leads old mid slot original to looked.some_to other.dir way_was other.tag other.kind taken bare sound gone takes

  leads : (q : Path) → q ≢ to → led_to mid q ≡ led_to old q
  leads q differs = elim (changed q) as (λ _. led_to mid q ≡ led_to old q) [
    | inl here ↦ absurd (differs here.0)
    | inr away ↦ away.1
  ]

  lost : led_to mid to ≡ None
  lost = elim (changed to) as (λ _. led_to mid to ≡ None) [
    | inl here ↦ here.1
    | inr away ↦ absurd (away.0 refl)
  ]

  path_differs : path ≢ to
  path_differs same = apart (ap (λ (led : Tag × Kind). led.0) (some_inj (sym other_led ∙ ap (led_to old) (sym same) ∙ path_led)))

  front_differs : front ≢ to
  front_differs same =
      let at = looked.spot_is slot original in
      let dir_is : other.tag ≡ spot.dir = ap (λ (led : Tag × Kind). led.0) (some_inj (sym other_led ∙ ap (led_to old) (sym same) ∙ at.1.led)) in
      none≢some (ap (found (last_name path)) (sym bare ∙ ap (rows_in old) dir_is) ∙ at.2)
    where
      none≢some : {x : Tag × Kind} → (¬ None ≡ Some x)
      none≢some e = cc

  front_to_differs : front_to ≢ to
  front_to_differs same = absurd (omega (arith, ap length same, length-take (length to - 1) to, looked.some_to))

  taken_away : (checks : Checks) → first_refusal (checks slot) ≡ None → Removes checks to slot old mid other.tag gone
  taken_away = removes old mid slot original to looked.some_to other.dir way_was other.tag other.kind taken bare sound gone takes

  abbrev no_checks : Checks
  no_checks slot = []

  pub last_is : gone ≡ not (is_named_elsewhere slot.tree to (number_of other.tag))
  last_is = (taken_away no_checks refl).last

  mid_original : IsOriginal mid (record slot { tree = without to slot.tree })
  mid_original = (taken_away no_checks refl).makes

  way_at : (q : Path) (d : Tag) → led_to mid q ≡ Some (d, Directory) → IsDirectory mid d
  way_at q d led =
      let had = is_in mid (record slot { tree = without to slot.tree }) mid_original.names mid_original.role q d Directory led in
      to_some_and (λ (f : Bitfile). f.kind ≡ Directory) (mid d) had.file had.there had.kind

  way_now : IsWayTo mid path (length path - 1) spot.dir
  way_now = let led = leads front front_differs ∙ (looked.spot_is slot original).1.led in record { led = led; there = way_at front spot.dir led }

  way_to_now : IsWayTo mid to (length to - 1) other.dir
  way_to_now = let led = leads front_to front_to_differs ∙ way_was.led in record { led = led; there = way_at front_to other.dir led }

  pub cleared : IsCleared path to spot other.dir slot mid
  cleared = record {
    original = mid_original;
    way = way_now;
    row = sym (led_path mid path looked.some spot.dir way_now) ∙ leads path path_differs ∙ path_led;
    way_to = way_to_now;
    free = sym (led_path mid to looked.some_to other.dir way_to_now) ∙ lost;
  }

  pub renames_onto : (new : Bitfiles) → begins_with to path ≡ false → first_refusal (move_checks path to slot) ≡ None → MovesRow spot (last_name path) other.dir (last_name to) mid new
      → (replaced : Option Tag) → replaced ≡ cond gone (Some other.tag) None → Renames path to slot old new (record { moved = spot.tag; kind = spot.kind; dir = other.dir; replaced = replaced })
  renames_onto new beside passes moves replaced is =
      let two = taken_not_one old path to spot other.dir looked slot original other.tag other.kind taken apart in
      let number = taken_number old path to spot other.dir looked slot original other.tag other.kind taken in
      record {
        allowed = two_checks_are old path to spot other.dir looked slot original other.tag other.kind taken apart ∙ passes;
        was = from_number old path to spot other.dir looked slot original;
        kind = kind_is old path to spot other.dir looked slot original;
        into = number_at old slot original.names original.role front_to other.dir Directory way_was.led;
        replaced =
            ap (option_map number_of) is
            ∙ by_last (is_named_elsewhere slot.tree to (number_of other.tag)) gone last_is
            ∙ sym (ap (λ b. cond b None (option_and_then (λ number. cond (is_named_elsewhere slot.tree to number) None (Some number)) (map.get slot.tree.paths to))) two
            ∙ ap (option_and_then (λ number. cond (is_named_elsewhere slot.tree to number) None (Some number))) number);
        makes = subst (λ tree. IsOriginal new (record slot { tree = tree })) (sym (ap (λ b. cond b slot.tree (moved path to (without to slot.tree))) two))
            (one_move mid new (record slot { tree = without to slot.tree }) mid_original path to looked.some looked.some_to spot other.dir way_now cleared.row way_to_now cleared.free beside moves);
        same = λ both. absurd (true≢false (sym both ∙ two));
        indexes = λ differ. moved_indexes old mid new spot other.dir (last_name path) (last_name to) moves (taken_index old mid slot original to looked.some_to other.dir way_was other.tag other.kind taken bare sound gone takes) way_to_now.there way_now.there;
      }
    where
      by_last : (elsewhere gone : Bool) → gone ≡ not elsewhere → option_map number_of (cond gone (Some other.tag) None) ≡ cond elsewhere None (Some (number_of other.tag))
      by_last true true last = absurd (true≢false last)
      by_last true false last = refl
      by_last false true last = refl
      by_last false false last = absurd (true≢false (sym last))

-- ---- the same where the last names stand in slices

pub moves_of : (spot : Spot) (dir : Tag) (path to : Path) (name new_name : Name) (old new : Bitfiles) → name ≡ last_name path → new_name ≡ last_name to → MovesRow spot name dir new_name old new → MovesRow spot (last_name path) dir (last_name to) old new
moves_of spot dir path to name new_name old new is new_is moves =
    subst (λ n. MovesRow spot (last_name path) dir n old new) new_is (subst (λ n. MovesRow spot n dir new_name old new) is moves)

module _ (old mid : Bitfiles) (path to : Path) (spot other : Spot) (looked : AreLooked path to spot other.dir old) (taken : found (last_name to) (rows_in old other.dir) ≡ Some (other.tag, other.kind))
    (apart : other.tag ≢ spot.tag) (bare : rows_in old other.tag ≡ []) (sound : IfSome (old other.tag) IsBitfile) (gone : Bool) (name : Name) (is : name ≡ last_name to) (takes : TakesName other.dir name other.tag old mid gone) where
  takes_last : TakesName other.dir (last_name to) other.tag old mid gone
  takes_last = subst (λ n. TakesName other.dir n other.tag old mid gone) is takes

  pub cleared_of : IsCleared path to spot other.dir looked.names.0 mid
  cleared_of = cleared old mid path to spot other looked taken apart bare sound gone takes_last looked.names.0 looked.names.1

  pub onto_of : (new : Bitfiles) (moved_name new_name : Name) → moved_name ≡ last_name path → new_name ≡ last_name to → MovesRow spot moved_name other.dir new_name mid new
      → ((slot : FilesetSlot) → IsOriginal old slot → first_refusal (move_checks path to slot) ≡ None) → (replaced : Option Tag) → replaced ≡ cond gone (Some other.tag) None
      → (slot : FilesetSlot) → IsOriginal old slot → Renames path to slot old new (record { moved = spot.tag; kind = spot.kind; dir = other.dir; replaced = replaced })
  onto_of new moved_name new_name moved_is new_is moves allowed replaced replaced_is slot original =
      renames_onto old mid path to spot other looked taken apart bare sound gone takes_last slot original new
      (move_beside slot path to (allowed slot original)) (allowed slot original) (moves_of spot other.dir path to moved_name new_name mid new moved_is new_is moves) replaced replaced_is
