-- What is left where a row went, and the link that it was.
use Rattle.std.proofs.Common.{◌≡◌, ◌≢◌, ◌∙◌, ℕ, ◌+◌, ◌-◌, ◌≤◌, ◌==◌, Bool, true, false, not, cond, is_some, List, [], ◌∷◌, ◌++◌, Option, Some, None, IfSome, IsSome, length, take, inl, inr, refl, sym, ap, subst, arith, eqb-true, true≢false}
use Rattle.std.proofs.lemmas.Bool.{cases_lt, eq-eqb}
use Rattle.std.specs.Option.{option_and_then, option_map, option_map_or}
use Rattle.std.specs.FinMap as map
use Rattle.plain_program.specs.domain_base.declared.place.Kind.{Kind}
use Rattle.plain_program.specs.domain_base.declared.place.Kind.TheVariants as kinds
use Rattle.plain_program.specs.domain_base.declared.place.Tag.{Tag}
use Rattle.directory_rows.specs.page_store.Bitfiles.{Bitfile, Bitfiles, IsBitfile, count_index, linked, links_at, same_tag, with_file}
use Rattle.directory_rows.specs.directory_pages.Rows.{found}
use Rattle.directory_rows.specs.Directory.{all_rows, rows_in}
use Rattle.directory_rows.specs.Laws.{HasSameRows}
use Rattle.directory_rows.proofs.Outside.{others_stay_lem}
use Rattle.plain_program.specs.fileset_model.Apply.{is_named_elsewhere}
use Rattle.plain_program.specs.fileset_model.Fileset.{Fileset}
use Rattle.plain_program.specs.fileset_values.Orders.{Name, Path}
use Rattle.plain_program.specs.fileset_model.Paths.{first_refusal, paths_to}
use Rattle.plain_program.specs.fileset_model.declared.fileset.FilesetSlot.{FilesetSlot}
use Rattle.plain_program.proofs.OfLegalHistories.ValidLemmas.{from_some_and, to_some_and}
use Rattle.plain_program.proofs.OfLegalHistories.ValidTreeLemmas.{without-valid}
use Rattle.name_space.specs.Changes.{Checks, DropsLink, IsOriginal, Removes, TakesName, last_name}
use Rattle.name_space.specs.Names.{led_to, number_of}
use Rattle.name_space.specs.Walks.{IsWayTo}
use Rattle.name_space.proofs.CreatedNames.{by_tag, same_count, same_rows, whole_path}
use Rattle.name_space.proofs.Leads.{led-name}
use Rattle.name_space.proofs.Leaves.{LeafAt}
use Rattle.name_space.proofs.Originals.{IsIn, is_in, number_at, path_at, tag_itself}
use Rattle.name_space.proofs.PathCounts.{alone, among}
use Rattle.name_space.proofs.Removed.{IsLeft, leads, removed_names}
use Rattle.name_space.proofs.RowFacts.{removed_index}
use Rattle.name_space.proofs.Spots.{led_path}

-- a file has no rows
pub file_rows : (files : Bitfiles) (tag : Tag) (file : Bitfile) → files tag ≡ Some file → IfSome (files tag) IsBitfile → file.kind ≡ kinds.File → rows_in files tag ≡ []
file_rows files tag file there sound kind =
    same_rows (files tag) (Some file) there
    ∙ ap all_rows (none file.pages ((subst (λ (o : Option Bitfile). IfSome o IsBitfile) there sound).no_pages kind))
  where
    none : (pages : List (List ℕ)) → length pages ≡ 0 → pages ≡ []
    none [] is = refl
    none (page ∷ pages) is = absurd (omega (arith, is))

-- how many links something has
pub few_links : (files : Bitfiles) (tag : Tag) → is_some (files tag) ≡ true → IfSome (files tag) IsBitfile → (1 ≤ links_at files tag) × (links_at files tag ≤ 1000)
few_links files tag there sound = by_file (files tag) there sound
  where
    by_file : (o : Option Bitfile) → is_some o ≡ true → IfSome o IsBitfile → (1 ≤ option_map_or (λ (f : Bitfile). f.links) o 0) × (option_map_or (λ (f : Bitfile). f.links) o 0 ≤ 1000)
    by_file None some is = absurd (true≢false (sym some))
    by_file (Some file) some is = (is.named, is.links)

pub not_one : (n : ℕ) → 1 ≤ n → (n == 1) ≡ false → 2 ≤ n
not_one n some other = elim (cases_lt 1 n) as (λ _. 2 ≤ n) [
  | inl lt ↦ omega (arith, lt)
  | inr le ↦ absurd (true≢false (sym (eq-eqb n 1 (omega (arith, some, le))) ∙ other))
]

-- ---- a link that was dropped

module _ (mid new : Bitfiles) (tag : Tag) (file : Bitfile) (there : mid tag ≡ Some file) (named : 1 ≤ file.links) where
  count : links_at mid tag ≡ file.links
  count = ap (λ (o : Option Bitfile). option_map_or (λ (f : Bitfile). f.links) o 0) there

  changed : DropsLink tag mid new false → (t : Tag) → new t ≡ cond (same_tag t tag) (Some (linked (links_at mid tag - 1) file)) (mid t)
  changed drops t =
      ap (λ (fs : Bitfiles). fs t) drops.left
      ∙ ap (λ (o : Option Bitfile). (option_map_or (λ (f : Bitfile). with_file tag (linked (links_at mid tag - 1) f) mid) o mid) t) there

  pub dropped_others : (gone : Bool) → DropsLink tag mid new gone → (t : Tag) → same_tag t tag ≡ false → new t ≡ mid t
  dropped_others true drops t other = ap (λ (fs : Bitfiles). fs t) drops.left ∙ ap (λ b. cond b None (mid t)) other
  dropped_others false drops t other = changed drops t ∙ ap (λ b. cond b (Some (linked (links_at mid tag - 1) file)) (mid t)) other

  pub dropped_itself : (gone : Bool) → DropsLink tag mid new gone → IsLeft (not gone) file (new tag)
  dropped_itself true drops = ap (λ (fs : Bitfiles). fs tag) drops.left ∙ ap (λ b. cond b None (mid tag)) (tag_itself tag)
  dropped_itself false drops =
      let now : Bitfile = linked (links_at mid tag - 1) file in
      let is : new tag ≡ Some now = changed drops tag ∙ ap (λ b. cond b (Some now) (mid tag)) (tag_itself tag) in
      let fewer : 1 + (links_at mid tag - 1) ≡ file.links = omega (arith, count, named) in
      to_some_and (λ (f : Bitfile). HasSameRows f file × (f.uid ≡ file.uid) × (f.gid ≡ file.gid) × (1 + f.links ≡ file.links)) (new tag) now is
      (record { kind = refl; pages = refl; index = refl }, refl, refl, fewer)

  -- what is left has as many index pages
  pub dropped_index : (gone : Bool) → DropsLink tag mid new gone → (t : Tag) → IsSome (new t) → count_index new t ≡ count_index mid t
  dropped_index gone drops t left = by_tag (count_index new t ≡ count_index mid t) t tag
      (λ same. ap (count_index new) same ∙ here gone (dropped_itself gone drops) (sym (ap (λ t. is_some (new t)) same) ∙ left) ∙ sym (ap (count_index mid) same))
      (λ other. same_count (new t) (mid t) (dropped_others gone drops t other))
    where
      here : (gone : Bool) → IsLeft (not gone) file (new tag) → IsSome (new tag) → count_index new tag ≡ count_index mid tag
      here true none some = absurd (true≢false (sym some ∙ ap is_some none))
      here false is some =
          let now = from_some_and (λ (f : Bitfile). HasSameRows f file × (f.uid ≡ file.uid) × (f.gid ≡ file.gid) × (1 + f.links ≡ file.links)) (new tag) is in
          same_count (new tag) (Some now.0) now.1 ∙ ap length now.2.0.index ∙ sym (same_count (mid tag) (Some file) there)

  -- it stays where another path leads to it
  pub dropped_stays : (tree : Fileset) (path : Path) (number : ℕ) → map.get tree.paths path ≡ Some number → file.links ≡ paths_to tree number → (gone : Bool) → gone ≡ (links_at mid tag == 1)
      → is_named_elsewhere tree path number ≡ not gone
  dropped_stays tree path number at links true last = alone tree path number at (sym links ∙ sym count ∙ eqb-true (links_at mid tag) 1 (sym last))
  dropped_stays tree path number at links false last =
      let two = not_one (links_at mid tag) (omega (arith, count, named)) (sym last) in
      among tree path number at (omega (arith, two, count, links))

-- ---- a path that is gone

module _ (old new : Bitfiles) (slot : FilesetSlot) (original : IsOriginal old slot) (path : Path) (some : 1 ≤ length path) (dir : Tag) (way : IsWayTo old path (length path - 1) dir) (tag : Tag) (of : Kind)
    (row : found (last_name path) (rows_in old dir) ≡ Some (tag, of)) (no_rows : rows_in old tag ≡ []) (sound : IfSome (old tag) IsBitfile) (gone : Bool) (takes : TakesName dir (last_name path) tag old new gone) where
  abbrev place : Path
  place = take (length path - 1) path

  abbrev whole : Path
  whole = place ++ last_name path ∷ []

  led : led_to old path ≡ Some (tag, of)
  led = led_path old path some dir way ∙ row

  had : IsIn old slot.tree tag of
  had = is_in old slot original.names original.role path tag of led

  apart : same_tag tag dir ≡ false
  apart = by_tag (same_tag tag dir ≡ false) tag dir (λ same. absurd (none_some (ap (found (last_name path)) (sym no_rows ∙ ap (rows_in old) same) ∙ row))) (λ other. other)
    where
      none_some : {x : Tag × Kind} → (¬ None ≡ Some x)
      none_some e = cc

  at_mid : takes.mid tag ≡ Some had.file
  at_mid = (others_stay_lem dir old takes.mid takes.removes.others).others tag apart ∙ had.there

  named : 1 ≤ had.file.links
  named = (subst (λ (o : Option Bitfile). IfSome o IsBitfile) had.there sound).named

  at_whole : map.get slot.tree.paths whole ≡ Some (number_of tag)
  at_whole = ap (map.get slot.tree.paths) (whole_path path some) ∙ number_at old slot original.names original.role path tag of led

  stays : is_named_elsewhere slot.tree whole (number_of tag) ≡ not gone
  stays = dropped_stays takes.mid new tag had.file at_mid named slot.tree whole (number_of tag) at_whole had.links gone takes.drops.last

  child_none : (name : Name) → map.get slot.tree.paths (whole ++ name ∷ []) ≡ None
  child_none name =
      path_at old slot original.names original.role (whole ++ name ∷ [])
      ∙ ap (option_map (λ (led : Tag × Kind). number_of led.0))
      (led-name old whole name ∙ ap (option_and_then (λ (led : Tag × Kind). found name (rows_in old led.0))) (ap (led_to old) (whole_path path some) ∙ led) ∙ ap (found name) no_rows)

  no_root : whole ≢ []
  no_root is = absurd (omega (arith, ap length (sym (whole_path path some) ∙ is), some))

  -- that path leads nowhere, and all others lead where they led
  pub taken_leads : LeafAt old new path None
  taken_leads = subst (λ p. LeafAt old new p None) (whole_path path some)
      (leads old takes.mid new slot original.names original.role original.valid dir place (last_name path) way.led tag of row no_rows had.file had.there takes.removes
      (dropped_others takes.mid new tag had.file at_mid named gone takes.drops)
      (subst (λ b. IsLeft b had.file (new tag)) (sym stays) (dropped_itself takes.mid new tag had.file at_mid named gone takes.drops)))

  pub taken_index : (t : Tag) → IsSome (new t) → count_index new t ≡ count_index old t
  taken_index t left =
      dropped_index takes.mid new tag had.file at_mid named gone takes.drops t left
      ∙ removed_index old takes.mid dir (last_name path) takes.removes t

  pub removes : (checks : Checks) → first_refusal (checks slot) ≡ None → Removes checks path slot old new tag gone
  removes checks allowed = subst (λ p. Removes checks p slot old new tag gone) (whole_path path some) (record {
    allowed = allowed;
    was = at_whole;
    last = sym (ap not stays ∙ twice gone);
    makes = record {
      names = removed_names old takes.mid new slot original.names original.role original.valid dir place (last_name path) way.led tag of row no_rows had.file had.there takes.removes
          (dropped_others takes.mid new tag had.file at_mid named gone takes.drops)
          (subst (λ b. IsLeft b had.file (new tag)) (sym stays) (dropped_itself takes.mid new tag had.file at_mid named gone takes.drops));
      role = original.role;
      valid = without-valid slot.tree whole original.valid no_root child_none;
    };
    indexes = taken_index;
  })
    where
      twice : (b : Bool) → not (not b) ≡ b
      twice true = refl
      twice false = refl
