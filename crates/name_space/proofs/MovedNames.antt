-- The names of a set in which a row went to another name or another directory.
use Rattle.std.proofs.Common.{◌≡◌, ◌∙◌, ℕ, true, false, [], ◌∷◌, ◌++◌, Option, Some, None, drop, length, refl, sym, ap, subst}
use Rattle.std.specs.Option.{option_and_then, option_map}
use Rattle.std.specs.FinMap as map
use Rattle.plain_program.specs.domain_base.declared.place.Kind.{Kind}
use Rattle.plain_program.specs.domain_base.declared.place.Kind.TheVariants.{Directory}
use Rattle.plain_program.specs.domain_base.declared.place.Tag.{Tag}
use Rattle.directory_rows.specs.page_store.Bitfiles.{Bitfile, Bitfiles, IsDirectory}
use Rattle.directory_rows.specs.directory_pages.Rows.{found}
use Rattle.directory_rows.specs.Directory.{IsWellFormed, rows_in}
use Rattle.directory_rows.specs.Laws.{IsSameNode}
use Rattle.directory_rows.specs.RowChanges.{AddsRow, RemovesRow}
use Rattle.plain_program.specs.fileset_model.Apply.{moved}
use Rattle.plain_program.specs.fileset_values.Orders.{Name, Path}
use Rattle.plain_program.specs.fileset_model.Paths.{begins_with, paths_to}
use Rattle.plain_program.specs.fileset_model.declared.fileset.FilesetSlot.{FilesetSlot}
use Rattle.plain_program.proofs.OfLegalHistories.ValidLemmas.{from_some_and, to_some_and}
use Rattle.plain_program.proofs.OfLegalHistories.ValidMoveLemmas.{begins}
use Rattle.name_space.specs.Changes.{IsOriginal}
use Rattle.name_space.specs.Names.{IsNodeOf, Names, led_to, number_of}
use Rattle.name_space.proofs.CreatedNames.{led_as}
use Rattle.name_space.proofs.Leads.{led-name}
use Rattle.name_space.proofs.Leaves.{same_node}
use Rattle.name_space.proofs.MovedLeads.{at_from, at_other, at_to, old_free}
use Rattle.name_space.proofs.MovedPaths.{moved_counts, moved_from, moved_other, moved_to}
use Rattle.name_space.proofs.Originals.{IsIn, is_in, number_at, one_way, original_names, path_at}
use Rattle.name_space.proofs.RowFacts.{added_rest, added_row, before, directory_kept, good_kept, removed_none, removed_rest, removed_row, rows_kept, same_twice, still}

module _ (old mid new : Bitfiles) (slot : FilesetSlot) (original : IsOriginal old slot) (from_dir to_dir : Tag) (from_place to_place : Path) (from_name to_name : Name) (tag : Tag) (of : Kind)
    (from_led : led_to old from_place ≡ led_as from_dir Directory) (to_led : led_to old to_place ≡ led_as to_dir Directory)
    (named : found from_name (rows_in old from_dir) ≡ led_as tag of) (free : found to_name (rows_in old to_dir) ≡ None)
    (apart : begins_with (to_place ++ to_name ∷ []) (from_place ++ from_name ∷ []) ≡ false)
    (removes : RemovesRow from_dir from_name old mid) (adds : AddsRow to_dir (record { tag = tag; kind = of; name = to_name }) mid new) where
  abbrev from : Path
  from = from_place ++ from_name ∷ []

  abbrev to : Path
  to = to_place ++ to_name ∷ []

  abbrev after : FilesetSlot
  after = record slot { tree = moved from to slot.tree }

  directory_at : (place : Path) (dir : Tag) → led_to old place ≡ led_as dir Directory → IsDirectory old dir
  directory_at place dir led =
      let had = is_in old slot original.names original.role place dir Directory led in
      to_some_and (λ (f : Bitfile). f.kind ≡ Directory) (old dir) had.file had.there had.kind

  one : (place : Path) (dir : Tag) → led_to old place ≡ led_as dir Directory → (q : Path) (k : Kind) → led_to old q ≡ led_as dir k → q ≡ place
  one place dir led q k also = one_way old slot original.names original.role original.valid place dir led q k also

  from_good : IsWellFormed old from_dir
  from_good = original.names.directories from_dir (directory_at from_place from_dir from_led)

  free_mid : found to_name (rows_in mid to_dir) ≡ None
  free_mid = removed_none old mid from_dir from_name from_good removes to_name to_dir free (λ is same.
      none≢some (sym free ∙ ap (λ n. found n (rows_in old to_dir)) is ∙ ap (λ d. found from_name (rows_in old d)) same ∙ named))
    where
      none≢some : {x : Tag × Kind} → (¬ None ≡ Some x)
      none≢some e = cc

  to_leads : (tail : Path) → led_to new (to ++ tail) ≡ led_to old (from ++ tail)
  to_leads = at_to old mid new from_dir to_dir from_place to_place from_name to_name tag of from_led to_led one named free apart
      (rows_kept old mid from_dir removes.others) (removed_rest old mid from_dir from_name from_good removes) (removed_row old mid from_dir from_name from_good removes)
      (rows_kept mid new to_dir adds.others) (added_rest mid new to_dir _ adds) (added_row mid new to_dir _ adds free_mid)

  other_leads : (q : Path) → begins_with q from ≡ false → begins_with q to ≡ false → led_to new q ≡ led_to old q
  other_leads = at_other old mid new from_dir to_dir from_place to_place from_name to_name tag of from_led to_led one named free apart
      (rows_kept old mid from_dir removes.others) (removed_rest old mid from_dir from_name from_good removes) (removed_row old mid from_dir from_name from_good removes)
      (rows_kept mid new to_dir adds.others) (added_rest mid new to_dir _ adds) (added_row mid new to_dir _ adds free_mid)

  from_leads : (tail : Path) → led_to new (from ++ tail) ≡ None
  from_leads = at_from old mid new from_dir to_dir from_place to_place from_name to_name tag of from_led to_led one named free apart
      (rows_kept old mid from_dir removes.others) (removed_rest old mid from_dir from_name from_good removes) (removed_row old mid from_dir from_name from_good removes)
      (rows_kept mid new to_dir adds.others) (added_rest mid new to_dir _ adds) (added_row mid new to_dir _ adds free_mid)

  to_free : (tail : Path) → led_to old (to ++ tail) ≡ None
  to_free = old_free old mid new from_dir to_dir from_place to_place from_name to_name tag of from_led to_led one named free apart
      (rows_kept old mid from_dir removes.others) (removed_rest old mid from_dir from_name from_good removes) (removed_row old mid from_dir from_name from_good removes)
      (rows_kept mid new to_dir adds.others) (added_rest mid new to_dir _ adds) (added_row mid new to_dir _ adds free_mid)

  -- ---- paths

  abbrev number : Option (Tag × Kind) → Option ℕ
  number led = option_map (λ (led : Tag × Kind). number_of led.0) led

  at_old : (q : Path) → map.get slot.tree.paths q ≡ number (led_to old q)
  at_old q = path_at old slot original.names original.role q

  no_path : (rest : Path) → map.get slot.tree.paths (to ++ rest) ≡ None
  no_path rest = at_old (to ++ rest) ∙ ap number (to_free rest)

  from_path : map.get slot.tree.paths from ≡ Some (number_of tag)
  from_path = number_at old slot original.names original.role from tag of (led-name old from_place from_name ∙ ap (option_and_then (λ (led : Tag × Kind). found from_name (rows_in old led.0))) from_led ∙ named)

  -- where each path leads, and which path led there
  cases : (P : Path → Type 0) → ((rest : Path) → P (to ++ rest)) → ((rest : Path) → P (from ++ rest)) → ((q : Path) → begins_with q from ≡ false → begins_with q to ≡ false → P q) → (q : Path) → P q
  cases P at_to at_from at_other q = elim (begins_with q to) as (λ b. begins_with q to ≡ b → P q) [
    | true ↦ λ is. subst P (sym (begins q to is)) (at_to (drop (length to) q))
    | false ↦ λ no_to. elim (begins_with q from) as (λ b. begins_with q from ≡ b → P q) [
      | true ↦ λ is. subst P (sym (begins q from is)) (at_from (drop (length from) q))
      | false ↦ λ no_from. at_other q no_from no_to
    ] refl
  ] refl

  paths : (q : Path) → map.get after.tree.paths q ≡ number (led_to new q)
  paths = cases (λ q. map.get after.tree.paths q ≡ number (led_to new q))
      (λ rest. moved_to slot.tree.paths from to apart no_path rest ∙ at_old (from ++ rest) ∙ sym (ap number (to_leads rest)))
      (λ rest. moved_from slot.tree.paths from to apart no_path rest ∙ sym (ap number (from_leads rest)))
      (λ q no_from no_to. moved_other slot.tree.paths from to apart no_path q no_from no_to ∙ at_old q ∙ sym (ap number (other_leads q no_from no_to)))

  came_from : (q : Path) (t : Tag) (k : Kind) → led_to new q ≡ led_as t k → (p : Path) × (led_to old p ≡ led_as t k)
  came_from q t k = cases (λ q. led_to new q ≡ led_as t k → (p : Path) × (led_to old p ≡ led_as t k))
      (λ rest led. (from ++ rest, sym (to_leads rest) ∙ led))
      (λ rest led. absurd (none≢some (sym (from_leads rest) ∙ led)))
      (λ q no_from no_to led. (q, sym (other_leads q no_from no_to) ∙ led)) q
    where
      none≢some : {x : Tag × Kind} → (¬ None ≡ Some x)
      none≢some e = cc

  goes_to : (p : Path) (t : Tag) (k : Kind) → led_to old p ≡ led_as t k → (q : Path) × (led_to new q ≡ led_as t k)
  goes_to p t k = cases (λ p. led_to old p ≡ led_as t k → (q : Path) × (led_to new q ≡ led_as t k))
      (λ rest led. absurd (none≢some (sym (to_free rest) ∙ led)))
      (λ rest led. (to ++ rest, to_leads rest ∙ led))
      (λ p no_from no_to led. (p, other_leads p no_from no_to ∙ led)) p
    where
      none≢some : {x : Tag × Kind} → (¬ None ≡ Some x)
      none≢some e = cc

  -- ---- nodes

  counts : (k : ℕ) → paths_to after.tree k ≡ paths_to slot.tree k
  counts k = moved_counts slot.tree.paths from to (number_of tag) from_path apart no_path k

  kept : (t : Tag) (file : Bitfile) → old t ≡ Some file → (now : Bitfile) × (new t ≡ Some now) × IsSameNode now file
  kept t file there =
      let first = still old mid from_dir removes.others t file there in
      let second = still mid new to_dir adds.others t first.0 first.1 in
      (second.0, second.1, same_twice second.0 first.0 file second.2 first.2)

  to_mid : IsDirectory mid to_dir
  to_mid = directory_kept old mid from_dir removes.others to_dir (directory_at to_place to_dir to_led)

  was : (t : Tag) (now : Bitfile) → new t ≡ Some now → (file : Bitfile) × (old t ≡ Some file) × IsSameNode now file
  was t now there =
      let second = before mid new to_dir adds.others to_mid t now there in
      let first = before old mid from_dir removes.others from_good.directory t second.0 second.1 in
      (first.0, first.1, same_twice now second.0 first.0 second.2 first.2)

  each : (q : Path) (t : Tag) (k : Kind) → led_to new q ≡ led_as t k → IsIn new after.tree t k
  each q t k led =
      let at = came_from q t k led in
      let had = is_in old slot original.names original.role at.0 t k at.1 in
      let now = kept t had.file had.there in
      let node = from_some_and (IsNodeOf had.file) (map.get slot.tree.nodes (number_of t)) had.node in
      record {
        file = now.0;
        there = now.1;
        kind = now.2.kind ∙ had.kind;
        node = to_some_and (IsNodeOf now.0) (map.get slot.tree.nodes (number_of t)) node.0 node.1 (same_node now.0 had.file node.0 now.2 node.2);
        links = now.2.links ∙ had.links ∙ sym (counts (number_of t));
      }

  directories : (d : Tag) → IsDirectory new d → IsWellFormed new d
  directories = good_kept mid new to_dir adds.others (good_kept old mid from_dir removes.others original.names.directories removes.good) adds.good

  live : (t : Tag) (now : Bitfile) → new t ≡ Some now → (q : Path) × (led_to new q ≡ led_as t now.kind)
  live t now there =
      let file = was t now there in
      let at = original.names.live original.role t file.0 file.1 in
      goes_to at.0 t now.kind (at.1 ∙ ap (led_as t) (sym file.2.kind))

  pub moved_names : Names new after
  moved_names = original_names new after original.role paths each directories live (λ t now there. let file = was t now there in original.names.seq t file.0 file.1)
