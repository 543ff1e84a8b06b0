-- One path more or less, below which there is nothing.
use Rattle.std.proofs.Common.{◌≡◌, ◌≢◌, ◌⊎◌, ◌∙◌, ◌^◌, ◌<◌, true, false, cond, List, [], ◌∷◌, ◌++◌, Option, Some, None, drop, length, append_assoc, inl, inr, refl, sym, ap, true≢false}
use Rattle.std.proofs.lemmas.List.{append_cancel_left}
use Rattle.std.specs.Option.{option_and_then, option_map}
use Rattle.std.specs.FinMap.{get}
use Rattle.plain_program.specs.domain_base.declared.place.Kind.{Kind}
use Rattle.plain_program.specs.domain_base.declared.place.Kind.TheVariants.{Directory}
use Rattle.plain_program.specs.domain_base.declared.place.Tag.{Tag}
use Rattle.directory_rows.specs.page_store.Bitfiles.{Bitfile, Bitfiles, IsDirectory, same_tag}
use Rattle.directory_rows.specs.directory_pages.declared.row.Row.{Row}
use Rattle.directory_rows.specs.directory_pages.Rows.{found, has_name}
use Rattle.directory_rows.proofs.OfDirectoryPages.Places.{is_named_so, named_is}
use Rattle.directory_rows.specs.Directory.{IsWellFormed, rows_in}
use Rattle.directory_rows.specs.Laws.{IsSameNode}
use Rattle.plain_program.specs.fileset_values.Orders.{Name, Path}
use Rattle.plain_program.specs.fileset_model.Paths.{begins_with}
use Rattle.plain_program.specs.fileset_model.declared.fileset.FilesetSlot.{FilesetSlot}
use Rattle.plain_program.specs.fileset_model.declared.fileset.Role.TheVariants.{Original}
use Rattle.plain_program.specs.fileset_model.declared.node.Node.{Node}
use Rattle.plain_program.specs.fileset_model.declared.node.Node.TheVariants.{File, Directory as DirectoryNode}
use Rattle.plain_program.proofs.OfLegalHistories.ValidMoveLemmas.{begins, begins_of}
use Rattle.name_space.specs.Names.{IsNodeOf, Names, led_from, led_to, number_of, root_tag}
use Rattle.name_space.proofs.Leads.{led-append}
use Rattle.name_space.proofs.Originals.{IsIn, original_names, path_at}
use Rattle.name_space.proofs.RowChanged.{led_below, led_elsewhere}

-- a path leads to this now, and all others lead where they led
abbrev pub LeafAt : Bitfiles → Bitfiles → Path → Option (Tag × Kind) → Type 0
LeafAt old new path leaf = (q : Path) → ((q ≡ path) × (led_to new q ≡ leaf)) ⊎ ((q ≢ path) × (led_to new q ≡ led_to old q))

module _ (old new : Bitfiles) (dir : Tag) (place : Path) (name : Name) (led : led_to old place ≡ Some (dir, Directory))
    (one : (q : Path) (of : Kind) → led_to old q ≡ Some (dir, of) → q ≡ place)
    (others : (t : Tag) → same_tag t dir ≡ false → rows_in new t ≡ rows_in old t)
    (rest : (n : Name) → n ≢ name → found n (rows_in new dir) ≡ found n (rows_in old dir))
    (leaf : Option (Tag × Kind)) (is : found name (rows_in new dir) ≡ leaf)
    (none_new : (next : Name) (tail : Path) → option_and_then (λ row. led_from new row (next ∷ tail)) leaf ≡ None)
    (none_old : (next : Name) (tail : Path) → option_and_then (λ row. led_from old row (next ∷ tail)) (found name (rows_in old dir)) ≡ None) where
  abbrev path : Path
  path = place ++ name ∷ []

  led_old : (tail : Path) → led_to old (place ++ name ∷ tail) ≡ option_and_then (λ row. led_from old row tail) (found name (rows_in old dir))
  led_old tail =
      led-append old (root_tag, Directory) place (name ∷ tail)
      ∙ ap (option_and_then (λ (led : Tag × Kind). led_from old led (name ∷ tail))) led

  led_new : (tail : Path) → led_to new (place ++ name ∷ tail) ≡ option_and_then (λ row. led_from new row tail) leaf
  led_new tail = led_below old new dir place name led one others rest tail ∙ ap (option_and_then (λ row. led_from new row tail)) is

  itself : (o : Option (Tag × Kind)) → option_and_then (λ row. led_from new row []) o ≡ o
  itself None = refl
  itself (Some row) = refl

  longer : (next : Name) (tail : Path) → place ++ name ∷ next ∷ tail ≢ path
  longer next tail e = no_more (append_cancel_left place (name ∷ next ∷ tail) (name ∷ []) e)
    where
      no_more : (¬ name ∷ next ∷ tail ≡ name ∷ [])
      no_more e = let bad : next ∷ tail ≡ [] = ap (drop 1) e in absurd (cc)

  at_tail : (q tail : Path) → q ≡ place ++ name ∷ tail → ((q ≡ path) × (led_to new q ≡ leaf)) ⊎ ((q ≢ path) × (led_to new q ≡ led_to old q))
  at_tail q [] e = inl (e, ap (led_to new) e ∙ led_new [] ∙ itself leaf)
  at_tail q (next ∷ tail) e = inr (
    (λ same. longer next tail (sym e ∙ same)),
    ap (led_to new) e ∙ led_new (next ∷ tail) ∙ none_new next tail ∙ sym (ap (led_to old) e ∙ led_old (next ∷ tail) ∙ none_old next tail),
  )

  apart : (q tail : Path) → begins_with q path ≡ false → q ≢ place ++ name ∷ tail
  apart q tail other e = true≢false (sym (begins_of q path tail (e ∙ sym (append_assoc place (name ∷ []) tail))) ∙ other)

  pub leaf_changed : LeafAt old new path leaf
  leaf_changed q = elim (begins_with q path) as (λ b. begins_with q path ≡ b → ((q ≡ path) × (led_to new q ≡ leaf)) ⊎ ((q ≢ path) × (led_to new q ≡ led_to old q))) [
    | true ↦ λ front. at_tail q (drop (length path) q) (begins q path front ∙ append_assoc place (name ∷ []) (drop (length path) q))
    | false ↦ λ other. inr (apart q [] other, led_elsewhere old new dir place name led one others rest q (λ tail. apart q tail other))
  ] refl

-- ---- the fileset that it makes

module _ (old new : Bitfiles) (slot after : FilesetSlot) (names : Names old slot) (role : slot.role ≡ Original) (same_role : after.role ≡ slot.role) (path : Path) (leaf : Option (Tag × Kind))
    (leads : LeafAt old new path leaf)
    (path_new : get after.tree.paths path ≡ option_map (λ (led : Tag × Kind). number_of led.0) leaf)
    (path_old : (q : Path) → q ≢ path → get after.tree.paths q ≡ get slot.tree.paths q)
    (in_new : (tag : Tag) (of : Kind) → leaf ≡ Some (tag, of) → IsIn new after.tree tag of)
    (in_old : (q : Path) (tag : Tag) (of : Kind) → q ≢ path → led_to old q ≡ Some (tag, of) → IsIn new after.tree tag of)
    (directories : (dir : Tag) → IsDirectory new dir → IsWellFormed new dir)
    (live : (tag : Tag) (now : Bitfile) → new tag ≡ Some now → (leaf ≡ Some (tag, now.kind)) ⊎ ((q : Path) × (q ≢ path) × (led_to old q ≡ Some (tag, now.kind))))
    (seq : (tag : Tag) (now : Bitfile) → new tag ≡ Some now → tag.seq < 2 ^ 16) where
  new_path : led_to new path ≡ leaf
  new_path = elim (leads path) as (λ _. led_to new path ≡ leaf) [
    | inl here ↦ here.1
    | inr other ↦ absurd (other.0 refl)
  ]

  old_path : (q : Path) → q ≢ path → led_to new q ≡ led_to old q
  old_path q differs = elim (leads q) as (λ _. led_to new q ≡ led_to old q) [
    | inl here ↦ absurd (differs here.0)
    | inr other ↦ other.1
  ]

  pub leaf_names : Names new after
  leaf_names = original_names new after (same_role ∙ role)
      (λ q. elim (leads q) as (λ _. get after.tree.paths q ≡ option_map (λ (led : Tag × Kind). number_of led.0) (led_to new q)) [
        | inl here ↦ ap (get after.tree.paths) here.0 ∙ path_new ∙ sym (ap (option_map (λ (led : Tag × Kind). number_of led.0)) here.1)
        | inr other ↦ path_old q other.0 ∙ path_at old slot names role q ∙ sym (ap (option_map (λ (led : Tag × Kind). number_of led.0)) other.1)
      ])
      (λ q tag of led. elim (leads q) as (λ _. IsIn new after.tree tag of) [
        | inl here ↦ in_new tag of (sym here.1 ∙ led)
        | inr other ↦ in_old q tag of other.0 (sym other.1 ∙ led)
      ])
      directories
      (λ tag now there. elim (live tag now there) as (λ _. (q : Path) × (led_to new q ≡ Some (tag, now.kind))) [
        | inl here ↦ (path, new_path ∙ here)
        | inr other ↦ (other.0, old_path other.0 other.1 ∙ other.2)
      ])
      seq

-- ---- nodes and rows

pub same_node : (now file : Bitfile) (node : Node) → IsSameNode now file → IsNodeOf file node → IsNodeOf now node
same_node now file (File uid gid size logged pages) same is = (same.kind ∙ is.0, same.uid ∙ is.1, same.gid ∙ is.2)
same_node now file (DirectoryNode uid gid) same is = (same.kind ∙ is.0, same.uid ∙ is.1, same.gid ∙ is.2)

-- a row of another name hides none
pub found_past : (n : Name) (front : List Row) (row : Row) (back : List Row) → n ≢ row.name → found n (front ++ row ∷ back) ≡ found n (front ++ back)
found_past n [] row back other = elim (has_name n row) as (λ b. has_name n row ≡ b → cond b (Some (row.tag, row.kind)) (found n back) ≡ found n back) [
  | true ↦ λ same. absurd (other (sym (named_is n row same)))
  | false ↦ λ differs. refl
] refl
found_past n (r ∷ front) row back other = ap (λ o. cond (has_name n r) (Some (r.tag, r.kind)) o) (found_past n front row back other)

-- a row is found by its name where no other has it
pub found_new : (front : List Row) (row : Row) (back : List Row) → found row.name (front ++ back) ≡ None → found row.name (front ++ row ∷ back) ≡ Some (row.tag, row.kind)
found_new [] row back none = ap (λ b. cond b (Some (row.tag, row.kind)) (found row.name back)) (is_named_so row.name row refl)
found_new (r ∷ front) row back none = elim (has_name row.name r) as (λ b. cond b (Some (r.tag, r.kind)) (found row.name (front ++ back)) ≡ None → cond b (Some (r.tag, r.kind)) (found row.name (front ++ row ∷ back)) ≡ Some (row.tag, row.kind)) [
  | true ↦ λ is. absurd cc
  | false ↦ λ is. found_new front row back is
] none
