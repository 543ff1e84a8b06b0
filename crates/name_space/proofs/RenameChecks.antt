-- What is refused of a rename both of whose paths were looked at.
use Rattle.std.proofs.Common.{◌≡◌, ◌≢◌, ◌∙◌, ◌==◌, ◌||◌, ℕ, Bool, true, false, cond, is_some, [], ◌∷◌, Option, Some, None, Result, Ok, Err, OnOk, if◌then◌else◌, refl, sym, ap, eqb-true, true≢false}
use Rattle.std.proofs.lemmas.Bool.{eq-eqb}
use Rattle.std.specs.Cmp.{Equal-is}
use Rattle.std.specs.Cmp.Lexicographic.{lists_ties, texts_ties}
use Rattle.std.specs.Option.{option_and_then, option_map, option_map_or}
use Rattle.std.specs.FinMap as map
use Rattle.plain_program.specs.domain_base.declared.place.Kind.{Kind}
use Rattle.plain_program.specs.domain_base.declared.place.Kind.TheVariants as kinds
use Rattle.plain_program.specs.domain_base.declared.place.Tag.{Tag}
use Rattle.directory_rows.specs.page_store.Bitfiles.{Bitfiles}
use Rattle.directory_rows.specs.directory_pages.Rows.{found}
use Rattle.directory_rows.specs.Directory.{rows_in}
use Rattle.plain_program.specs.fileset_model.Apply.{is_clone, move_checks, rename_checks, replace_checks}
use Rattle.plain_program.specs.fileset_values.Orders.{Path, name_cmp, path_cmp, path_cmp-IsAntisymmetric}
use Rattle.plain_program.specs.fileset_model.Paths.{begins_with, first_refusal, is_directory, names_one, node_at, refuse_if, same_path, target_refusal, walk_refusal}
use Rattle.plain_program.specs.fileset_model.declared.fileset.FilesetSlot.{FilesetSlot}
use Rattle.plain_program.specs.fileset_model.declared.node.Node.{Node}
use Rattle.plain_program.specs.fileset_values.declared.reply.Refusal.{Refusal}
use Rattle.plain_program.specs.fileset_values.declared.reply.Refusal.TheVariants.{IntoItself, ReadOnly}
use Rattle.plain_program.proofs.OfLegalHistories.ValidLemmas.{passed, passed_test, some_inj}
use Rattle.name_space.specs.Changes.{AreLooked, IsOriginal, last_name, leaf_checks, target_checks}
use Rattle.name_space.specs.Names.{is_directory_kind, led_to, number_of}
use Rattle.name_space.specs.declared.spot.Spot.{Spot}
use Rattle.name_space.proofs.Originals.{is_in, number_at, one_tag, path_at}
use Rattle.plain_program.specs.Stops.{Refuses}
use Rattle.name_space.proofs.Spots.{directory_is, led_path, refused_more}

same_of : (p q : Path) → same_path p q ≡ true → p ≡ q
same_of p q same = path_cmp-IsAntisymmetric p q ((Equal-is (path_cmp p q)).0 (sym (lists_ties name_cmp texts_ties p q) ∙ same))

-- the refusals of three checks that pass, and of one
by_last : (a b c d : Option Refusal) → a ≡ None → b ≡ None → c ≡ None → first_refusal (a ∷ b ∷ c ∷ d ∷ []) ≡ d
by_last a b c d none_a none_b none_c =
    ap (λ (r : Option Refusal). first_refusal (r ∷ b ∷ c ∷ d ∷ [])) none_a
    ∙ ap (λ (r : Option Refusal). first_refusal (None ∷ r ∷ c ∷ d ∷ [])) none_b
    ∙ ap (λ (r : Option Refusal). first_refusal (None ∷ None ∷ r ∷ d ∷ [])) none_c
    ∙ alone d
  where
    alone : (r : Option Refusal) → first_refusal (r ∷ []) ≡ r
    alone None = refl
    alone (Some refusal) = refl

pub one_check : (r : Option Refusal) → first_refusal (r ∷ []) ≡ r
one_check None = refl
one_check (Some refusal) = refl

pub writable : (slot : FilesetSlot) → (files : Bitfiles) → IsOriginal files slot → refuse_if (is_clone slot.role) ReadOnly ≡ None
writable slot files original = ap (λ r. refuse_if (is_clone r) ReadOnly) original.role

module _ (files : Bitfiles) (path to : Path) (spot : Spot) (dir : Tag) (looked : AreLooked path to spot dir files) (slot : FilesetSlot) (original : IsOriginal files slot) where
  pub target_passes : target_refusal slot path ≡ None
  target_passes = sym (one_check (target_refusal slot path)) ∙ (looked.spot_is slot original).0

  pub walk_passes : walk_refusal slot to ≡ None
  walk_passes = (looked.dir_is slot original).0

  pub from_led : led_to files path ≡ Some (spot.tag, spot.kind)
  from_led = let at = looked.spot_is slot original in led_path files path looked.some spot.dir at.1 ∙ at.2

  pub to_led : led_to files to ≡ found (last_name to) (rows_in files dir)
  to_led = led_path files to looked.some_to dir (looked.dir_is slot original).1

  pub from_number : map.get slot.tree.paths path ≡ Some (number_of spot.tag)
  from_number = number_at files slot original.names original.role path spot.tag spot.kind from_led

  to_number : map.get slot.tree.paths to ≡ option_map (λ (led : Tag × Kind). number_of led.0) (found (last_name to) (rows_in files dir))
  to_number = path_at files slot original.names original.role to ∙ ap (option_map (λ (led : Tag × Kind). number_of led.0)) to_led

  pub kind_is : option_map is_directory (node_at slot.tree path) ≡ Some (is_directory_kind spot.kind)
  kind_is = by_node (node_at slot.tree path) there (directory_is files slot original path spot.tag spot.kind from_led)
    where
      there : is_some (node_at slot.tree path) ≡ true
      there = ap (λ o. is_some (option_and_then (map.get slot.tree.nodes) o)) from_number ∙ original.valid.led_to path (number_of spot.tag) from_number

      by_node : (o : Option Node) → is_some o ≡ true → option_map_or is_directory o false ≡ is_directory_kind spot.kind → option_map is_directory o ≡ Some (is_directory_kind spot.kind)
      by_node None some is = absurd (true≢false (sym some))
      by_node (Some node) some is = ap Some is

  -- the checks after the looks
  pub looked_checks : first_refusal (rename_checks path to slot) ≡ cond (names_one slot.tree path to) None (first_refusal (move_checks path to slot))
  looked_checks = by_last _ _ _ _ (writable slot files original) target_passes walk_passes

  pub move_replaces : begins_with to path ≡ false → first_refusal (move_checks path to slot) ≡ cond (map.contains_key slot.tree.paths to) (first_refusal (replace_checks path to slot)) None
  move_replaces other = ap (λ b. first_refusal (refuse_if b IntoItself ∷ cond (map.contains_key slot.tree.paths to) (first_refusal (replace_checks path to slot)) None ∷ [])) other ∙ one_check _

  pub move_into_itself : begins_with to path ≡ true → first_refusal (move_checks path to slot) ≡ Some IntoItself
  move_into_itself is = ap (λ b. first_refusal (refuse_if b IntoItself ∷ cond (map.contains_key slot.tree.paths to) (first_refusal (replace_checks path to slot)) None ∷ [])) is

  -- ---- a path at which nothing stands

  module _ (free : found (last_name to) (rows_in files dir) ≡ None) where
    pub to_free : map.get slot.tree.paths to ≡ None
    to_free = to_number ∙ ap (option_map (λ (led : Tag × Kind). number_of led.0)) free

    pub free_not_one : names_one slot.tree path to ≡ false
    free_not_one =
        ap (λ o. same_path path to || option_map_or (λ number. option_map_or (λ n. n == number) (map.get slot.tree.paths to) false) o false) from_number
        ∙ ap (λ o. same_path path to || option_map_or (λ n. n == number_of spot.tag) o false) to_free
        ∙ elim (same_path path to) as (λ b. same_path path to ≡ b → (b || false) ≡ false) [
          | true ↦ λ same. absurd (none≢some (sym to_free ∙ ap (map.get slot.tree.paths) (sym (same_of path to same)) ∙ from_number))
          | false ↦ λ other. refl
        ] refl
      where
        none≢some : {n : ℕ} → (¬ None ≡ Some n)
        none≢some e = cc

    pub free_checks_are : begins_with to path ≡ false → first_refusal (rename_checks path to slot) ≡ None
    free_checks_are other =
        looked_checks ∙ ap (λ b. cond b None (first_refusal (move_checks path to slot))) free_not_one
        ∙ move_replaces other ∙ ap (λ (o : Option ℕ). cond (is_some o) (first_refusal (replace_checks path to slot)) None) to_free

    pub free_into_itself : begins_with to path ≡ true → first_refusal (rename_checks path to slot) ≡ Some IntoItself
    free_into_itself is =
        looked_checks ∙ ap (λ b. cond b None (first_refusal (move_checks path to slot))) free_not_one ∙ move_into_itself is

  -- ---- a path at which something stands

  module _ (tag : Tag) (of : Kind) (taken : found (last_name to) (rows_in files dir) ≡ Some (tag, of)) where
    pub taken_led : led_to files to ≡ Some (tag, of)
    taken_led = to_led ∙ taken

    pub taken_number : map.get slot.tree.paths to ≡ Some (number_of tag)
    taken_number = to_number ∙ ap (option_map (λ (led : Tag × Kind). number_of led.0)) taken

    one_is : names_one slot.tree path to ≡ (same_path path to || (number_of tag == number_of spot.tag))
    one_is =
        ap (λ o. same_path path to || option_map_or (λ number. option_map_or (λ n. n == number) (map.get slot.tree.paths to) false) o false) from_number
        ∙ ap (λ o. same_path path to || option_map_or (λ n. n == number_of spot.tag) o false) taken_number

    pub taken_one : tag ≡ spot.tag → names_one slot.tree path to ≡ true
    taken_one same = one_is ∙ either (same_path path to) (number_of tag == number_of spot.tag) (eq-eqb (number_of tag) (number_of spot.tag) (ap number_of same))
      where
        either : (a b : Bool) → b ≡ true → (a || b) ≡ true
        either true b is = refl
        either false b is = is

    numbers_differ : tag ≢ spot.tag → number_of tag ≢ number_of spot.tag
    numbers_differ apart same =
        let moved = is_in files slot original.names original.role path spot.tag spot.kind from_led in
        let there = is_in files slot original.names original.role to tag of taken_led in
        apart (one_tag tag spot.tag (original.names.seq tag there.file there.there) (original.names.seq spot.tag moved.file moved.there) same)

    pub taken_not_one : tag ≢ spot.tag → names_one slot.tree path to ≡ false
    taken_not_one apart = one_is ∙ neither (same_path path to) (number_of tag == number_of spot.tag) refl refl
      where
        neither : (a b : Bool) → same_path path to ≡ a → (number_of tag == number_of spot.tag) ≡ b → (a || b) ≡ false
        neither true b same is = absurd (numbers_differ apart (some_inj (sym taken_number ∙ ap (map.get slot.tree.paths) (sym (same_of path to same)) ∙ from_number)))
        neither false true same is = absurd (numbers_differ apart (eqb-true (number_of tag) (number_of spot.tag) is))
        neither false false same is = refl

    pub one_checks_are : tag ≡ spot.tag → first_refusal (rename_checks path to slot) ≡ None
    one_checks_are same = looked_checks ∙ ap (λ b. cond b None (first_refusal (move_checks path to slot))) (taken_one same)

    pub two_checks_are : tag ≢ spot.tag → first_refusal (rename_checks path to slot) ≡ first_refusal (move_checks path to slot)
    two_checks_are apart = looked_checks ∙ ap (λ b. cond b None (first_refusal (move_checks path to slot))) (taken_not_one apart)

    -- what is refused of what stands there
    pub replaced_checks : begins_with to path ≡ false → first_refusal (move_checks path to slot) ≡ first_refusal (leaf_checks spot.kind to slot)
    replaced_checks other =
        move_replaces other
        ∙ ap (λ (o : Option ℕ). cond (is_some o) (first_refusal (replace_checks path to slot)) None) taken_number
        ∙ by_kind spot.kind (directory_is files slot original path spot.tag spot.kind from_led)
      where
        by_kind : (k : Kind) → option_map_or is_directory (node_at slot.tree path) false ≡ is_directory_kind k → first_refusal (replace_checks path to slot) ≡ first_refusal (leaf_checks k to slot)
        by_kind kinds.File is = ap (λ b. first_refusal (cond b (leaf_checks kinds.Directory to slot) (leaf_checks kinds.File to slot))) is
        by_kind kinds.Directory is = ap (λ b. first_refusal (cond b (leaf_checks kinds.Directory to slot) (leaf_checks kinds.File to slot))) is

-- ---- tests of the code

-- whether a path begins with another, looked up in slices of both
pub begins_is : (a b path to : Path) (answer flag : Bool) → answer ≡ begins_with a b → a ≡ to → b ≡ path → answer ≡ flag → begins_with to path ≡ flag
begins_is a b path to answer flag value same_to same is = ap (λ p. begins_with p path) (sym same_to) ∙ ap (begins_with a) (sym same) ∙ sym value ∙ is

pub move_beside : (slot : FilesetSlot) (path to : Path) → first_refusal (move_checks path to slot) ≡ None → begins_with to path ≡ false
move_beside slot path to none =
    passed_test (begins_with to path) IntoItself
    (passed (refuse_if (begins_with to path) IntoItself) ((if map.contains_key slot.tree.paths to then first_refusal (replace_checks path to slot) else None) ∷ []) none).0

-- what holds where a check passes
pub on_passed : {T P : Type 0} (refusal : Option Refusal) (result : Result T Refusal) → Refuses refusal result → (refusal ≡ None → P) → OnOk result P
on_passed refusal (Ok value) is then_so = then_so is
on_passed refusal (Err why) is then_so = tt

abbrev behind_looks : FilesetSlot → Path → Path → Option Refusal
behind_looks slot path to = if names_one slot.tree path to then None else first_refusal (move_checks path to slot)

-- a way to the second path that is refused
pub way_refused : (files : Bitfiles) (slot : FilesetSlot) → IsOriginal files slot → (path to : Path) (refusal : Refusal) → first_refusal (target_checks path slot) ≡ None → walk_refusal slot to ≡ Some refusal
    → first_refusal (rename_checks path to slot) ≡ Some refusal
way_refused files slot original path to refusal target is =
    ap (λ (r : Option Refusal). first_refusal (r ∷ target_refusal slot path ∷ walk_refusal slot to ∷ behind_looks slot path to ∷ [])) (writable slot files original)
    ∙ ap (λ (r : Option Refusal). first_refusal (None ∷ r ∷ walk_refusal slot to ∷ behind_looks slot path to ∷ [])) (sym (one_check (target_refusal slot path)) ∙ target)
    ∙ ap (λ (r : Option Refusal). first_refusal (None ∷ None ∷ r ∷ behind_looks slot path to ∷ [])) is

-- what is refused of the first path
pub first_refused : (files : Bitfiles) (slot : FilesetSlot) → IsOriginal files slot → (path to : Path) (refusal : Refusal) → first_refusal (target_checks path slot) ≡ Some refusal → first_refusal (rename_checks path to slot) ≡ Some refusal
first_refused files slot original path to refusal is =
    ap (λ (r : Option Refusal). first_refusal (r ∷ target_refusal slot path ∷ walk_refusal slot to ∷ behind_looks slot path to ∷ [])) (writable slot files original)
    ∙ refused_more (target_refusal slot path ∷ []) (walk_refusal slot to ∷ behind_looks slot path to ∷ []) refusal is
