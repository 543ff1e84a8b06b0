-- A shape that is filled twice from the same contents: what both slots show is the same.
use Rattle.std.proofs.Common.{◌≡◌, ◌∙◌, ℕ, true, false, not, is_some, Option, Some, None, IsSomeAnd, unwrap_or, refl, sym, ap}
use Rattle.std.specs.Option.{option_and_then, option_map, option_map_or}
use Rattle.std.specs.FinMap as map
use Rattle.std.specs.Cmp.{nat_cmp_total}
use Rattle.file_release.specs.domain_base.declared.place.Kind.{Kind}
use Rattle.file_release.specs.domain_base.declared.place.Kind.TheVariants as kind
use Rattle.file_release.specs.domain_base.declared.place.Tag.{Tag}
use Rattle.file_release.specs.page_store.Bitfiles.{Bitfile}
use Rattle.name_space.proofs.OfLegalHistories.LooksLemmas.{shown_as}
use Rattle.name_space.specs.fileset_model.LooksLike.{IsShown, Shows}
use Rattle.name_space.specs.fileset_values.Orders.{Path}
use Rattle.name_space.specs.fileset_model.Paths.{is_directory, is_out_of_sync, is_out_of_sync_at, node_at, paths_to}
use Rattle.name_space.specs.fileset_model.declared.fileset.FilesetSlot.{FilesetSlot}
use Rattle.name_space.specs.fileset_model.declared.node.Node.{Node}
use Rattle.name_space.specs.fileset_model.declared.node.Node.TheVariants.{Directory, File}
use Rattle.name_space.specs.Names.{Names, is_directory_kind, led_to, number_of}
use Rattle.domain_layout.specs.Seen.{SeenFile}
use Rattle.domain_layout.specs.Shape.{FilesetShape}
use Rattle.domain_layout.specs.Filled.{Contents, Fills, IsFilled}

-- ---- one file is filled once

same_kind : kind.File ≡ kind.Directory → ⊥
same_kind e = cc

pub filled_once : (contents : Contents) (seen : SeenFile) (node other : Node) → IsFilled contents seen node → IsFilled contents seen other → other ≡ node
filled_once contents seen (File uid gid size logged pages) (File uid' gid' size' logged' pages') is was =
    let all : pages' ≡ pages = map.same_map nat_cmp_total map.nat_cmp-IsAntisymmetric pages' pages (λ q. was.5 q ∙ sym (is.5 q)) in
    let e1 : uid' ≡ uid = sym was.1 ∙ is.1 in
    let e2 : gid' ≡ gid = sym was.2 ∙ is.2 in
    let e3 : size' ≡ size = sym was.3 ∙ is.3 in
    let e4 : logged' ≡ logged = sym was.4 ∙ is.4 in
    λ i. File (e1 i) (e2 i) (e3 i) (e4 i) (all i)
filled_once contents seen (File uid gid size logged pages) (Directory uid' gid') is was = absurd (same_kind (sym is.0 ∙ was.0))
filled_once contents seen (Directory uid gid) (File uid' gid' size' logged' pages') is was = absurd (same_kind (sym was.0 ∙ is.0))
filled_once contents seen (Directory uid gid) (Directory uid' gid') is was =
    let e1 : uid' ≡ uid = sym was.1 ∙ is.1 in
    let e2 : gid' ≡ gid = sym was.2 ∙ is.2 in
    λ i. Directory (e1 i) (e2 i)

-- ---- what each path shows

-- each file that the set of a shape shows is one of the shape's
abbrev pub HasShown : FilesetShape → Type 0
HasShown shape = (tag : Tag) (file : Bitfile) → shape.shown tag ≡ Some file → (seen : SeenFile) × (shape.files tag ≡ Some seen)

abbrev number : Option (Tag × Kind) → Option ℕ
number = option_map (λ (led : Tag × Kind). number_of led.0)

module _ (contents : Contents) (shape : FilesetShape) (slot other : FilesetSlot) (fills : Fills contents shape slot) (also : Fills contents shape other) where
  one_path : (path : Path) → IsShown slot path → IsShown other path → map.get other.tree.paths path ≡ map.get slot.tree.paths path
  one_path path shown shown' = also.names.paths path shown' ∙ sym (fills.names.paths path shown)

  -- at a path that both show
  same_out : (path : Path) → IsShown slot path → IsShown other path → is_out_of_sync_at other path ≡ is_out_of_sync_at slot path
  same_out path shown shown' = by_led (led_to shape.shown path) refl
    where
      by_led : (o : Option (Tag × Kind)) → led_to shape.shown path ≡ o → is_out_of_sync_at other path ≡ is_out_of_sync_at slot path
      by_led None led =
          ap (λ o. option_map_or (is_out_of_sync other.role) o false) (also.names.paths path shown' ∙ ap number led)
          ∙ sym (ap (λ o. option_map_or (is_out_of_sync slot.role) o false) (fills.names.paths path shown ∙ ap number led))
      by_led (Some row) led =
          ap (λ o. option_map_or (is_out_of_sync other.role) o false) (also.names.paths path shown' ∙ ap number led)
          ∙ (also.names.shown path row.0 row.1 shown' led).out
          ∙ sym (fills.names.shown path row.0 row.1 shown led).out
          ∙ sym (ap (λ o. option_map_or (is_out_of_sync slot.role) o false) (fills.names.paths path shown ∙ ap number led))

  -- so what one shows the other does
  pub shown_too : (path : Path) → IsShown slot path → IsShown other path
  shown_too = shown_as slot other same_out

  pub paths_alike : (path : Path) → IsShown slot path → map.get other.tree.paths path ≡ map.get slot.tree.paths path
  paths_alike path shown = one_path path shown (shown_too path shown)

  pub out_alike : (path : Path) → IsShown slot path → is_out_of_sync_at other path ≡ is_out_of_sync_at slot path
  out_alike path shown = same_out path shown (shown_too path shown)

  -- ---- kinds

  kind_there : (tree : FilesetSlot) → Names shape.shown tree → (path : Path) → IsShown tree path → (row : Tag × Kind) → led_to shape.shown path ≡ Some row
      → option_map is_directory (node_at tree.tree path) ≡ Some (is_directory_kind row.1)
  kind_there tree names path shown row led =
      ap (λ o. option_map is_directory (option_and_then (map.get tree.tree.nodes) o)) (names.paths path shown ∙ ap number led)
      ∙ by_node (map.get tree.tree.nodes (number_of row.0)) (names.shown path row.0 row.1 shown led).kind
    where
      by_node : (o : Option Node) → IsSomeAnd o (λ node. is_directory node ≡ is_directory_kind row.1) → option_map is_directory o ≡ Some (is_directory_kind row.1)
      by_node None is = absurd is
      by_node (Some node) is = ap Some is

  no_kind : (tree : FilesetSlot) → Names shape.shown tree → (path : Path) → IsShown tree path → led_to shape.shown path ≡ None → option_map is_directory (node_at tree.tree path) ≡ None
  no_kind tree names path shown led =
      ap (λ o. option_map is_directory (option_and_then (map.get tree.tree.nodes) o)) (names.paths path shown ∙ ap number led)

  pub kinds_alike : (path : Path) → IsShown slot path → option_map is_directory (node_at other.tree path) ≡ option_map is_directory (node_at slot.tree path)
  kinds_alike path shown = by_led (led_to shape.shown path) refl
    where
      by_led : (o : Option (Tag × Kind)) → led_to shape.shown path ≡ o → option_map is_directory (node_at other.tree path) ≡ option_map is_directory (node_at slot.tree path)
      by_led None led = no_kind other also.names path (shown_too path shown) led ∙ sym (no_kind slot fills.names path shown led)
      by_led (Some row) led = kind_there other also.names path (shown_too path shown) row led ∙ sym (kind_there slot fills.names path shown row led)

  -- ---- nodes and links

  -- the tag to which a path leads that is in sync, and its file
  record LeadsTo (path : Path) (n : ℕ) : Type 0 where
    row : Tag × Kind
    led : led_to shape.shown path ≡ Some row
    is : n ≡ number_of row.0
    file : Bitfile
    there : shape.shown row.0 ≡ Some file

  leads : (path : Path) (n : ℕ) → Shows slot path n → LeadsTo path n
  leads path n shows = by_led (led_to shape.shown path) refl
    where
      some_number : (row : Tag × Kind) → led_to shape.shown path ≡ Some row → n ≡ number_of row.0
      some_number row led =
          let e : Some n ≡ Some (number_of row.0) = sym shows.leads ∙ fills.names.paths path shows.shown ∙ ap number led in
          ap (λ o. unwrap_or o n) e

      by_led : (o : Option (Tag × Kind)) → led_to shape.shown path ≡ o → LeadsTo path n
      by_led None led =
          let e : Some n ≡ None = sym shows.leads ∙ fills.names.paths path shows.shown ∙ ap number led in
          absurd (cc)
      by_led (Some row) led = by_file (shape.shown row.0) refl
        where
          out : not (is_some (shape.shown row.0)) ≡ false
          out = sym (fills.names.shown path row.0 row.1 shows.shown led).out ∙ ap (is_out_of_sync slot.role) (sym (some_number row led)) ∙ shows.in_sync

          by_file : (o : Option Bitfile) → shape.shown row.0 ≡ o → LeadsTo path n
          by_file None none =
              let e : true ≡ false = sym (ap (λ o. not (is_some o)) none) ∙ out in
              absurd (cc)
          by_file (Some file) there = record { row = row; led = led; is = some_number row led; file = file; there = there }

  pub links_alike : (path : Path) (n : ℕ) → Shows slot path n → paths_to other.tree n ≡ paths_to slot.tree n
  links_alike path n shows =
      let way = leads path n shows in
      let one = ((fills.names.shown path way.row.0 way.row.1 shows.shown way.led).node way.file way.there).2 in
      let two = ((also.names.shown path way.row.0 way.row.1 (shown_too path shows.shown) way.led).node way.file way.there).2 in
      ap (paths_to other.tree) way.is ∙ sym two ∙ one ∙ sym (ap (paths_to slot.tree) way.is)

  module _ (has : HasShown shape) where
    pub nodes_alike : (path : Path) (n : ℕ) → Shows slot path n → map.get other.tree.nodes n ≡ map.get slot.tree.nodes n
    nodes_alike path n shows =
        let way = leads path n shows in
        let seen = has way.row.0 way.file way.there in
        ap (map.get other.tree.nodes) way.is
        ∙ one seen.0 (map.get other.tree.nodes (number_of way.row.0)) (map.get slot.tree.nodes (number_of way.row.0))
        (also.files path way.row.0 way.row.1 seen.0 (shown_too path shows.shown) way.led seen.1)
        (fills.files path way.row.0 way.row.1 seen.0 shows.shown way.led seen.1)
        ∙ sym (ap (map.get slot.tree.nodes) way.is)
      where
        one : (seen : SeenFile) (a b : Option Node) → IsSomeAnd a (IsFilled contents seen) → IsSomeAnd b (IsFilled contents seen) → a ≡ b
        one seen None b is was = absurd is
        one seen (Some a) None is was = absurd was
        one seen (Some a) (Some b) is was = ap Some (filled_once contents seen b a was is)
