-- What a directory on the way refuses, by what the set has there.
use Rattle.std.proofs.Common.{◌≡◌, ◌∙◌, ℕ, ◌+◌, ◌<◌, ◌≤◌, Bool, true, false, not, cond, is_some, [], ◌∷◌, Option, Some, None, IsSomeAnd, length, length-take, take, get_or, refl, sym, ap, subst, arith}
use Rattle.std.proofs.lemmas.List.{take-take}
use Rattle.std.specs.Option.{option_and_then, option_map, option_map_or}
use Rattle.std.specs.FinMap.{get}
use Rattle.plain_program.specs.domain_base.declared.place.Kind.{Kind}
use Rattle.plain_program.specs.domain_base.declared.place.Kind.TheVariants.{Directory}
use Rattle.plain_program.specs.domain_base.declared.place.Tag.{Tag}
use Rattle.directory_rows.specs.page_store.Bitfiles.{Bitfile, Bitfiles}
use Rattle.plain_program.specs.fileset_model.LooksLike.{IsShown}
use Rattle.directory_rows.specs.directory_pages.Rows.{found}
use Rattle.directory_rows.specs.Directory.{rows_in}
use Rattle.plain_program.specs.fileset_values.Orders.{Name, Path}
use Rattle.plain_program.specs.fileset_model.Paths.{directory_refusal, first_refusal, is_directory, is_out_of_sync, is_out_of_sync_at, refuse_if}
use Rattle.plain_program.specs.fileset_model.declared.fileset.FilesetSlot.{FilesetSlot}
use Rattle.plain_program.specs.fileset_model.declared.node.Node.{Node}
use Rattle.plain_program.specs.fileset_values.declared.reply.Refusal.{Refusal}
use Rattle.plain_program.specs.fileset_values.declared.reply.Refusal.TheVariants.{NoPath, NotDirectory, OutOfSync}
use Rattle.name_space.specs.Names.{Names, is_directory_kind, led_to, number_of, root_tag}
use Rattle.name_space.specs.Walks.{IsClear, IsWayTo}
use Rattle.name_space.proofs.Leads.{led-more}

-- what is refused at a directory of this number
abbrev refusal_with : FilesetSlot → Option ℕ → Option Refusal
refusal_with slot number =
    option_map_or
    (λ node. first_refusal (refuse_if (not (is_directory node)) NotDirectory ∷ refuse_if (option_map_or (is_out_of_sync slot.role) number false) OutOfSync ∷ []))
    (option_and_then (get slot.tree.nodes) number) (Some NoPath)

-- and where a path leads to something of that kind, which the set has or has not
abbrev pub refusal_there : Kind → Option Bitfile → Option Refusal
refusal_there of file =
    cond (is_directory_kind of) (cond (is_some file) None (Some OutOfSync)) (Some NotDirectory)

module _ (files : Bitfiles) (slot : FilesetSlot) (names : Names files slot) where
  -- a path that leads nowhere is refused
  pub refuses_lost : (path : Path) → IsShown slot path → led_to files path ≡ None → directory_refusal slot path ≡ Some NoPath
  refuses_lost path shown lost =
      ap (refusal_with slot) (names.paths path shown ∙ ap (option_map (λ (led : Tag × Kind). number_of led.0)) lost)

  pub refuses_led : (path : Path) (tag : Tag) (of : Kind) → IsShown slot path → led_to files path ≡ Some (tag, of) → directory_refusal slot path ≡ refusal_there of (files tag)
  refuses_led path tag of shown led =
      let there = names.shown path tag of shown led in
      ap (refusal_with slot) (names.paths path shown ∙ ap (option_map (λ (led : Tag × Kind). number_of led.0)) led)
      ∙ by_node (get slot.tree.nodes (number_of tag)) there.kind
      ∙ by_file (is_directory_kind of) (is_some (files tag)) (is_out_of_sync slot.role (number_of tag)) there.out
    where
      by_file : (directory there out : Bool) → out ≡ not there
          → first_refusal (refuse_if (not directory) NotDirectory ∷ refuse_if out OutOfSync ∷ []) ≡ cond directory (cond there None (Some OutOfSync)) (Some NotDirectory)
      by_file true true out is = ap (λ (o : Bool). first_refusal (None ∷ refuse_if o OutOfSync ∷ [])) is
      by_file true false out is = ap (λ (o : Bool). first_refusal (None ∷ refuse_if o OutOfSync ∷ [])) is
      by_file false there out is = refl

      by_node : (o : Option Node) → IsSomeAnd o (λ node. is_directory node ≡ is_directory_kind of)
          → option_map_or (λ node. first_refusal (refuse_if (not (is_directory node)) NotDirectory ∷ refuse_if (is_out_of_sync slot.role (number_of tag)) OutOfSync ∷ [])) o (Some NoPath)
          ≡ first_refusal (refuse_if (not (is_directory_kind of)) NotDirectory ∷ refuse_if (is_out_of_sync slot.role (number_of tag)) OutOfSync ∷ [])
      by_node None kind = absurd kind
      by_node (Some node) kind = ap (λ (d : Bool). first_refusal (refuse_if (not d) NotDirectory ∷ refuse_if (is_out_of_sync slot.role (number_of tag)) OutOfSync ∷ [])) kind

-- a directory that refuses nothing is in sync
pub clear_in_sync : (slot : FilesetSlot) (path : Path) → directory_refusal slot path ≡ None → is_out_of_sync_at slot path ≡ false
clear_in_sync slot path clear = by_node (option_and_then (get slot.tree.nodes) (get slot.tree.paths path)) (is_out_of_sync_at slot path) clear
  where
    by_flags : (directory out : Bool) → first_refusal (refuse_if (not directory) NotDirectory ∷ refuse_if out OutOfSync ∷ []) ≡ None → out ≡ false
    by_flags directory false none = refl
    by_flags true true none = cc
    by_flags false true none = cc

    by_node : (o : Option Node) (out : Bool) → option_map_or (λ node. first_refusal (refuse_if (not (is_directory node)) NotDirectory ∷ refuse_if out OutOfSync ∷ [])) o (Some NoPath) ≡ None → out ≡ false
    by_node None out none = cc
    by_node (Some node) out none = by_flags (is_directory node) out none

-- the next directory of a path is shown if none before it refuses a look
pub next_shown : (slot : FilesetSlot) (path : Path) (count : ℕ) → IsClear slot path count → IsShown slot (take (count + 1) path)
next_shown slot path count clear before lt =
    let low : before ≤ count = omega (arith, lt, length-take (count + 1) path) in
    ap (is_out_of_sync_at slot) (take-take before (count + 1) path (omega (arith, low)))
    ∙ clear_in_sync slot (take before path) (clear before low)

module _ (files : Bitfiles) (slot : FilesetSlot) (names : Names files slot) (path : Path) (count : ℕ) (dir : Tag) (name : Name) (within : count < length path) (way : IsWayTo files path count dir)
    (is : name ≡ get_or path count name) (clear : IsClear slot path count) where
  led : led_to files (take (count + 1) path) ≡ found name (rows_in files dir)
  led =
      led-more files path count name within
      ∙ ap (option_and_then (λ (led : Tag × Kind). found (get_or path count name) (rows_in files led.0))) way.led
      ∙ ap (λ n. found n (rows_in files dir)) (sym is)

  pub next_lost : found name (rows_in files dir) ≡ None → directory_refusal slot (take (count + 1) path) ≡ Some NoPath
  next_lost none = refuses_lost files slot names (take (count + 1) path) (next_shown slot path count clear) (led ∙ none)

  pub next_led : (tag : Tag) (of : Kind) → found name (rows_in files dir) ≡ Some (tag, of) → directory_refusal slot (take (count + 1) path) ≡ refusal_there of (files tag)
  next_led tag of row = refuses_led files slot names (take (count + 1) path) tag of (next_shown slot path count clear) (led ∙ row)

  pub next_way : (tag : Tag) (file : Bitfile) → found name (rows_in files dir) ≡ Some (tag, Directory) → files tag ≡ Some file → IsWayTo files path (count + 1) tag
  next_way tag file row there = record {
    led = led ∙ row;
    there = subst (λ (o : Option Bitfile). IsSomeAnd o (λ file. file.kind ≡ Directory)) (sym there)
        ((names.shown (take (count + 1) path) tag Directory (next_shown slot path count clear) (led ∙ row)).node file there).0;
  }

-- the root is shown
pub root_shown : (slot : FilesetSlot) → IsShown slot []
root_shown slot count lt = absurd (omega (arith, lt))

module _ (files : Bitfiles) (slot : FilesetSlot) (names : Names files slot) where
  pub root_refusal : directory_refusal slot [] ≡ refusal_there Directory (files root_tag)
  root_refusal = refuses_led files slot names [] root_tag Directory (root_shown slot) refl

  pub root_way : (path : Path) (file : Bitfile) → files root_tag ≡ Some file → IsWayTo files path 0 root_tag
  root_way path file there = record {
    led = refl;
    there = subst (λ (o : Option Bitfile). IsSomeAnd o (λ file. file.kind ≡ Directory)) (sym there)
        ((names.shown [] root_tag Directory (root_shown slot) refl).node file there).0;
  }

-- what the set has at a tag, if it tells the kind there, and if it tells none
pub has_kind : (o : Option Bitfile) (of : Kind) → option_map (λ (file : Bitfile). file.kind) o ≡ Some of → (file : Bitfile) × (o ≡ Some file)
has_kind None of is = cc
has_kind (Some file) of is = (file, refl)

pub has_none : (o : Option Bitfile) → option_map (λ (file : Bitfile). file.kind) o ≡ None → o ≡ None
has_none None is = refl
has_none (Some file) is = cc
