-- The root directory alone has the names of an empty fileset.
use Rattle.std.proofs.Common.{◌≡◌, ◌∙◌, ℕ, ◌^◌, ◌<◌, false, cond, [], ◌∷◌, Option, Some, None, IsSomeAnd, refl, sym, ap, subst, arith}
use Rattle.std.specs.Cmp.{nat_cmp_total}
use Rattle.std.specs.Option.{option_map}
use Rattle.std.specs.FinMap as map
use Rattle.plain_program.specs.domain_base.declared.place.Kind.{Kind}
use Rattle.plain_program.specs.domain_base.declared.place.Kind.TheVariants.{Directory}
use Rattle.plain_program.specs.domain_base.declared.place.Tag.{Tag}
use Rattle.directory_rows.specs.page_store.Bitfiles.{Bitfile, Bitfiles, IsDirectory, new_file, same_tag}
use Rattle.directory_rows.specs.Directory.{IsWellFormed}
use Rattle.directory_rows.proofs.Outside.{empty_is_well_formed_lem}
use Rattle.plain_program.specs.fileset_model.Apply.{empty_fileset}
use Rattle.plain_program.specs.fileset_model.Fileset.{Fileset}
use Rattle.plain_program.specs.fileset_values.Orders.{Path, path_cmp, path_cmp-total, path_cmp-IsAntisymmetric}
use Rattle.plain_program.specs.fileset_model.Paths.{paths_to}
use Rattle.plain_program.specs.fileset_model.declared.fileset.FilesetSlot.{FilesetSlot}
use Rattle.plain_program.specs.fileset_model.declared.fileset.Role.TheVariants.{Original}
use Rattle.plain_program.specs.fileset_model.declared.node.Node.TheVariants.{Directory as DirectoryNode}
use Rattle.plain_program.proofs.OfFilesetValues.MapLemmas.{get-insert_other, get-insert_same}
use Rattle.plain_program.proofs.OfFilesetModel.MoveLemmas.{entries-empty}
use Rattle.plain_program.proofs.OfLegalHistories.ValidLemmas.{some_inj, to_some_and}
use Rattle.plain_program.proofs.OfLegalHistories.ValidTreeLemmas.{empty_fileset-valid}
use Rattle.name_space.specs.Changes.{IsOriginal}
use Rattle.name_space.specs.Laws.{RootIsOriginal}
use Rattle.name_space.specs.Names.{IsNodeOf, led_to, number_of, root_tag}
use Rattle.name_space.proofs.CreatedNames.{by_tag, led_as}
use Rattle.name_space.proofs.Originals.{IsIn, original_names}
use Rattle.name_space.proofs.PathCounts.{count-new, count_of}

abbrev root_alone : Bitfiles
root_alone tag = cond (same_tag tag root_tag) (Some (new_file Directory 0 0)) None

abbrev root_number : ℕ
root_number = number_of root_tag

abbrev tree : Fileset
tree = empty_fileset root_number

abbrev slot : FilesetSlot
slot = record { tree = tree; role = Original }

none≢some : {X : Type 0} {x : X} → (¬ None ≡ Some x)
none≢some e = cc

at_root : (t : Tag) → same_tag t root_tag ≡ false → root_alone t ≡ None
at_root t other = ap (λ b. cond b (Some (new_file Directory 0 0)) None) other

paths : (path : Path) → map.get tree.paths path ≡ option_map (λ (led : Tag × Kind). number_of led.0) (led_to root_alone path)
paths [] = get-insert_same path_cmp-total path_cmp-IsAntisymmetric map.empty [] root_number
paths (name ∷ path) = get-insert_other path_cmp-total path_cmp-IsAntisymmetric map.empty [] root_number (name ∷ path) (λ e. cc) ∙ map.get-empty path_cmp (name ∷ path)

one_path : paths_to tree root_number ≡ 1
one_path =
    let more = count-new map.empty [] root_number root_number (map.get-empty path_cmp []) in
    let none : count_of root_number (map.entries (map.empty {X = ℕ} {R = path_cmp})) ≡ 0 = ap (count_of root_number) (entries-empty path_cmp) in
    omega (arith, more, none)

root_in : IsIn root_alone tree root_tag Directory
root_in = record {
  file = new_file Directory 0 0;
  there = refl;
  kind = refl;
  node = to_some_and (IsNodeOf (new_file Directory 0 0)) (map.get tree.nodes root_number) (DirectoryNode 0 0)
      (get-insert_same nat_cmp_total map.nat_cmp-IsAntisymmetric map.empty root_number (DirectoryNode 0 0)) (refl, refl, refl);
  links = sym one_path;
}

each : (path : Path) (tag : Tag) (of : Kind) → led_to root_alone path ≡ led_as tag of → IsIn root_alone tree tag of
each [] tag of led = subst (λ (led : Tag × Kind). IsIn root_alone tree led.0 led.1) (some_inj led) root_in
each (name ∷ path) tag of led = absurd (none≢some led)

directories : (dir : Tag) → IsDirectory root_alone dir → IsWellFormed root_alone dir
directories dir there = by_tag (IsWellFormed root_alone dir) dir root_tag
    (λ same. subst (IsWellFormed root_alone) (sym same) (empty_is_well_formed_lem root_alone root_tag (new_file Directory 0 0) refl refl refl refl))
    (λ other. absurd (subst (λ (o : Option Bitfile). IsSomeAnd o (λ f. f.kind ≡ Directory)) (at_root dir other) there))

live : (tag : Tag) (file : Bitfile) → root_alone tag ≡ Some file → (path : Path) × (led_to root_alone path ≡ led_as tag file.kind)
live tag file there = by_tag ((path : Path) × (led_to root_alone path ≡ led_as tag file.kind)) tag root_tag
    (λ same.
    let is : new_file Directory 0 0 ≡ file = some_inj (ap root_alone (sym same) ∙ there) in
    ([], ap (λ t. led_as t Directory) (sym same) ∙ ap (λ (f : Bitfile). led_as tag f.kind) is))
    (λ other. absurd (none≢some (sym (at_root tag other) ∙ there)))

seq : (tag : Tag) (file : Bitfile) → root_alone tag ≡ Some file → tag.seq < 2 ^ 16
seq tag file there = by_tag (tag.seq < 2 ^ 16) tag root_tag
    (λ same. subst (λ (t : Tag). t.seq < 2 ^ 16) (sym same) (omega arith))
    (λ other. absurd (none≢some (sym (at_root tag other) ∙ there)))

alone_original : IsOriginal root_alone slot
alone_original = record {
  names = original_names root_alone slot refl paths each directories live seq;
  role = refl;
  valid = empty_fileset-valid root_number;
}

pub root_original_lem : RootIsOriginal
root_original_lem files alone = subst (λ (fs : Bitfiles). IsOriginal fs slot) (λ i tag. sym (alone tag) i) alone_original
