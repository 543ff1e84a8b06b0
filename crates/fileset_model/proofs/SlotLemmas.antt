-- The filesets as a sorted list.
use Rattle.std.proofs.Common.{◌≡◌, ℕ, List, IsTrue, Some, None, get_or, set, sym, ap, ◌∙◌}
use Rattle.std.specs.Option.{option_map_or}
use Rattle.std.specs.FinMap as map
use Rattle.std.specs.FinMap.Entries.{is_sorted}
use Rattle.fileset_values.specs.Orders.{Name, name_cmp, name_cmp-total}
use Rattle.sorted_sets.specs.Entries.{IsPlaceOf}
use Rattle.fileset_model.specs.Fileset.{Fileset}
use Rattle.fileset_model.specs.Filesets.{FilesetMap}
use Rattle.fileset_model.specs.Apply.{with_tree}
use Rattle.fileset_model.specs.declared.fileset.FilesetSlot.{FilesetSlot}
use Rattle.sorted_sets.proofs.EntryLemmas.{find_at_place, get-from_sorted, insert_at_place}

pub with_tree-at : (all : FilesetMap) (name : Name) (slot : FilesetSlot) (change : Fileset → Fileset) → map.get all name ≡ Some slot
    → with_tree all name change ≡ map.insert all name (record slot { tree = change slot.tree })
with_tree-at all name slot change is = ap (λ o. option_map_or (λ found. map.insert all name (record found { tree = change found.tree })) o all) is

pub with_tree-missing : (all : FilesetMap) (name : Name) (change : Fileset → Fileset) → map.get all name ≡ None → with_tree all name change ≡ all
with_tree-missing all name change is = ap (λ o. option_map_or (λ found. map.insert all name (record found { tree = change found.tree })) o all) is

-- a new tree in the place of a fileset
pub tree_at_place : (slots : List (Name × FilesetSlot)) (name : Name) (place : ℕ) (item : Name × FilesetSlot) (tree : Fileset) (change : Fileset → Fileset)
    → IsTrue (is_sorted name_cmp slots) → IsPlaceOf name_cmp slots name place → item ≡ get_or slots place item → tree ≡ change item.1.tree
    → map.from_sorted {R = name_cmp} (set slots place (item.0, record item.1 { tree = tree })) ≡ with_tree (map.from_sorted slots) name change
tree_at_place slots name place item tree change sorted at is changed =
    insert_at_place slots name place item at is name_cmp-total sorted (record item.1 { tree = tree })
    ∙ ap (λ t. map.insert (map.from_sorted {R = name_cmp} slots) name (record item.1 { tree = t })) changed
    ∙ sym (with_tree-at (map.from_sorted slots) name item.1 change (get-from_sorted name_cmp slots name sorted ∙ find_at_place slots name place item at is))
