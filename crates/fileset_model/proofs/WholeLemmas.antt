-- A search over all filesets, and the clone of one.
use Rattle.std.proofs.Common.{◌≡◌, ℕ, ◌+◌, ◌<◌, Bool, ◌||◌, List, ◌∷◌, length, drop, get_or, map as map_each, Some, sym, ap, ◌∙◌}
use Rattle.std.proofs.lemmas.List.{drop_more}
use Rattle.std.specs.List.{list_any}
use Rattle.std.specs.Option.{option_map_or}
use Rattle.std.specs.FinMap as map
use Rattle.fileset_values.specs.Orders.{Name}
use Rattle.fileset_model.specs.Filesets.{FilesetMap}
use Rattle.fileset_model.specs.Apply.{with_clone}
use Rattle.fileset_model.specs.declared.fileset.FilesetSlot.{FilesetSlot}
use Rattle.fileset_model.specs.declared.fileset.Role.TheVariants.{CloneOf}

-- whether a value of the entries passes a test
abbrev pub any_value : {K X : Type 0} → (X → Bool) → List (K × X) → Bool
any_value test es = list_any test (map_each (λ e. e.1) es)

pub any_value-step : {K X : Type 0} (test : X → Bool) (es : List (K × X)) (i : ℕ) (e : K × X) → i < length es → e ≡ get_or es i e
    → any_value test (drop i es) ≡ (test e.1 || any_value test (drop (i + 1) es))
any_value-step test es i e within is = ap (any_value test) (drop_more es i e within ∙ ap (λ x. x ∷ drop (i + 1) es) (sym is))

-- the clone that `clonefset` makes of a fileset
abbrev pub cloned : Name → FilesetSlot → FilesetSlot
cloned name slot = record { tree = record slot.tree { limits = map.empty }; role = CloneOf name map.empty }

pub with_clone-at : (all : FilesetMap) (name new_name : Name) (slot : FilesetSlot) → map.get all name ≡ Some slot → with_clone all name new_name ≡ map.insert all new_name (cloned name slot)
with_clone-at all name new_name slot is = ap (λ o. option_map_or (λ found. map.insert all new_name (cloned name found)) o all) is
