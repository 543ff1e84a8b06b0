-- The rows of a directory, entry by entry.
use Rattle.std.proofs.Common.{◌≡◌, ℕ, ◌+◌, ◌<◌, Bool, List, [], ◌∷◌, ◌++◌, false, length, take, get_or, append-nil, Option, Some, None, ap, sym, ◌∙◌}
use Rattle.std.proofs.lemmas.List.{take_more}
use Rattle.std.proofs.lemmas.List.Elements.{filter_map-append}
use Rattle.std.specs.List.{cons_option, filter_map}
use Rattle.std.specs.Option.{option_and_then, option_map_or}
use Rattle.std.specs.FinMap.{get}
use Rattle.fileset_values.specs.Orders.{Name, Path}
use Rattle.fileset_model.specs.Fileset.{Fileset}
use Rattle.fileset_model.specs.Paths.{is_directory, name_below}
use Rattle.fileset_values.specs.declared.reply.NameItem.{NameItem}

-- the row that an entry of the paths makes in the directory at `parent`
abbrev pub row_of : Fileset → Path → Path × ℕ → Option NameItem
row_of tree parent e =
    option_and_then (λ name. Some (record { name = name; directory = option_map_or is_directory (get tree.nodes e.1) false })) (name_below parent e.0)

-- one entry more makes its row, or none
pub rows-more : (tree : Fileset) (parent : Path) (es : List (Path × ℕ)) (i : ℕ) (e : Path × ℕ) → i < length es → e ≡ get_or es i e
    → filter_map (row_of tree parent) (take (i + 1) es) ≡ filter_map (row_of tree parent) (take i es) ++ filter_map (row_of tree parent) (e ∷ [])
rows-more tree parent es i e within is =
    ap (filter_map (row_of tree parent)) (take_more es i e within ∙ ap (λ x. take i es ++ x ∷ []) (sym is))
    ∙ filter_map-append (row_of tree parent) (take i es) (e ∷ [])

module _ (tree : Fileset) (parent : Path) (es : List (Path × ℕ)) (i : ℕ) (e : Path × ℕ) (within : i < length es) (is : e ≡ get_or es i e) where
  pub row-more : (name : Name) (directory : Bool) → Some name ≡ name_below parent e.0 → directory ≡ option_map_or is_directory (get tree.nodes e.1) false
      → filter_map (row_of tree parent) (take (i + 1) es) ≡ filter_map (row_of tree parent) (take i es) ++ record { name = name; directory = directory } ∷ []
  row-more name directory named test =
      let before = filter_map (row_of tree parent) (take i es) in
      let row : Bool → Name → Option NameItem = λ d n. Some (record { name = n; directory = d }) in
      rows-more tree parent es i e within is
      ∙ ap (λ (o : Option Name). before ++ cons_option (option_and_then (row (option_map_or is_directory (get tree.nodes e.1) false)) o) []) (sym named)
      ∙ ap (λ d. before ++ cons_option (row d name) []) (sym test)

  pub no-row-more : None ≡ name_below parent e.0 → filter_map (row_of tree parent) (take (i + 1) es) ≡ filter_map (row_of tree parent) (take i es)
  no-row-more none =
      let before = filter_map (row_of tree parent) (take i es) in
      let row : Name → Option NameItem = λ n. Some (record { name = n; directory = option_map_or is_directory (get tree.nodes e.1) false }) in
      rows-more tree parent es i e within is
      ∙ ap (λ (o : Option Name). before ++ cons_option (option_and_then row o) []) (sym none)
      ∙ append-nil before
