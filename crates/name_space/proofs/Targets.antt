-- What stands at a path whose way is clear.
use Rattle.std.proofs.Common.{◌≡◌, ◌∙◌, ℕ, ◌+◌, ◌-◌, Bool, true, false, not, is_some, [], ◌∷◌, Option, Some, None, length, take, take_all, get_or, refl, sym, ap, subst, arith}
use Rattle.std.specs.Option.{option_and_then, option_map}
use Rattle.std.specs.FinMap.{contains_key}
use Rattle.plain_program.specs.domain_base.declared.place.Kind.{Kind}
use Rattle.plain_program.specs.domain_base.declared.place.Tag.{Tag}
use Rattle.directory_rows.specs.page_store.Bitfiles.{Bitfiles}
use Rattle.directory_rows.specs.directory_pages.Rows.{found}
use Rattle.directory_rows.specs.Directory.{rows_in}
use Rattle.plain_program.specs.fileset_model.Apply.{path_taken}
use Rattle.plain_program.specs.fileset_model.LooksLike.{IsShown}
use Rattle.plain_program.specs.fileset_values.Orders.{Name, Path}
use Rattle.plain_program.specs.fileset_model.Paths.{first_refusal, refuse_if, target_refusal, walk_refusal}
use Rattle.plain_program.specs.fileset_model.declared.fileset.FilesetSlot.{FilesetSlot}
use Rattle.plain_program.specs.fileset_values.declared.reply.Refusal.{Refusal}
use Rattle.plain_program.specs.fileset_values.declared.reply.Refusal.TheVariants.{Exists, NoPath}
use Rattle.name_space.specs.Changes.{free_checks}
use Rattle.name_space.specs.Names.{Names, led_to, number_of}
use Rattle.name_space.specs.Walks.{IsWayTo}
use Rattle.name_space.proofs.Leads.{led-more}
use Rattle.name_space.proofs.Ways.{next_shown}
use Rattle.name_space.proofs.Walked.{clear_walked}

module _ (files : Bitfiles) (slot : FilesetSlot) (names : Names files slot) (path : Path) (last : ℕ) (dir : Tag) (name : Name) (is_last : last + 1 ≡ length path)
    (way : IsWayTo files path last dir) (is : name ≡ get_or path last name) (clear : walk_refusal slot path ≡ None) where
  whole : take (last + 1) path ≡ path
  whole = take_all (last + 1) path (omega (arith, is_last))

  shown : IsShown slot path
  shown =
      let low : length path - 1 ≡ last = omega (arith, is_last) in
      let all = clear_walked slot path (omega (arith, is_last)) clear in
      subst (IsShown slot) whole (next_shown slot path last (λ before le. all before (omega (arith, le, low))))

  led : led_to files path ≡ found name (rows_in files dir)
  led =
      ap (led_to files) (sym whole)
      ∙ led-more files path last name (omega (arith, is_last))
      ∙ ap (option_and_then (λ (led : Tag × Kind). found (get_or path last name) (rows_in files led.0))) way.led
      ∙ ap (λ n. found n (rows_in files dir)) (sym is)

  -- the path is taken where its row is there
  pub last_taken : path_taken slot path ≡ refuse_if (is_some (found name (rows_in files dir))) Exists
  last_taken =
      ap (λ (o : Option ℕ). refuse_if (is_some o) Exists) (names.paths path shown ∙ ap (option_map (λ (led : Tag × Kind). number_of led.0)) led)
      ∙ ap (λ b. refuse_if b Exists) (mapped (found name (rows_in files dir)))
    where
      mapped : (o : Option (Tag × Kind)) → is_some (option_map (λ (led : Tag × Kind). number_of led.0) o) ≡ is_some o
      mapped None = refl
      mapped (Some row) = refl

  pub free_checked : (o : Option (Tag × Kind)) → found name (rows_in files dir) ≡ o → first_refusal (free_checks path slot) ≡ refuse_if (is_some o) Exists
  free_checked o row =
      ap (λ (r : Option Refusal). first_refusal (r ∷ path_taken slot path ∷ [])) clear
      ∙ ap (λ (r : Option Refusal). first_refusal (r ∷ [])) (last_taken ∙ ap (λ o. refuse_if (is_some o) Exists) row) ∙ one (is_some o)
    where
      one : (b : Bool) → first_refusal (refuse_if b Exists ∷ []) ≡ refuse_if b Exists
      one true = refl
      one false = refl

  -- the refusal of a target whose way is clear, by what its path has
  by_path : target_refusal slot path ≡ first_refusal (None ∷ refuse_if (not (is_some (option_map (λ (led : Tag × Kind). number_of led.0) (found name (rows_in files dir))))) NoPath ∷ [])
  by_path =
      ap (λ (r : Option Refusal). first_refusal (r ∷ refuse_if (not (contains_key slot.tree.paths path)) NoPath ∷ [])) clear
      ∙ ap (λ (o : Option ℕ). first_refusal (None ∷ refuse_if (not (is_some o)) NoPath ∷ [])) (names.paths path shown ∙ ap (option_map (λ (led : Tag × Kind). number_of led.0)) led)

  pub target_there : (at : Tag × Kind) → found name (rows_in files dir) ≡ Some at → (target_refusal slot path ≡ None) × (led_to files path ≡ Some at)
  target_there at row = (
    by_path ∙ ap (λ (o : Option (Tag × Kind)). first_refusal (None ∷ refuse_if (not (is_some (option_map (λ (led : Tag × Kind). number_of led.0) o))) NoPath ∷ [])) row,
    led ∙ row,
  )

  pub target_lost : found name (rows_in files dir) ≡ None → target_refusal slot path ≡ Some NoPath
  target_lost none = by_path ∙ ap (λ (o : Option (Tag × Kind)). first_refusal (None ∷ refuse_if (not (is_some (option_map (λ (led : Tag × Kind). number_of led.0) o))) NoPath ∷ [])) none
