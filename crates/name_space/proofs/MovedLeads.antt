-- Where paths lead after a row went from one directory, and one naming the same came to another.
use Rattle.std.proofs.Common.{◌≡◌, ◌≢◌, ◌∙◌, Bool, true, false, [], ◌∷◌, ◌++◌, Option, Some, None, length, length-append, append_assoc, inl, inr, refl, sym, ap, arith, true≢false}
use Rattle.std.specs.Option.{option_and_then}
use Rattle.plain_program.specs.domain_base.declared.place.Kind.{Kind}
use Rattle.plain_program.specs.domain_base.declared.place.Kind.TheVariants.{Directory}
use Rattle.plain_program.specs.domain_base.declared.place.Tag.{Tag}
use Rattle.directory_rows.specs.page_store.Bitfiles.{Bitfiles, same_tag}
use Rattle.directory_rows.specs.directory_pages.Rows.{found}
use Rattle.directory_rows.specs.Directory.{rows_in}
use Rattle.plain_program.specs.fileset_values.Orders.{Name, Path}
use Rattle.plain_program.specs.fileset_model.Paths.{begins_with}
use Rattle.plain_program.proofs.OfLegalHistories.ValidMoveLemmas.{begins, begins_of}
use Rattle.name_space.specs.Names.{led_from, led_to, root_tag}
use Rattle.name_space.proofs.CreatedNames.{by_tag, led_as}
use Rattle.name_space.proofs.Leads.{led-append}
use Rattle.name_space.proofs.MovedPaths.{fronts}
use Rattle.name_space.proofs.RowChanged.{led_below, led_elsewhere}

none≢some : {X : Type 0} {x : X} → (¬ None ≡ Some x)
none≢some e = cc

-- a way leads where it led if no directory on it got other rows
led_as_before : (old new : Bitfiles) (start : Tag × Kind) (tail : Path) → ((t : Path) (tag : Tag) (of : Kind) → led_from old start t ≡ led_as tag of → rows_in new tag ≡ rows_in old tag)
    → led_from new start tail ≡ led_from old start tail
led_as_before old new start [] same = refl
led_as_before old new start (name ∷ tail) same =
    ap (λ rows. option_and_then (λ row. led_from new row tail) (found name rows)) (same [] start.0 start.1 refl)
    ∙ onward (found name (rows_in old start.0)) (λ row is. led_as_before old new row tail (λ t tag of led. same (name ∷ t) tag of (ap (option_and_then (λ row. led_from old row t)) is ∙ led)))
  where
    onward : (o : Option (Tag × Kind)) → ((row : Tag × Kind) → o ≡ Some row → led_from new row tail ≡ led_from old row tail)
        → option_and_then (λ row. led_from new row tail) o ≡ option_and_then (λ row. led_from old row tail) o
    onward None each = refl
    onward (Some row) each = each row refl

module _ (old mid new : Bitfiles) (from_dir to_dir : Tag) (from_place to_place : Path) (from_name to_name : Name) (tag : Tag) (of : Kind)
    (from_led : led_to old from_place ≡ led_as from_dir Directory) (to_led : led_to old to_place ≡ led_as to_dir Directory)
    (one : (place : Path) (dir : Tag) → led_to old place ≡ led_as dir Directory → (q : Path) (k : Kind) → led_to old q ≡ led_as dir k → q ≡ place)
    (named : found from_name (rows_in old from_dir) ≡ led_as tag of) (free : found to_name (rows_in old to_dir) ≡ None)
    (apart : begins_with (to_place ++ to_name ∷ []) (from_place ++ from_name ∷ []) ≡ false)
    (mid_others : (t : Tag) → same_tag t from_dir ≡ false → rows_in mid t ≡ rows_in old t)
    (mid_rest : (n : Name) → n ≢ from_name → found n (rows_in mid from_dir) ≡ found n (rows_in old from_dir))
    (mid_gone : found from_name (rows_in mid from_dir) ≡ None)
    (new_others : (t : Tag) → same_tag t to_dir ≡ false → rows_in new t ≡ rows_in mid t)
    (new_rest : (n : Name) → n ≢ to_name → found n (rows_in new to_dir) ≡ found n (rows_in mid to_dir))
    (new_put : found to_name (rows_in new to_dir) ≡ led_as tag of) where
  abbrev from : Path
  from = from_place ++ from_name ∷ []

  abbrev to : Path
  to = to_place ++ to_name ∷ []

  spelled : (place : Path) (name : Name) (tail : Path) → (place ++ name ∷ []) ++ tail ≡ place ++ name ∷ tail
  spelled place name tail = append_assoc place (name ∷ []) tail

  -- ---- before

  old_below : (tail : Path) → led_to old (from ++ tail) ≡ led_from old (tag, of) tail
  old_below tail =
      ap (led_to old) (spelled from_place from_name tail)
      ∙ led-append old (root_tag, Directory) from_place (from_name ∷ tail)
      ∙ ap (option_and_then (λ (led : Tag × Kind). led_from old led (from_name ∷ tail))) from_led
      ∙ ap (option_and_then (λ row. led_from old row tail)) named

  pub old_free : (tail : Path) → led_to old (to ++ tail) ≡ None
  old_free tail =
      ap (led_to old) (spelled to_place to_name tail)
      ∙ led-append old (root_tag, Directory) to_place (to_name ∷ tail)
      ∙ ap (option_and_then (λ (led : Tag × Kind). led_from old led (to_name ∷ tail))) to_led
      ∙ ap (option_and_then (λ row. led_from old row tail)) free

  -- ---- between

  apart_of : (front q : Path) (name : Name) (tail : Path) → begins_with q (front ++ name ∷ []) ≡ false → q ≢ front ++ name ∷ tail
  apart_of front q name tail other e = true≢false (sym (begins_of q (front ++ name ∷ []) tail (e ∙ sym (spelled front name tail))) ∙ other)

  mid_below : (tail : Path) → led_to mid (from ++ tail) ≡ None
  mid_below tail =
      ap (led_to mid) (spelled from_place from_name tail)
      ∙ led_below old mid from_dir from_place from_name from_led (one from_place from_dir from_led) mid_others mid_rest tail
      ∙ ap (option_and_then (λ row. led_from mid row tail)) mid_gone

  mid_other : (q : Path) → begins_with q from ≡ false → led_to mid q ≡ led_to old q
  mid_other q other = led_elsewhere old mid from_dir from_place from_name from_led (one from_place from_dir from_led) mid_others mid_rest q (λ tail. apart_of from_place q from_name tail other)

  -- what is below what moves is not the directory to which it moves
  not_below : (q : Path) → q ≡ to_place → begins_with q from ≡ false
  not_below q is = elim (begins_with q from) as (λ b. begins_with q from ≡ b → b ≡ false) [
    | true ↦ λ h.
        let rest = begins q from h in
        absurd (true≢false (sym (begins_of to from (_ ++ to_name ∷ []) (ap (λ p. p ++ to_name ∷ []) (sym is ∙ rest) ∙ append_assoc from _ (to_name ∷ []))) ∙ apart))
    | false ↦ λ h. refl
  ] refl

  mid_led : led_to mid to_place ≡ led_as to_dir Directory
  mid_led = mid_other to_place (not_below to_place refl) ∙ to_led

  mid_one : (q : Path) (k : Kind) → led_to mid q ≡ led_as to_dir k → q ≡ to_place
  mid_one q k led = elim (begins_with q from) as (λ b. begins_with q from ≡ b → q ≡ to_place) [
    | true ↦ λ h. absurd (none≢some (sym (ap (led_to mid) (begins q from h) ∙ mid_below _) ∙ led))
    | false ↦ λ h. one to_place to_dir to_led q k (sym (mid_other q h) ∙ led)
  ] refl

  -- ---- after

  new_below : (tail : Path) → led_to new (to ++ tail) ≡ led_from new (tag, of) tail
  new_below tail =
      ap (led_to new) (spelled to_place to_name tail)
      ∙ led_below mid new to_dir to_place to_name mid_led mid_one new_others new_rest tail
      ∙ ap (option_and_then (λ row. led_from new row tail)) new_put

  new_other : (q : Path) → begins_with q to ≡ false → led_to new q ≡ led_to mid q
  new_other q other = led_elsewhere mid new to_dir to_place to_name mid_led mid_one new_others new_rest q (λ tail. apart_of to_place q to_name tail other)

  -- below what moves no directory got other rows
  below_same : (t : Path) (d : Tag) (k : Kind) → led_from old (tag, of) t ≡ led_as d k → rows_in new d ≡ rows_in old d
  below_same t d k led =
      let whole : led_to old (from ++ t) ≡ led_as d k = old_below t ∙ led in
      by_tag (rows_in new d ≡ rows_in old d) d to_dir
      (λ same.
      let at : from ++ t ≡ to_place = one to_place to_dir to_led (from ++ t) k (whole ∙ ap (λ d. led_as d k) same) in
      absurd (true≢false (sym (begins_of (from ++ t) from t refl) ∙ not_below (from ++ t) at)))
      (λ other. new_others d other ∙ by_tag (rows_in mid d ≡ rows_in old d) d from_dir
      (λ same.
      let at : from ++ t ≡ from_place = one from_place from_dir from_led (from ++ t) k (whole ∙ ap (λ d. led_as d k) same) in
      absurd (omega (arith, ap length at, length-append from t, length-append from_place (from_name ∷ []))))
      (λ away. mid_others d away))

  -- the second path leads where the first led, as all below it
  pub at_to : (tail : Path) → led_to new (to ++ tail) ≡ led_to old (from ++ tail)
  at_to tail = new_below tail ∙ led_as_before old new (tag, of) tail below_same ∙ sym (old_below tail)

  pub at_other : (q : Path) → begins_with q from ≡ false → begins_with q to ≡ false → led_to new q ≡ led_to old q
  at_other q no_from no_to = new_other q no_to ∙ mid_other q no_from

  -- the first path leads nowhere
  pub at_from : (tail : Path) → led_to new (from ++ tail) ≡ None
  at_from tail = new_other (from ++ tail) (no_to (begins_with (from ++ tail) to) refl) ∙ mid_below tail
    where
      from_itself : led_to old from ≡ led_as tag of
      from_itself =
          led-append old (root_tag, Directory) from_place (from_name ∷ [])
          ∙ ap (option_and_then (λ (led : Tag × Kind). led_from old led (from_name ∷ []))) from_led
          ∙ ap (option_and_then (λ row. led_from old row [])) named

      no_to : (b : Bool) → begins_with (from ++ tail) to ≡ b → begins_with (from ++ tail) to ≡ false
      no_to false is = is
      no_to true is = elim (fronts from to tail _ (begins (from ++ tail) to is)) as (λ _. begins_with (from ++ tail) to ≡ false) [
        | inl longer ↦ absurd (none≢some (sym (old_free longer.0) ∙ sym (ap (led_to old) longer.1) ∙ from_itself))
        | inr longer ↦ absurd (true≢false (sym (begins_of to from longer.0 longer.1) ∙ apart))
      ]
