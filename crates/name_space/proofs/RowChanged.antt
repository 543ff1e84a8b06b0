-- Where paths lead after one name of one directory got another row, or lost its row.
use Rattle.std.proofs.Common.{◌≡◌, ◌≢◌, ◌∙◌, Bool, true, false, [], ◌∷◌, ◌++◌, Option, Some, None, length, length-append, append_assoc, append-nil, refl, sym, ap, arith}
use Rattle.std.specs.Option.{option_and_then}
use Rattle.plain_program.specs.domain_base.declared.place.Kind.{Kind}
use Rattle.plain_program.specs.domain_base.declared.place.Kind.TheVariants.{Directory}
use Rattle.plain_program.specs.domain_base.declared.place.Tag.{Tag}
use Rattle.directory_rows.specs.page_store.Bitfiles.{Bitfiles, same_tag}
use Rattle.directory_rows.specs.directory_pages.Rows.{found}
use Rattle.directory_rows.specs.Directory.{rows_in}
use Rattle.plain_program.specs.fileset_values.Orders.{Name, Path}
use Rattle.name_space.specs.Names.{led_from, led_to, root_tag}
use Rattle.name_space.proofs.Leads.{led-append, led-name}
use Rattle.name_space.proofs.Originals.{tags_same}

module _ (old new : Bitfiles) (dir : Tag) (place : Path) (name : Name) (led : led_to old place ≡ Some (dir, Directory))
    (one : (q : Path) (of : Kind) → led_to old q ≡ Some (dir, of) → q ≡ place)
    (others : (t : Tag) → same_tag t dir ≡ false → rows_in new t ≡ rows_in old t)
    (rest : (n : Name) → n ≢ name → found n (rows_in new dir) ≡ found n (rows_in old dir)) where
  step : (q : Path) (n : Name) → led_to new q ≡ led_to old q → (q ≡ place → n ≢ name) → led_to new (q ++ n ∷ []) ≡ led_to old (q ++ n ∷ [])
  step q n same apart =
      led-name new q n ∙ ap (option_and_then (λ (led : Tag × Kind). found n (rows_in new led.0))) same ∙ by_led (led_to old q) refl ∙ sym (led-name old q n)
    where
      by_tag : (t : Tag) (of : Kind) → led_to old q ≡ Some (t, of) → (b : Bool) → same_tag t dir ≡ b → found n (rows_in new t) ≡ found n (rows_in old t)
      by_tag t of is false other = ap (found n) (others t other)
      by_tag t of is true here =
          let it = tags_same t dir here in
          ap (λ t. found n (rows_in new t)) it ∙ rest n (apart (one q of (is ∙ ap (λ t. Some (t, of)) it))) ∙ sym (ap (λ t. found n (rows_in old t)) it)

      by_led : (o : Option (Tag × Kind)) → led_to old q ≡ o → option_and_then (λ (led : Tag × Kind). found n (rows_in new led.0)) o ≡ option_and_then (λ (led : Tag × Kind). found n (rows_in old led.0)) o
      by_led None is = refl
      by_led (Some row) is = by_tag row.0 row.1 is (same_tag row.0 dir) refl

  onward : (front more : Path) → led_to new front ≡ led_to old front → ((tail : Path) → front ++ more ≢ place ++ name ∷ tail) → led_to new (front ++ more) ≡ led_to old (front ++ more)
  onward front [] same apart = ap (led_to new) (append-nil front) ∙ same ∙ sym (ap (led_to old) (append-nil front))
  onward front (n ∷ more) same apart =
      let e : front ++ n ∷ more ≡ (front ++ n ∷ []) ++ more = sym (append_assoc front (n ∷ []) more) in
      ap (led_to new) e
      ∙ onward (front ++ n ∷ []) more (step front n same (λ at is. apart more (ap (λ p. p ++ n ∷ more) at ∙ ap (λ m. place ++ m ∷ more) is))) (λ tail is. apart tail (e ∙ is))
      ∙ sym (ap (led_to old) e)

  -- a path that does not pass the name leads where it led
  pub led_elsewhere : (q : Path) → ((tail : Path) → q ≢ place ++ name ∷ tail) → led_to new q ≡ led_to old q
  led_elsewhere q apart = onward [] q refl apart

  pub led_place : led_to new place ≡ Some (dir, Directory)
  led_place = led_elsewhere place (λ tail is. absurd (omega (arith, ap length is, length-append place (name ∷ tail)))) ∙ led

  -- and one that does leads on from what its row names
  pub led_below : (tail : Path) → led_to new (place ++ name ∷ tail) ≡ option_and_then (λ row. led_from new row tail) (found name (rows_in new dir))
  led_below tail =
      led-append new (root_tag, Directory) place (name ∷ tail)
      ∙ ap (option_and_then (λ (led : Tag × Kind). led_from new led (name ∷ tail))) led_place
