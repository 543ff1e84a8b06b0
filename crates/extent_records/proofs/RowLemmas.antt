-- One row after the other.
use Rattle.std.proofs.Common.{◌≡◌, ℕ, zero, suc, ◌+◌, ◌<◌, List, [], ◌∷◌, ◌++◌, length, get_or, take, drop, refl, sym, ap, ◌∙◌, arith}
use Rattle.std.specs.List.{flat_map, AllByRecursion}
use Rattle.std.proofs.lemmas.List.{append-nil, take-append-drop, take_more}
use Rattle.std.proofs.lemmas.Grind.{flat_map-append}
use Rattle.extent_maps.specs.declared.run.Run.{Run}
use Rattle.extent_maps.specs.declared.run.PagePlace.{PagePlace}
use Rattle.extent_maps.specs.declared.run.PagePlace.TheVariants.{At, Hole, Absent}
use Rattle.extent_maps.specs.Runs.{place_of}
use Rattle.extent_maps.proofs.EditLemmas.{over, place_append}
use Rattle.extent_records.proofs.PutLemmas.{all_back, all_front}

over_there : (a b : PagePlace) → (a ≡ Absent → ⊥) → over a b ≡ a
over_there a b some = go a some
  where
    go : (a : PagePlace) → (a ≡ Absent → ⊥) → over a b ≡ a
    go Absent = λ some. absurd (some refl)
    go (At home) = λ some. refl
    go Hole = λ some. refl

module _ {X : Type 0} (f : X → List Run) where
  pub row_all : (P : Run → Type 0) (rows : List X) (i : ℕ) (d : X) → i < length rows → AllByRecursion P (flat_map f rows) → AllByRecursion P (f (get_or rows i d))
  row_all P [] i d lt h = absurd (omega arith)
  row_all P (r ∷ rs) zero d lt h = all_front P (f r) (flat_map f rs) h
  row_all P (r ∷ rs) (suc i) d lt h = row_all P rs i d (omega arith) (all_back P (f r) (flat_map f rs) h)

  flat_more : (rows : List X) (i : ℕ) (d : X) → i < length rows → flat_map f (take (i + 1) rows) ≡ flat_map f (take i rows) ++ f (get_or rows i d)
  flat_more rows i d lt =
      ap (flat_map f) (take_more rows i d lt) ∙ flat_map-append f (take i rows) (get_or rows i d ∷ [])
      ∙ ap (λ l. flat_map f (take i rows) ++ l) (append-nil (f (get_or rows i d)))

  pub place_next : (rows : List X) (i : ℕ) (d : X) (p : ℕ) → i < length rows → place_of (flat_map f (take i rows)) p ≡ Absent
      → place_of (flat_map f (take (i + 1) rows)) p ≡ place_of (f (get_or rows i d)) p
  place_next rows i d p lt none =
      ap (λ l. place_of l p) (flat_more rows i d lt) ∙ place_append (flat_map f (take i rows)) (f (get_or rows i d)) p
      ∙ ap (λ x. over x (place_of (f (get_or rows i d)) p)) none

  pub place_found : (rows : List X) (i : ℕ) (d : X) (p : ℕ) → i < length rows → place_of (flat_map f (take i rows)) p ≡ Absent
      → (place_of (f (get_or rows i d)) p ≡ Absent → ⊥) → place_of (flat_map f rows) p ≡ place_of (f (get_or rows i d)) p
  place_found rows i d p lt none some =
      let whole : flat_map f rows ≡ flat_map f (take (i + 1) rows) ++ flat_map f (drop (i + 1) rows) = ap (flat_map f) (sym (take-append-drop (i + 1) rows)) ∙ flat_map-append f (take (i + 1) rows) (drop (i + 1) rows) in
      ap (λ l. place_of l p) whole ∙ place_append (flat_map f (take (i + 1) rows)) (flat_map f (drop (i + 1) rows)) p
      ∙ ap (λ x. over x (place_of (flat_map f (drop (i + 1) rows)) p)) (place_next rows i d p lt none)
      ∙ over_there (place_of (f (get_or rows i d)) p) (place_of (flat_map f (drop (i + 1) rows)) p) some
