use Rattle.std.proofs.Common.{◌≡◌, ℕ, List, Some, [], ◌∷◌, ◌++◌, codes, sym, ap, ◌∙◌}
use Rattle.std.proofs.lemmas.Grind.{flat_map-append}
use Rattle.std.proofs.lemmas.List.{append-nil}
use Rattle.word_forms.specs.Texts.{behind_spaces, place_text}
use Rattle.command_text.specs.Texts.{option_words, command_text}
use Rattle.word_forms.proofs.Joined.{added, join_with_byte-cons}
use Rattle.command_text.proofs.writing.push_migrate.Goals as goal

pub returns : goal.returns
unfolding command_text
returns c =
    let behind : List ℕ → List ℕ = λ word. 32 ∷ word in
    let name = codes "migrate" in
    let first = option_words (codes "-p") c.args.first in
    let count = option_words (codes "-n") c.args.count in
    let from = option_words (codes "-s") c.args.from in
    let to = option_words (codes "-d") (Some c.args.to) in
    let place = place_text c.args.place.now in
    let words : behind_spaces (first ++ count ++ from ++ (to ++ place ∷ [])) ≡ ((behind_spaces first ++ behind_spaces count) ++ behind_spaces from) ++ (behind_spaces to ++ (32 ∷ place)) =
    flat_map-append behind (first ++ count ++ from) (to ++ place ∷ [])
    ∙ ap (λ (xs : List ℕ). xs ++ behind_spaces (to ++ place ∷ [])) (flat_map-append behind (first ++ count) from ∙ ap (λ (xs : List ℕ). xs ++ behind_spaces from) (flat_map-append behind first count))
    ∙ ap (λ (xs : List ℕ). ((behind_spaces first ++ behind_spaces count) ++ behind_spaces from) ++ xs)
    (flat_map-append behind to (place ∷ []) ∙ ap (λ (xs : List ℕ). behind_spaces to ++ xs) (append-nil (32 ∷ place))) in
    rw (
      c.in_ok-push_placed.ensures,
      c.in_ok-push_option-4.ensures,
      c.in_ok-push_option-3.ensures,
      c.in_ok-push_option-2.ensures,
      c.in_ok-push_option.ensures,
      c.in_ok-extend_from_slice.ensures.items,
    )
    (added c.args.out.now.items name (behind_spaces first) (behind_spaces count) (behind_spaces from) (behind_spaces to) place
    ∙ ap (λ (xs : List ℕ). c.args.out.now.items ++ xs) (sym (join_with_byte-cons 32 name (first ++ count ++ from ++ (to ++ place ∷ [])) ∙ ap (λ (xs : List ℕ). name ++ xs) words)))
