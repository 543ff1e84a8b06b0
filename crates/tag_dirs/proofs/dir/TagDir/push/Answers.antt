use Rattle.std.proofs.Common.{◌≡◌, ◌∙◌, ◌++◌, ◌∷◌, ◌+◌, [], Option, Some, None, cond, nat_eq, List, length, vec_len, length-append, ℕ, sym, ap, subst, arith, rules}
use Rattle.tag_dirs.specs.declared.dir.TagPlace.{TagPlace}
use Rattle.tag_dirs.specs.Directory.{home_with, number_with}
use Rattle.tag_dirs.proofs.Places.{number_pushed}
use Rattle.tag_dirs.proofs.dir.TagDir.push.Goals as goal

pub invariant_of-self-2 : goal.invariant_of-self-2
invariant_of-self-2 c =
    let places = c.self.inside.places.items in
    let place = c.args.place in
    let unused : home_with places place.index ≡ None = subst (λ (ps : List TagPlace). home_with ps place.index ≡ None) (sym c.self.view_is) c.requires in
    let items : c.push_reserved.new.self.items ≡ places ++ place ∷ [] = c.push_reserved.ensures.items ∙ ap (λ (xs : List TagPlace). xs ++ place ∷ []) c.reserve.ensures.items in
    let as_items : vec_len c.self.inside.places ≡ length places = search rules in
    let count : c.len.result ≡ length places = c.len.ensures ∙ c.reserve.ensures.len ∙ as_items in
    record {
      table = λ i.
          c.in_ok-insert.ensures.updates.0 i ∙ ap (λ (o : Option ℕ). cond (nat_eq place.index i) (Some c.len.result) o) (c.self.invariant.table i)
          ∙ ap (λ n. cond (nat_eq place.index i) (Some n) (number_with places i)) count ∙ sym (number_pushed places place i unused)
          ∙ sym (ap (λ (ps : List TagPlace). number_with ps i) items);
      guessed = let longer : length c.push_reserved.new.self.items ≡ length places + 1 = ap length items ∙ length-append places (place ∷ []) in
          omega (arith, c.push_reserved-2.ensures.len, c.reserve-2.ensures.len, c.self.invariant.guessed, longer);
    }
