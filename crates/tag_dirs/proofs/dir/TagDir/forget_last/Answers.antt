use Rattle.std.proofs.Common.{take, ◌-◌, length-take, ◌≡◌, ◌∙◌, ◌++◌, ◌∷◌, [], cond, nat_eq, List, length, vec_len, length-append, Option, None, ℕ, sym, ap, arith, rules}
use Rattle.tag_dirs.specs.declared.dir.TagPlace.{TagPlace}
use Rattle.tag_dirs.specs.Directory.{home_with, number_with}
use Rattle.tag_dirs.proofs.Places.{number_forgotten}
use Rattle.tag_dirs.proofs.dir.TagDir.forget_last.Goals as goal

pub invariant_of-self : goal.invariant_of-self
invariant_of-self c =
    let places = c.self.inside.places.items in
    let place = c.in-Some.place in
    let popped = c.pop.new.self.items in
    let items : places ≡ popped ++ place ∷ [] = c.in-Some.ensures.items in
    let unused : home_with popped place.index ≡ None = c.requires popped place (sym c.self.view_is ∙ items) in
    record {
      table = λ i.
          c.remove.ensures.updates.0 i ∙ ap (λ (o : Option ℕ). cond (nat_eq place.index i) None o) (c.self.invariant.table i ∙ ap (λ (ps : List TagPlace). number_with ps i) items)
          ∙ number_forgotten popped place i unused;
      guessed =
          let guesses = c.self.inside.guesses in
          let rest : c.pop-in-Some.new.self.items ≡ take (vec_len guesses - 1) guesses.items = c.pop-in-Some.ensures.rest in
          let as_items : vec_len guesses ≡ length guesses.items = search rules in
          let fewer : vec_len c.pop-in-Some.new.self ≡ length c.pop-in-Some.new.self.items = search rules in
          omega (arith, c.self.invariant.guessed, ap length items, length-append popped (place ∷ []), as_items, fewer, ap length rest, length-take (vec_len guesses - 1) guesses.items);
    }
