use Rattle.std.proofs.Common.{◌≡◌, ◌∙◌, false, List, ap, sym}
use Rattle.tag_dirs.specs.declared.dir.TagPlace.{TagPlace}
use Rattle.table_tables.specs.Trial.{has_either}
use Rattle.table_tables.proofs.Trials.{no_home, no_index}
use Rattle.table_tables.proofs.trial.Trial.add.Goals as goal

pub add_page-requires-clause-unused : goal.add_page-requires-clause-unused
add_page-requires-clause-unused c =
    let none : has_either c.args.self.now.dir c.args.index c.home-home.result ≡ false = ap (λ (ps : List TagPlace). has_either ps c.args.index c.home-home.result) (sym c.places-places.ensures) ∙ sym c.is_taken.ensures ∙ c.if-is_taken.false in
    no_index c.args.self.now.dir c.args.index c.home-home.result none

pub add_page-requires-clause-apart : goal.add_page-requires-clause-apart
add_page-requires-clause-apart c =
    let none : has_either c.args.self.now.dir c.args.index c.home-home.result ≡ false = ap (λ (ps : List TagPlace). has_either ps c.args.index c.home-home.result) (sym c.places-places.ensures) ∙ sym c.is_taken.ensures ∙ c.if-is_taken.false in
    no_home c.args.self.now.dir c.args.index c.home-home.result none
