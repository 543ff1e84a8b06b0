use Rattle.std.proofs.Common.{List, ℕ, subst, sym}
use Rattle.file_tables.specs.Worlds.{IsSet, with_first_page}
use Rattle.file_tables.proofs.sets.told_pages_in.Goals as goal

pub pages_told-requires : goal.pages_told-requires
pages_told-requires c = subst (λ (b : List ℕ). IsSet c.add_first.new.world (with_first_page c.in_ok-tag.tag b)) (sym c.in_ok-again.ensures.value) c.in_ok-add_first.ensures
