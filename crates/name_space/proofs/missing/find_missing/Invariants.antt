use Rattle.std.proofs.Common.{◌≡◌, ◌<◌, ℕ, Some, is_some, true, slice_get}
use Rattle.plain_program.specs.domain_base.declared.place.Kind.TheVariants.{Directory}
use Rattle.directory_rows.specs.declared.led.Led.{Led}
use Rattle.name_space.specs.Parts.{node_in}
use Rattle.name_space.proofs.missing.find_missing.Given as goal

abbrev pub invariant-loop-one : goal.invariant-loop-one
invariant-loop-one l = (k : ℕ) (one : Led) → k < l.one-index → slice_get l.led k ≡ Some one → one.kind ≡ Directory
    → is_some (node_in l.nodes one.tag) ≡ true
